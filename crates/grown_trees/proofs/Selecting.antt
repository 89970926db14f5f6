-- The selected variables of a staged tree, and which of them a tree that has come to a step selects.
use Rattle.std.proofs.Common.{◌≡◌, ◌≤◌, ◌<◌, ℕ, List, [], ◌∷◌, ◌++◌, Contains, map, refl, sym, ap, ap₂, subst, ◌∙◌, arith, inl, inr}
use Rattle.std.specs.List.{AllByRecursion}
use Rattle.std.proofs.lemmas.List.{map-append}
use Rattle.std.proofs.lemmas.List.Elements.{Contains-append_left, Contains-append_right, Contains-append_cases}
use Rattle.hol_terms.specs.Terms.{Term, free, bound, constant, application, abstraction, Variable}
use Rattle.hol_terms.specs.FreeVariables.{IsFree}
use Rattle.expansion_tree.specs.Budgets.{variable_head, constant_head, heads_of}
use Rattle.expansion_tree.specs.Standing.{Standing, StandingBranches, selected_variables, branch_selected_variables}
use Rattle.dependency.specs.Stages.{StagedTree, staged_leaf, staged_constant, staged_negation, staged_connective, staged_selection, staged_expansion, StagedBranches, none_staged, branch_staged, standing_of, standing_branches_of, Stage, stages, branch_stages, staged_variables, branch_staged_variables}
use Rattle.dependency.proofs.Elements.{Contains-first, first_or_later, none_there, image_of}
use Rattle.grown_trees.specs.Targets.{Matches, BranchesMatch}
use Rattle.grown_trees.proofs.Every.{every_left, every_right, every_both, every_weaker}
use Rattle.grown_trees.proofs.Counted.{times, times-append, counted_here}
use Rattle.grown_trees.proofs.Inserted.{inserted_times}

-- a tree selects no variable more often than the target

mutual
  pub matched_times : (g : StagedTree) (k : ℕ) (v : Variable) (s : Standing) → Matches k g s → times v (selected_variables s) ≤ times v (selected_variables (standing_of g))
  matched_times (staged_leaf p a) k v s h = let none = ap (λ (s : Standing). times v (selected_variables s)) h.1 in omega (arith, none)
  matched_times (staged_constant p w) k v s h = let none = ap (λ (s : Standing). times v (selected_variables s)) h.1 in omega (arith, none)
  matched_times (staged_negation g) k v s h =
      let whole = ap (λ (s : Standing). times v (selected_variables s)) h.2 in let below = matched_times g k v h.0 h.1 in omega (arith, whole, below)
  matched_times (staged_connective op p g f) k v s h =
      let whole = ap (λ (s : Standing). times v (selected_variables s)) h.4 in
      let mine = times-append v (selected_variables h.0) (selected_variables h.1) in
      let other = times-append v (selected_variables (standing_of g)) (selected_variables (standing_of f)) in
      let left = matched_times g k v h.0 h.2 in
      let right = matched_times f k v h.1 h.3 in
      omega (arith, whole, mine, other, left, right)
  matched_times (staged_selection w g) k v s h =
      let whole = ap (λ (s : Standing). times v (selected_variables s)) h.2 in let below = matched_times g k v h.0 h.1 in omega (arith, whole, below)
  matched_times (staged_expansion p bs) k v s h =
      let whole = ap (λ (s : Standing). times v (selected_variables s)) h.2 in let below = matched_branch_times bs k v h.0 h.1 in omega (arith, whole, below)

  matched_branch_times : (bs : StagedBranches) (k : ℕ) (v : Variable) (ms : StandingBranches) → BranchesMatch k bs ms
      → times v (branch_selected_variables ms) ≤ times v (branch_selected_variables (standing_branches_of bs))
  matched_branch_times none_staged k v ms h = let none = ap (λ (ms : StandingBranches). times v (branch_selected_variables ms)) h in omega (arith, none)
  matched_branch_times (branch_staged u step g bs) k v ms (inl h) =
      let later = matched_branch_times bs k v ms h.1 in
      let parts = times-append v (selected_variables (standing_of g)) (branch_selected_variables (standing_branches_of bs)) in
      omega (arith, later, parts)
  matched_branch_times (branch_staged u step g bs) k v ms (inr h) =
      let here = matched_times g k v h.1 h.3 in
      let later = matched_branch_times bs k v h.2 h.4 in
      let whole = inserted_times v u h.1 h.2 ms h.5 in
      let parts = times-append v (selected_variables (standing_of g)) (branch_selected_variables (standing_branches_of bs)) in
      omega (arith, here, later, whole, parts)

-- the variables of a staged tree are those of its tree

abbrev pub staged_name : Variable × ℕ → Variable
staged_name q = q.0

mutual
  staged_names : (g : StagedTree) (above : ℕ) → map staged_name (staged_variables above g) ≡ selected_variables (standing_of g)
  staged_names (staged_leaf p a) above = refl
  staged_names (staged_constant p v) above = refl
  staged_names (staged_negation g) above = staged_names g above
  staged_names (staged_connective op p g f) above =
      map-append staged_name (staged_variables above g) (staged_variables above f) ∙ ap₂ (λ (x y : List Variable). x ++ y) (staged_names g above) (staged_names f above)
  staged_names (staged_selection v g) above = ap (λ (l : List Variable). v ∷ l) (staged_names g above)
  staged_names (staged_expansion p bs) above = branch_staged_names bs above

  branch_staged_names : (bs : StagedBranches) (above : ℕ) → map staged_name (branch_staged_variables above bs) ≡ branch_selected_variables (standing_branches_of bs)
  branch_staged_names none_staged above = refl
  branch_staged_names (branch_staged u step g bs) above =
      map-append staged_name (staged_variables step g) (branch_staged_variables above bs) ∙ ap₂ (λ (x y : List Variable). x ++ y) (staged_names g step) (branch_staged_names bs above)

-- a selected variable has a step
pub selected_staged : (g : StagedTree) (above : ℕ) (v : Variable) → Contains (selected_variables (standing_of g)) v → (step : ℕ) × Contains (staged_variables above g) (v, step)
selected_staged g above v h =
    let q = image_of staged_name (staged_variables above g) v (subst (λ (l : List Variable). Contains l v) (sym (staged_names g above)) h) in
    let pair : Variable → Variable × ℕ = λ v. (v, q.0.1) in
    (q.0.1, subst (Contains (staged_variables above g)) (ap pair q.2) q.1)

-- steps inside

-- the branch is added after the one around it
abbrev pub IsInside : Stage → Type 0
IsInside x = x.above < x.step

abbrev pub IsAfter : ℕ → Stage → Type 0
IsAfter k x = k < x.step

mutual
  pub stages_after : (g : StagedTree) (above : ℕ) → AllByRecursion IsInside (stages above g) → AllByRecursion (IsAfter above) (stages above g)
  stages_after (staged_leaf p a) above h = tt
  stages_after (staged_constant p v) above h = tt
  stages_after (staged_negation g) above h = stages_after g above h
  stages_after (staged_connective op p g f) above h =
      every_both (IsAfter above) (stages above g) (stages above f) (stages_after g above (every_left IsInside (stages above g) (stages above f) h))
      (stages_after f above (every_right IsInside (stages above g) (stages above f) h))
  stages_after (staged_selection v g) above h = stages_after g above h
  stages_after (staged_expansion p bs) above h = branch_stages_after bs above h

  branch_stages_after : (bs : StagedBranches) (above : ℕ) → AllByRecursion IsInside (branch_stages above bs) → AllByRecursion (IsAfter above) (branch_stages above bs)
  branch_stages_after none_staged above h = tt
  branch_stages_after (branch_staged u step g bs) above h =
      let here : above < step = h.0 in (
        here,
        every_both (IsAfter above) (stages step g) (branch_stages above bs)
            (every_weaker (IsAfter step) (IsAfter above) (λ x less. omega (arith, here, less)) (stages step g) (stages_after g step (every_left IsInside (stages step g) (branch_stages above bs) h.1)))
            (branch_stages_after bs above (every_right IsInside (stages step g) (branch_stages above bs) h.1)),
      )

mutual
  variables_after : (g : StagedTree) (above : ℕ) (v : Variable) (step : ℕ) → AllByRecursion IsInside (stages above g) → Contains (staged_variables above g) (v, step) → above ≤ step
  variables_after (staged_leaf p a) above v step h there = absurd (none_there (v, step) there)
  variables_after (staged_constant p w) above v step h there = absurd (none_there (v, step) there)
  variables_after (staged_negation g) above v step h there = variables_after g above v step h there
  variables_after (staged_connective op p g f) above v step h there = elim (Contains-append_cases (staged_variables above g) (staged_variables above f) (v, step) there) [
    | inl left ↦ variables_after g above v step (every_left IsInside (stages above g) (stages above f) h) left
    | inr right ↦ variables_after f above v step (every_right IsInside (stages above g) (stages above f) h) right
  ]
  variables_after (staged_selection w g) above v step h there = elim (first_or_later (w, above) (staged_variables above g) (v, step) there) [
    | inl same ↦ (let equal : above ≡ step = ap (λ (q : Variable × ℕ). q.1) same in omega (arith, equal))
    | inr later ↦ variables_after g above v step h later
  ]
  variables_after (staged_expansion p bs) above v step h there = branch_variables_after bs above v step h there

  branch_variables_after : (bs : StagedBranches) (above : ℕ) (v : Variable) (step : ℕ) → AllByRecursion IsInside (branch_stages above bs) → Contains (branch_staged_variables above bs) (v, step) → above ≤ step
  branch_variables_after none_staged above v step h there = absurd (none_there (v, step) there)
  branch_variables_after (branch_staged u at g bs) above v step h there = elim (Contains-append_cases (staged_variables at g) (branch_staged_variables above bs) (v, step) there) [
    | inl left ↦ (let here : above < at = h.0 in let less = variables_after g at v step (every_left IsInside (stages at g) (branch_stages above bs) h.1) left in omega (arith, here, less))
    | inr right ↦ branch_variables_after bs above v step (every_right IsInside (stages at g) (branch_stages above bs) h.1) right
  ]

-- what is selected by step k is selected in a tree that has come to it

mutual
  pub staged_selected : (g : StagedTree) (above k : ℕ) (s : Standing) (v : Variable) (step : ℕ) → AllByRecursion IsInside (stages above g) → Matches k g s → Contains (staged_variables above g) (v, step) → step ≤ k
      → 1 ≤ times v (selected_variables s)
  staged_selected (staged_leaf p a) above k s v step inside h there early = absurd (none_there (v, step) there)
  staged_selected (staged_constant p w) above k s v step inside h there early = absurd (none_there (v, step) there)
  staged_selected (staged_negation g) above k s v step inside h there early =
      let whole = ap (λ (s : Standing). times v (selected_variables s)) h.2 in let below = staged_selected g above k h.0 v step inside h.1 there early in omega (arith, whole, below)
  staged_selected (staged_connective op p g f) above k s v step inside h there early =
      let whole = ap (λ (s : Standing). times v (selected_variables s)) h.4 ∙ times-append v (selected_variables h.0) (selected_variables h.1) in
      elim (Contains-append_cases (staged_variables above g) (staged_variables above f) (v, step) there) [
        | inl left ↦ (let below = staged_selected g above k h.0 v step (every_left IsInside (stages above g) (stages above f) inside) h.2 left early in omega (arith, whole, below))
        | inr right ↦ (let below = staged_selected f above k h.1 v step (every_right IsInside (stages above g) (stages above f) inside) h.3 right early in omega (arith, whole, below))
      ]
  staged_selected (staged_selection w g) above k s v step inside h there early =
      let whole = ap (λ (s : Standing). times v (selected_variables s)) h.2 in
      elim (first_or_later (w, above) (staged_variables above g) (v, step) there) [
        | inl same ↦ (let here = counted_here v w (ap (λ (q : Variable × ℕ). q.0) same) in omega (arith, whole, here))
        | inr later ↦ (let below = staged_selected g above k h.0 v step inside h.1 later early in omega (arith, whole, below))
      ]
  staged_selected (staged_expansion p bs) above k s v step inside h there early =
      let whole = ap (λ (s : Standing). times v (selected_variables s)) h.2 in let below = branch_staged_selected bs above k h.0 v step inside h.1 there early in omega (arith, whole, below)

  branch_staged_selected : (bs : StagedBranches) (above k : ℕ) (ms : StandingBranches) (v : Variable) (step : ℕ) → AllByRecursion IsInside (branch_stages above bs) → BranchesMatch k bs ms
      → Contains (branch_staged_variables above bs) (v, step) → step ≤ k → 1 ≤ times v (branch_selected_variables ms)
  branch_staged_selected none_staged above k ms v step inside h there early = absurd (none_there (v, step) there)
  branch_staged_selected (branch_staged u at g bs) above k ms v step inside (inl h) there early =
      elim (Contains-append_cases (staged_variables at g) (branch_staged_variables above bs) (v, step) there) [
        | inl left ↦ absurd (let late : k < at = h.0 in let more = variables_after g at v step (every_left IsInside (stages at g) (branch_stages above bs) inside.1) left in omega (arith, late, more, early))
        | inr right ↦ branch_staged_selected bs above k ms v step (every_right IsInside (stages at g) (branch_stages above bs) inside.1) h.1 right early
      ]
  branch_staged_selected (branch_staged u at g bs) above k ms v step inside (inr h) there early =
      let whole = inserted_times v u h.1 h.2 ms h.5 in
      elim (Contains-append_cases (staged_variables at g) (branch_staged_variables above bs) (v, step) there) [
        | inl left ↦ (let here = staged_selected g at k h.1 v step (every_left IsInside (stages at g) (branch_stages above bs) inside.1) h.3 left early in omega (arith, whole, here))
        | inr right ↦ (let later = branch_staged_selected bs above k h.2 v step (every_right IsInside (stages at g) (branch_stages above bs) inside.1) h.4 right early in omega (arith, whole, later))
      ]

-- free variables are heads

pub head_free : (u : Term) (v : Variable) → Contains (heads_of u) (variable_head v) → IsFree v.0 v.1 u
head_free (free n s) v h = elim (first_or_later (variable_head (n, s)) [] (variable_head v) h) [
  | inl same ↦ (let pair : Variable = (n, s) in let equal : pair ≡ v = cc in (sym (ap (λ (v : Variable). v.0) equal), sym (ap (λ (v : Variable). v.1) equal)))
  | inr later ↦ absurd (none_there (variable_head v) later)
]
head_free (bound i) v h = none_there (variable_head v) h
head_free (constant c) v h = elim (first_or_later (constant_head c) [] (variable_head v) h) [
  | inl same ↦ absurd (cc)
  | inr later ↦ none_there (variable_head v) later
]
head_free (application f a) v h = elim (Contains-append_cases (heads_of f) (heads_of a) (variable_head v) h) [
  | inl left ↦ inl (head_free f v left)
  | inr right ↦ inr (head_free a v right)
]
head_free (abstraction s b) v h = head_free b v h

pub free_head : (u : Term) (v : Variable) → IsFree v.0 v.1 u → Contains (heads_of u) (variable_head v)
free_head (free n s) v h =
    let same : (let pair : Variable = (n, s) in pair ≡ v) = λ i. (sym h.0 i, sym h.1 i) in
    subst (λ (w : Variable). Contains (variable_head (n, s) ∷ []) (variable_head w)) same (Contains-first (variable_head (n, s)) [])
free_head (bound i) v h = absurd h
free_head (constant c) v h = absurd h
free_head (application f a) v (inl h) = Contains-append_left (heads_of f) (heads_of a) (variable_head v) (free_head f v h)
free_head (application f a) v (inr h) = Contains-append_right (heads_of f) (heads_of a) (variable_head v) (free_head a v h)
free_head (abstraction s b) v h = free_head b v h
