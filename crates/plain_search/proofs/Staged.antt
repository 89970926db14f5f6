-- A staged tree with one more branch, which is added at a step after all others.
use Rattle.std.proofs.Common.{◌≡◌, ◌<◌, ◌+◌, ℕ, List, [], ◌∷◌, ◌++◌, Bool, Contains, refl, sym, ap, ap₂, subst, ◌∙◌, arith, inl, inr}
use Rattle.std.specs.List.{AllByRecursion, sum_by}
use Rattle.std.proofs.lemmas.List.{append-nil}
use Rattle.std.proofs.lemmas.List.Elements.{Contains-append_left, Contains-append_right, Contains-append_cases}
use Rattle.std.proofs.lemmas.List.Sums.{sum_by-append, sum_by-cons}
use Rattle.hol_terms.specs.Terms.{Term, Variable}
use Rattle.expansion_tree.specs.Occurrences.{term_weight}
use Rattle.expansion_tree.specs.Standing.{Standing, at_leaf, at_constant, at_negation, at_connective, at_selection, at_expansion, StandingBranches, none_standing, branch_standing, leaves, branch_leaves, selected_variables}
use Rattle.dependency.specs.Stages.{StagedTree, staged_leaf, staged_constant, staged_negation, staged_connective, staged_selection, staged_expansion, StagedBranches, none_staged, branch_staged, standing_of, standing_branches_of, staged_variables, branch_staged_variables, Stage, stages, branch_stages}
use Rattle.dependency.proofs.Elements.{Contains-first, Contains-later, first_or_later, none_there}
use Rattle.grown_trees.specs.Growths.{AreGrown, AreBranchesGrown, IsBare}
use Rattle.grown_trees.proofs.Every.{every_left, every_right}
use Rattle.plain_search.proofs.More.{IsMoreBy, more_left, more_right}

-- a tree without a branch

abbrev pub bare_staged : Standing → StagedTree
bare_staged (at_leaf p a) = staged_leaf p a
bare_staged (at_constant p v) = staged_constant p v
bare_staged (at_negation n) = staged_negation (bare_staged n)
bare_staged (at_connective op p m n) = staged_connective op p (bare_staged m) (bare_staged n)
bare_staged (at_selection v n) = staged_selection v (bare_staged n)
bare_staged (at_expansion p ns) = staged_expansion p none_staged

pub bare_standing : (b : Standing) → IsBare b → standing_of (bare_staged b) ≡ b
bare_standing (at_leaf p a) h = refl
bare_standing (at_constant p v) h = refl
bare_standing (at_negation n) h = ap at_negation (bare_standing n h)
bare_standing (at_connective op p m n) h = ap₂ (at_connective op p) (bare_standing m h.0) (bare_standing n h.1)
bare_standing (at_selection v n) h = ap (at_selection v) (bare_standing n h)
bare_standing (at_expansion p ns) h = ap (at_expansion p) (sym h)

pub bare_stages : (b : Standing) (above : ℕ) → stages above (bare_staged b) ≡ []
bare_stages (at_leaf p a) above = refl
bare_stages (at_constant p v) above = refl
bare_stages (at_negation n) above = bare_stages n above
bare_stages (at_connective op p m n) above = ap₂ (λ (xs ys : List Stage). xs ++ ys) (bare_stages m above) (bare_stages n above)
bare_stages (at_selection v n) above = bare_stages n above
bare_stages (at_expansion p ns) above = refl

-- what is selected at a new step
abbrev pub IsNewVariable : ℕ → Standing → Variable × ℕ → Type 0
IsNewVariable step b q = Contains (selected_variables b) q.0 × (q.1 ≡ step)

pub bare_variables : (b : Standing) (step : ℕ) → IsMoreBy (IsNewVariable step b) [] (staged_variables step (bare_staged b))
bare_variables (at_leaf p a) step q there = inl there
bare_variables (at_constant p v) step q there = inl there
bare_variables (at_negation n) step q there = bare_variables n step q there
bare_variables (at_connective op p m n) step q there =
    elim (Contains-append_cases (staged_variables step (bare_staged m)) (staged_variables step (bare_staged n)) q there) [
      | inl left ↦ elim (bare_variables m step q left) [ inl old ↦ inl old | inr new ↦ inr (Contains-append_left (selected_variables m) (selected_variables n) q.0 new.0, new.1) ]
      | inr right ↦ elim (bare_variables n step q right) [ inl old ↦ inl old | inr new ↦ inr (Contains-append_right (selected_variables m) (selected_variables n) q.0 new.0, new.1) ]
    ]
bare_variables (at_selection v n) step q there = elim (first_or_later (v, step) (staged_variables step (bare_staged n)) q there) [
  | inl same ↦ inr (subst (λ (w : Variable). Contains (v ∷ selected_variables n) w) (ap (λ (q : Variable × ℕ). q.0) same) (Contains-first v (selected_variables n)), sym (ap (λ (q : Variable × ℕ). q.1) same))
  | inr later ↦ elim (bare_variables n step q later) [ inl old ↦ inl old | inr new ↦ inr (Contains-later v (selected_variables n) q.0 new.0, new.1) ]
]
bare_variables (at_expansion p ns) step q there = inl there

-- a new branch

abbrev pub weigh : List Stage → ℕ
weigh xs = sum_by (λ (x : Stage). term_weight x.term) xs

weigh-append : (xs ys : List Stage) → weigh (xs ++ ys) ≡ weigh xs + weigh ys
weigh-append xs ys = sum_by-append (λ (x : Stage). term_weight x.term) xs ys

abbrev pub IsNewStage : ℕ → Term → Stage → Type 0
IsNewStage step u x = (x.step ≡ step) × (x.term ≡ u) × (x.above < step)

abbrev pub IsBefore : ℕ → Stage → Type 0
IsBefore step x = x.step < step

-- stages, variables and leaves, and those with one more branch: the term u at the step, with the tree b
pub record AreMore (step : ℕ) (u : Term) (b : Standing) (xs ys : List Stage) (vs ws : List (Variable × ℕ)) (ls ms : List (Bool × Term)) : Type 0 where
  pub placed : IsMoreBy (IsNewStage step u) xs ys
  pub chosen : IsMoreBy (IsNewVariable step b) vs ws
  pub leaved : IsMoreBy (Contains (leaves b)) ls ms
  pub weighs : weigh ys ≡ weigh xs + term_weight u

put_left : (step : ℕ) (u : Term) (b : Standing) (xs ys : List Stage) (vs ws : List (Variable × ℕ)) (ls ms : List (Bool × Term)) (zs : List Stage) (us : List (Variable × ℕ)) (ks : List (Bool × Term))
    → AreMore step u b xs ys vs ws ls ms → AreMore step u b (xs ++ zs) (ys ++ zs) (vs ++ us) (ws ++ us) (ls ++ ks) (ms ++ ks)
put_left step u b xs ys vs ws ls ms zs us ks h = record {
  placed = more_left (IsNewStage step u) xs ys zs h.placed;
  chosen = more_left (IsNewVariable step b) vs ws us h.chosen;
  leaved = more_left (Contains (leaves b)) ls ms ks h.leaved;
  weighs = let one = weigh-append xs zs in let two = weigh-append ys zs in let own = h.weighs in omega (arith, one, two, own);
}

put_right : (step : ℕ) (u : Term) (b : Standing) (zs : List Stage) (us : List (Variable × ℕ)) (ks : List (Bool × Term)) (xs ys : List Stage) (vs ws : List (Variable × ℕ)) (ls ms : List (Bool × Term))
    → AreMore step u b xs ys vs ws ls ms → AreMore step u b (zs ++ xs) (zs ++ ys) (us ++ vs) (us ++ ws) (ks ++ ls) (ks ++ ms)
put_right step u b zs us ks xs ys vs ws ls ms h = record {
  placed = more_right (IsNewStage step u) zs xs ys h.placed;
  chosen = more_right (IsNewVariable step b) us vs ws h.chosen;
  leaved = more_right (Contains (leaves b)) ks ls ms h.leaved;
  weighs = let one = weigh-append zs xs in let two = weigh-append zs ys in let own = h.weighs in omega (arith, one, two, own);
}

-- the new branch alone
new_alone : (above step : ℕ) (u : Term) (b : Standing) → above < step → IsBare b
    → AreMore step u b [] (branch_stages above (branch_staged u step (bare_staged b) none_staged)) [] (branch_staged_variables above (branch_staged u step (bare_staged b) none_staged))
    [] (branch_leaves (standing_branches_of (branch_staged u step (bare_staged b) none_staged)))
new_alone above step u b less bare =
    let x : Stage = record { above = above; step = step; term = u } in
    let none : stages step (bare_staged b) ++ [] ≡ [] = ap (λ (l : List Stage). l ++ []) (bare_stages b step) in record {
      placed = λ y there. elim (first_or_later x (stages step (bare_staged b) ++ []) y there) [
        | inl same ↦ inr (subst (IsNewStage step u) same (refl, refl, less))
        | inr later ↦ absurd (none_there y (subst (λ (l : List Stage). Contains l y) none later))
      ];
      chosen = λ q there. bare_variables b step q (subst (λ (l : List (Variable × ℕ)). Contains l q) (append-nil (staged_variables step (bare_staged b))) there);
      leaved = λ l there. inr (subst (λ (s : Standing). Contains (leaves s) l) (bare_standing b bare) (subst (λ (ls : List (Bool × Term)). Contains ls l) (append-nil (leaves (standing_of (bare_staged b)))) there));
      weighs = let first = sum_by-cons (λ (x : Stage). term_weight x.term) x (stages step (bare_staged b) ++ []) in let rest = ap weigh none in omega (arith, first, rest);
    }

-- the staged tree g with one more branch
abbrev pub IsStagedGrowth : ℕ → ℕ → Term → Standing → StagedTree → StagedTree → Type 0
IsStagedGrowth above step u b g h =
    AreMore step u b (stages above g) (stages above h) (staged_variables above g) (staged_variables above h) (leaves (standing_of g)) (leaves (standing_of h))

abbrev IsBranchGrowth : ℕ → ℕ → Term → Standing → StagedBranches → StagedBranches → Type 0
IsBranchGrowth above step u b g h =
    AreMore step u b (branch_stages above g) (branch_stages above h) (branch_staged_variables above g) (branch_staged_variables above h)
    (branch_leaves (standing_branches_of g)) (branch_leaves (standing_branches_of h))

mutual
  pub grow_staged : (g : StagedTree) (above step : ℕ) (u : Term) (b b' r x : Standing) → above < step → IsBare b → AllByRecursion (IsBefore step) (stages above g) → AreGrown u b b' (standing_of g) r x
      → (h : StagedTree) × (standing_of h ≡ r) × IsStagedGrowth above step u b g h
  grow_staged (staged_leaf p a) above step u b b' r x less bare before h = absurd h
  grow_staged (staged_constant p v) above step u b b' r x less bare before h = absurd h
  grow_staged (staged_negation g) above step u b b' r x less bare before h =
      let below = grow_staged g above step u b b' h.0 h.1 less bare before h.2 in
      (staged_negation below.0, ap at_negation below.1 ∙ sym h.3, below.2)
  grow_staged (staged_connective op p g f) above step u b b' r x less bare before (inl h) =
      let below = grow_staged g above step u b b' h.0 h.1 less bare (every_left (IsBefore step) (stages above g) (stages above f) before) h.2 in (
        staged_connective op p below.0 f,
        ap (λ (k : Standing). at_connective op p k (standing_of f)) below.1 ∙ sym h.3,
        put_left step u b (stages above g) (stages above below.0) (staged_variables above g) (staged_variables above below.0) (leaves (standing_of g)) (leaves (standing_of below.0))
            (stages above f) (staged_variables above f) (leaves (standing_of f)) below.2,
      )
  grow_staged (staged_connective op p g f) above step u b b' r x less bare before (inr h) =
      let below = grow_staged f above step u b b' h.0 h.1 less bare (every_right (IsBefore step) (stages above g) (stages above f) before) h.2 in (
        staged_connective op p g below.0,
        ap (at_connective op p (standing_of g)) below.1 ∙ sym h.3,
        put_right step u b (stages above g) (staged_variables above g) (leaves (standing_of g)) (stages above f) (stages above below.0) (staged_variables above f) (staged_variables above below.0)
            (leaves (standing_of f)) (leaves (standing_of below.0)) below.2,
      )
  grow_staged (staged_selection v g) above step u b b' r x less bare before h =
      let below = grow_staged g above step u b b' h.0 h.1 less bare before h.2 in (
        staged_selection v below.0,
        ap (at_selection v) below.1 ∙ sym h.3,
        put_right step u b [] ((v, above) ∷ []) [] (stages above g) (stages above below.0) (staged_variables above g) (staged_variables above below.0)
            (leaves (standing_of g)) (leaves (standing_of below.0)) below.2,
      )
  grow_staged (staged_expansion p bs) above step u b b' r x less bare before h =
      let below = grow_branches bs above step u b b' h.0 h.1 less bare before h.2 in
      (staged_expansion p below.0, ap (at_expansion p) below.1 ∙ sym h.3, below.2)

  grow_branches : (bs : StagedBranches) (above step : ℕ) (u : Term) (b b' : Standing) (ms xs : StandingBranches) → above < step → IsBare b → AllByRecursion (IsBefore step) (branch_stages above bs)
      → AreBranchesGrown u b b' (standing_branches_of bs) ms xs → (cs : StagedBranches) × (standing_branches_of cs ≡ ms) × IsBranchGrowth above step u b bs cs
  grow_branches none_staged above step u b b' ms xs less bare before h = (
    branch_staged u step (bare_staged b) none_staged,
    ap (λ (n : Standing). branch_standing u n none_standing) (bare_standing b bare) ∙ sym h.0,
    new_alone above step u b less bare,
  )
  grow_branches (branch_staged w at g bs) above step u b b' ms xs less bare before (inl h) =
      let y : Stage = record { above = above; step = at; term = w } in
      let below = grow_staged g at step u b b' h.0 h.1 before.0 bare (every_left (IsBefore step) (stages at g) (branch_stages above bs) before.1) h.2 in (
        branch_staged w at below.0 bs,
        ap (λ (k : Standing). branch_standing w k (standing_branches_of bs)) below.1 ∙ sym h.3,
        put_right step u b (y ∷ []) [] [] (stages at g ++ branch_stages above bs) (stages at below.0 ++ branch_stages above bs) (staged_variables at g ++ branch_staged_variables above bs)
            (staged_variables at below.0 ++ branch_staged_variables above bs) (leaves (standing_of g) ++ branch_leaves (standing_branches_of bs)) (leaves (standing_of below.0) ++ branch_leaves (standing_branches_of bs))
            (put_left step u b (stages at g) (stages at below.0) (staged_variables at g) (staged_variables at below.0) (leaves (standing_of g)) (leaves (standing_of below.0))
            (branch_stages above bs) (branch_staged_variables above bs) (branch_leaves (standing_branches_of bs)) below.2),
      )
  grow_branches (branch_staged w at g bs) above step u b b' ms xs less bare before (inr h) =
      let y : Stage = record { above = above; step = at; term = w } in
      let below = grow_branches bs above step u b b' h.0 h.1 less bare (every_right (IsBefore step) (stages at g) (branch_stages above bs) before.1) h.2 in (
        branch_staged w at g below.0,
        ap (branch_standing w (standing_of g)) below.1 ∙ sym h.3,
        put_right step u b (y ∷ []) [] [] (stages at g ++ branch_stages above bs) (stages at g ++ branch_stages above below.0) (staged_variables at g ++ branch_staged_variables above bs)
            (staged_variables at g ++ branch_staged_variables above below.0) (leaves (standing_of g) ++ branch_leaves (standing_branches_of bs)) (leaves (standing_of g) ++ branch_leaves (standing_branches_of below.0))
            (put_right step u b (stages at g) (staged_variables at g) (leaves (standing_of g)) (branch_stages above bs) (branch_stages above below.0) (branch_staged_variables above bs)
            (branch_staged_variables above below.0) (branch_leaves (standing_branches_of bs)) (branch_leaves (standing_branches_of below.0)) below.2),
      )
