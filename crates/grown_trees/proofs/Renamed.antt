-- Trees with other names for their variables, which stand at the renamed formula and come to the steps of the renamed target.
use Rattle.std.proofs.Common.{◌≡◌, ℕ, List, [], ◌∷◌, ◌++◌, Bool, true, false, not, map, refl, sym, ap, ap₂, subst, ◌∙◌, arith, inl, inr}
use Rattle.std.specs.List.{AllByRecursion, sum_by}
use Rattle.std.proofs.lemmas.List.{map-append}
use Rattle.std.proofs.lemmas.List.Sums.{sum_by-cons}
use Rattle.hol_terms.specs.Terms.{SimpleType, Term, free, truth_type, Variable}
use Rattle.hol_terms.specs.Indices.{instance_of}
use Rattle.hol_conv.specs.Conversion.{long}
use Rattle.expansion_tree.specs.Occurrences.{term_weight}
use Rattle.expansion_tree.specs.Standing.{Standing, at_leaf, at_constant, at_negation, at_connective, at_selection, at_expansion, StandingBranches, none_standing, branch_standing, IsNormalFormula, left_polarity, truth_value, compound_of, negation_of, joining, deep_formula, joined_deep, leaves, branch_leaves, selected_variables, branch_selected_variables}
use Rattle.dependency.specs.Stages.{StagedTree, staged_leaf, staged_constant, staged_negation, staged_connective, staged_selection, staged_expansion, StagedBranches, none_staged, branch_staged, standing_of, standing_branches_of, Stage, stages, branch_stages, staged_variables, branch_staged_variables}
use Rattle.grown_trees.specs.Targets.{IsInserted, Matches, BranchesMatch}
use Rattle.grown_trees.proofs.Every.{every_left, every_right, every_both}
use Rattle.grown_trees.proofs.Fitting.{Fits, BranchesFit}
use Rattle.grown_trees.proofs.Bareness.{IsAtomic}
use Rattle.grown_trees.proofs.Renaming.{NewNames, rename, renamed_variable, rename-put, form-rename, normal-rename, weight-rename, head-rename}

abbrev mutual
  pub renamed_standing : NewNames → Standing → Standing
  renamed_standing f (at_leaf p a) = at_leaf p (rename f a)
  renamed_standing f (at_constant p v) = at_constant p v
  renamed_standing f (at_negation n) = at_negation (renamed_standing f n)
  renamed_standing f (at_connective op p m n) = at_connective op p (renamed_standing f m) (renamed_standing f n)
  renamed_standing f (at_selection v n) = at_selection (renamed_variable f v) (renamed_standing f n)
  renamed_standing f (at_expansion p ns) = at_expansion p (renamed_branches f ns)

  pub renamed_branches : NewNames → StandingBranches → StandingBranches
  renamed_branches f none_standing = none_standing
  renamed_branches f (branch_standing u n ns) = branch_standing (rename f u) (renamed_standing f n) (renamed_branches f ns)

abbrev mutual
  pub renamed_staged : NewNames → StagedTree → StagedTree
  renamed_staged f (staged_leaf p a) = staged_leaf p (rename f a)
  renamed_staged f (staged_constant p v) = staged_constant p v
  renamed_staged f (staged_negation g) = staged_negation (renamed_staged f g)
  renamed_staged f (staged_connective op p g h) = staged_connective op p (renamed_staged f g) (renamed_staged f h)
  renamed_staged f (staged_selection v g) = staged_selection (renamed_variable f v) (renamed_staged f g)
  renamed_staged f (staged_expansion p bs) = staged_expansion p (renamed_staged_branches f bs)

  pub renamed_staged_branches : NewNames → StagedBranches → StagedBranches
  renamed_staged_branches f none_staged = none_staged
  renamed_staged_branches f (branch_staged u step g bs) = branch_staged (rename f u) step (renamed_staged f g) (renamed_staged_branches f bs)

mutual
  pub standing-renamed : (f : NewNames) (g : StagedTree) → standing_of (renamed_staged f g) ≡ renamed_standing f (standing_of g)
  standing-renamed f (staged_leaf p a) = refl
  standing-renamed f (staged_constant p v) = refl
  standing-renamed f (staged_negation g) = ap at_negation (standing-renamed f g)
  standing-renamed f (staged_connective op p g h) = ap₂ (at_connective op p) (standing-renamed f g) (standing-renamed f h)
  standing-renamed f (staged_selection v g) = ap (at_selection (renamed_variable f v)) (standing-renamed f g)
  standing-renamed f (staged_expansion p bs) = ap (at_expansion p) (standing_branches-renamed f bs)

  standing_branches-renamed : (f : NewNames) (bs : StagedBranches) → standing_branches_of (renamed_staged_branches f bs) ≡ renamed_branches f (standing_branches_of bs)
  standing_branches-renamed f none_staged = refl
  standing_branches-renamed f (branch_staged u step g bs) = ap₂ (branch_standing (rename f u)) (standing-renamed f g) (standing_branches-renamed f bs)

-- standing

truth-rename : (f : NewNames) (v : Bool) → rename f (truth_value v) ≡ truth_value v
truth-rename f true = refl
truth-rename f false = refl

mutual
  pub fits-renamed : (f : NewNames) (s : Standing) (p : Bool) (a : Term) → Fits p a s → Fits p (rename f a) (renamed_standing f s)
  fits-renamed f (at_leaf q b) p a h = (h.0, ap (rename f) h.1)
  fits-renamed f (at_constant q v) p a h = (h.0, ap (rename f) h.1 ∙ truth-rename f v)
  fits-renamed f (at_negation n) p a h = (rename f h.0, ap (rename f) h.1, fits-renamed f n (not p) h.0 h.2)
  fits-renamed f (at_connective op q m n) p a h =
      (h.0, rename f h.1, rename f h.2, ap (rename f) h.3, fits-renamed f m (left_polarity op p) h.1 h.4, fits-renamed f n p h.2 h.5)
  fits-renamed f (at_selection v n) p a h = (
    rename f h.0,
    ap (rename f) h.1,
    subst (λ (x : Term). Fits p x (renamed_standing f n)) (rename-put f 0 (free v.0 v.1) h.0) (fits-renamed f n p (instance_of h.0 (free v.0 v.1)) h.2),
  )
  fits-renamed f (at_expansion q ns) p a h = (h.0, h.1, rename f h.2, ap (rename f) h.3, branches_fit-renamed f ns p h.1 h.2 h.4)

  branches_fit-renamed : (f : NewNames) (ns : StandingBranches) (p : Bool) (ty : SimpleType) (b : Term) → BranchesFit p ty b ns → BranchesFit p ty (rename f b) (renamed_branches f ns)
  branches_fit-renamed f none_standing p ty b h = tt
  branches_fit-renamed f (branch_standing u n ns) p ty b h = (
    form-rename f long [] u ty h.0,
    rename f h.1,
    subst (IsNormalFormula (rename f h.1)) (rename-put f 0 u b) (normal-rename f [] truth_type h.1 (instance_of b u) h.2),
    fits-renamed f n p h.1 h.3,
    branches_fit-renamed f ns p ty b h.4,
  )

mutual
  pub deep-renamed : (f : NewNames) (s : Standing) → deep_formula (renamed_standing f s) ≡ rename f (deep_formula s)
  deep-renamed f (at_leaf p a) = refl
  deep-renamed f (at_constant p v) = sym (truth-rename f v)
  deep-renamed f (at_negation n) = ap negation_of (deep-renamed f n)
  deep-renamed f (at_connective op p m n) = ap₂ (compound_of op) (deep-renamed f m) (deep-renamed f n)
  deep-renamed f (at_selection v n) = deep-renamed f n
  deep-renamed f (at_expansion p none_standing) = sym (truth-rename f (not p))
  deep-renamed f (at_expansion p (branch_standing u n ns)) =
      ap (λ (a : Term). joined_deep p a (renamed_branches f ns)) (deep-renamed f n) ∙ joined-renamed f p (deep_formula n) ns

  joined-renamed : (f : NewNames) (p : Bool) (a : Term) (ns : StandingBranches) → joined_deep p (rename f a) (renamed_branches f ns) ≡ rename f (joined_deep p a ns)
  joined-renamed f p a none_standing = refl
  joined-renamed f p a (branch_standing u n ns) =
      ap (λ (d : Term). joined_deep p (compound_of (joining p) (rename f a) d) (renamed_branches f ns)) (deep-renamed f n) ∙ joined-renamed f p (compound_of (joining p) a (deep_formula n)) ns

mutual
  pub leaves-renamed : (f : NewNames) (s : Standing) → AllByRecursion IsAtomic (leaves s) → AllByRecursion IsAtomic (leaves (renamed_standing f s))
  leaves-renamed f (at_leaf p a) h = (head-rename f a h.0, tt)
  leaves-renamed f (at_constant p v) h = tt
  leaves-renamed f (at_negation n) h = leaves-renamed f n h
  leaves-renamed f (at_connective op p m n) h =
      every_both IsAtomic (leaves (renamed_standing f m)) (leaves (renamed_standing f n)) (leaves-renamed f m (every_left IsAtomic (leaves m) (leaves n) h))
      (leaves-renamed f n (every_right IsAtomic (leaves m) (leaves n) h))
  leaves-renamed f (at_selection v n) h = leaves-renamed f n h
  leaves-renamed f (at_expansion p ns) h = branch_leaves-renamed f ns h

  branch_leaves-renamed : (f : NewNames) (ns : StandingBranches) → AllByRecursion IsAtomic (branch_leaves ns) → AllByRecursion IsAtomic (branch_leaves (renamed_branches f ns))
  branch_leaves-renamed f none_standing h = tt
  branch_leaves-renamed f (branch_standing u n ns) h =
      every_both IsAtomic (leaves (renamed_standing f n)) (branch_leaves (renamed_branches f ns)) (leaves-renamed f n (every_left IsAtomic (leaves n) (branch_leaves ns) h))
      (branch_leaves-renamed f ns (every_right IsAtomic (leaves n) (branch_leaves ns) h))

mutual
  pub selected-renamed : (f : NewNames) (s : Standing) → selected_variables (renamed_standing f s) ≡ map (renamed_variable f) (selected_variables s)
  selected-renamed f (at_leaf p a) = refl
  selected-renamed f (at_constant p v) = refl
  selected-renamed f (at_negation n) = selected-renamed f n
  selected-renamed f (at_connective op p m n) =
      ap₂ (λ (x y : List Variable). x ++ y) (selected-renamed f m) (selected-renamed f n) ∙ sym (map-append (renamed_variable f) (selected_variables m) (selected_variables n))
  selected-renamed f (at_selection v n) = ap (λ (l : List Variable). renamed_variable f v ∷ l) (selected-renamed f n)
  selected-renamed f (at_expansion p ns) = branch_selected-renamed f ns

  branch_selected-renamed : (f : NewNames) (ns : StandingBranches) → branch_selected_variables (renamed_branches f ns) ≡ map (renamed_variable f) (branch_selected_variables ns)
  branch_selected-renamed f none_standing = refl
  branch_selected-renamed f (branch_standing u n ns) =
      ap₂ (λ (x y : List Variable). x ++ y) (selected-renamed f n) (branch_selected-renamed f ns) ∙ sym (map-append (renamed_variable f) (selected_variables n) (branch_selected_variables ns))

-- stages

abbrev pub renamed_stage : NewNames → Stage → Stage
renamed_stage f x = record { above = x.above; step = x.step; term = rename f x.term }

mutual
  pub stages-renamed : (f : NewNames) (g : StagedTree) (above : ℕ) → stages above (renamed_staged f g) ≡ map (renamed_stage f) (stages above g)
  stages-renamed f (staged_leaf p a) above = refl
  stages-renamed f (staged_constant p v) above = refl
  stages-renamed f (staged_negation g) above = stages-renamed f g above
  stages-renamed f (staged_connective op p g h) above =
      ap₂ (λ (x y : List Stage). x ++ y) (stages-renamed f g above) (stages-renamed f h above) ∙ sym (map-append (renamed_stage f) (stages above g) (stages above h))
  stages-renamed f (staged_selection v g) above = stages-renamed f g above
  stages-renamed f (staged_expansion p bs) above = branch_stages-renamed f bs above

  branch_stages-renamed : (f : NewNames) (bs : StagedBranches) (above : ℕ) → branch_stages above (renamed_staged_branches f bs) ≡ map (renamed_stage f) (branch_stages above bs)
  branch_stages-renamed f none_staged above = refl
  branch_stages-renamed f (branch_staged u step g bs) above =
      let x : Stage = record { above = above; step = step; term = rename f u } in
      ap (λ (l : List Stage). x ∷ l)
      (ap₂ (λ (x y : List Stage). x ++ y) (stages-renamed f g step) (branch_stages-renamed f bs above) ∙ sym (map-append (renamed_stage f) (stages step g) (branch_stages above bs)))

abbrev pub renamed_choice : NewNames → Variable × ℕ → Variable × ℕ
renamed_choice f q = (renamed_variable f q.0, q.1)

mutual
  pub variables-renamed : (f : NewNames) (g : StagedTree) (above : ℕ) → staged_variables above (renamed_staged f g) ≡ map (renamed_choice f) (staged_variables above g)
  variables-renamed f (staged_leaf p a) above = refl
  variables-renamed f (staged_constant p v) above = refl
  variables-renamed f (staged_negation g) above = variables-renamed f g above
  variables-renamed f (staged_connective op p g h) above =
      ap₂ (λ (x y : List (Variable × ℕ)). x ++ y) (variables-renamed f g above) (variables-renamed f h above) ∙ sym (map-append (renamed_choice f) (staged_variables above g) (staged_variables above h))
  variables-renamed f (staged_selection v g) above = ap (λ (l : List (Variable × ℕ)). renamed_choice f (v, above) ∷ l) (variables-renamed f g above)
  variables-renamed f (staged_expansion p bs) above = branch_variables-renamed f bs above

  branch_variables-renamed : (f : NewNames) (bs : StagedBranches) (above : ℕ) → branch_staged_variables above (renamed_staged_branches f bs) ≡ map (renamed_choice f) (branch_staged_variables above bs)
  branch_variables-renamed f none_staged above = refl
  branch_variables-renamed f (branch_staged u step g bs) above =
      ap₂ (λ (x y : List (Variable × ℕ)). x ++ y) (variables-renamed f g step) (branch_variables-renamed f bs above) ∙ sym (map-append (renamed_choice f) (staged_variables step g) (branch_staged_variables above bs))

pub weights-renamed : (f : NewNames) (xs : List Stage) → sum_by (λ (x : Stage). term_weight x.term) (map (renamed_stage f) xs) ≡ sum_by (λ (x : Stage). term_weight x.term) xs
weights-renamed f [] = refl
weights-renamed f (x ∷ xs) =
    let mine = sum_by-cons (λ (x : Stage). term_weight x.term) (renamed_stage f x) (map (renamed_stage f) xs) in
    let other = sum_by-cons (λ (x : Stage). term_weight x.term) x xs in
    let same = weight-rename f x.term in
    let rest = weights-renamed f xs in
    omega (arith, mine, other, same, rest)

-- steps

inserted-renamed : (f : NewNames) (u : Term) (n : Standing) (ns ms : StandingBranches) → IsInserted u n ns ms → IsInserted (rename f u) (renamed_standing f n) (renamed_branches f ns) (renamed_branches f ms)
inserted-renamed f u n none_standing ms h = ap (renamed_branches f) h
inserted-renamed f u n (branch_standing w m ns) ms (inl h) = inl (ap (renamed_branches f) h)
inserted-renamed f u n (branch_standing w m ns) ms (inr h) = inr (renamed_branches f h.0, inserted-renamed f u n ns h.0 h.1, ap (renamed_branches f) h.2)

mutual
  pub matches-renamed : (f : NewNames) (g : StagedTree) (k : ℕ) (s : Standing) → Matches k g s → Matches k (renamed_staged f g) (renamed_standing f s)
  matches-renamed f (staged_leaf p a) k s h = (rename f h.0, ap (renamed_standing f) h.1)
  matches-renamed f (staged_constant p v) k s h = (h.0, ap (renamed_standing f) h.1)
  matches-renamed f (staged_negation g) k s h = (renamed_standing f h.0, matches-renamed f g k h.0 h.1, ap (renamed_standing f) h.2)
  matches-renamed f (staged_connective op p g d) k s h =
      (renamed_standing f h.0, renamed_standing f h.1, matches-renamed f g k h.0 h.2, matches-renamed f d k h.1 h.3, ap (renamed_standing f) h.4)
  matches-renamed f (staged_selection v g) k s h = (renamed_standing f h.0, matches-renamed f g k h.0 h.1, ap (renamed_standing f) h.2)
  matches-renamed f (staged_expansion p bs) k s h = (renamed_branches f h.0, branches_match-renamed f bs k h.0 h.1, ap (renamed_standing f) h.2)

  branches_match-renamed : (f : NewNames) (bs : StagedBranches) (k : ℕ) (ms : StandingBranches) → BranchesMatch k bs ms → BranchesMatch k (renamed_staged_branches f bs) (renamed_branches f ms)
  branches_match-renamed f none_staged k ms h = ap (renamed_branches f) h
  branches_match-renamed f (branch_staged u step g bs) k ms (inl h) = inl (h.0, branches_match-renamed f bs k ms h.1)
  branches_match-renamed f (branch_staged u step g bs) k ms (inr h) = inr (
    h.0,
    renamed_standing f h.1,
    renamed_branches f h.2,
    matches-renamed f g k h.1 h.3,
    branches_match-renamed f bs k h.2 h.4,
    inserted-renamed f u h.1 h.2 ms h.5,
  )
