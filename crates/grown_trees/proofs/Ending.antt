-- A tree that has come to the last step has the weight of the target, and its deep formula holds where the target's does.
use Rattle.std.proofs.Common.{◌≡◌, ◌≤◌, ◌+◌, ◌↔◌, ℕ, List, [], ◌++◌, Bool, true, false, not, sym, ap, ap₂, subst, ◌∙◌, arith, inl, inr, ◌⊎◌}
use Rattle.std.specs.List.{AllByRecursion, sum_by}
use Rattle.std.proofs.lemmas.List.Sums.{sum_by-cons, sum_by-append}
use Rattle.std.proofs.lemmas.List.Elements.{All-contains}
use Rattle.hol_terms.specs.Terms.{SimpleType, Term, free, truth_type}
use Rattle.hol_terms.specs.Typing.{IsFormula}
use Rattle.hol_terms.specs.Indices.{instance_of}
use Rattle.hol_terms.specs.Truth.{Holds, IsTautology}
use Rattle.hol_conv.proofs.Normals.{one_normal_form}
use Rattle.expansion_tree.specs.declared.trees.Op.{Op}
use Rattle.expansion_tree.specs.declared.trees.Op.TheVariants.{And, Or, Imp}
use Rattle.expansion_tree.specs.Trees.{ExpansionTree, leaf_node, constant_node, negation_node, connective_node, selection_node, expansion_node, ExpansionBranches, no_branch, branch, node_count}
use Rattle.expansion_tree.specs.Occurrences.{term_weight, tree_weight, weight_of_all, occurrences_from, branch_occurrences_from}
use Rattle.expansion_tree.specs.Standing.{Standing, at_leaf, at_constant, at_negation, at_connective, at_selection, at_expansion, StandingBranches, none_standing, branch_standing, Stands, BranchesStand, IsNormalFormula, left_polarity, compound_of, truth_value, deep_formula, joined_deep}
use Rattle.expansion_tree.specs.Faults.{IsTree}
use Rattle.expansion_tree.proofs.Counting.{weight-append}
use Rattle.dependency.specs.Stages.{StagedTree, staged_leaf, staged_constant, staged_negation, staged_connective, staged_selection, staged_expansion, StagedBranches, none_staged, branch_staged, standing_of, standing_branches_of, Stage, stages, branch_stages, steps_of, staged_weight}
use Rattle.dependency.proofs.Elements.{Contains-image}
use Rattle.grown_trees.specs.Targets.{IsInserted, Matches, BranchesMatch, IsTarget}
use Rattle.grown_trees.proofs.Every.{every_contained, every_left, every_right}
use Rattle.grown_trees.proofs.Inserted.{inserted_fits}
use Rattle.grown_trees.proofs.Fitting.{Fits, BranchesFit, stands_fits}

-- weights

abbrev mutual
  pub standing_weight : Standing → ℕ
  standing_weight (at_leaf p a) = 0
  standing_weight (at_constant p v) = 0
  standing_weight (at_negation n) = standing_weight n
  standing_weight (at_connective op p m n) = standing_weight m + standing_weight n
  standing_weight (at_selection v n) = standing_weight n
  standing_weight (at_expansion p ns) = branch_weight ns

  pub branch_weight : StandingBranches → ℕ
  branch_weight none_standing = 0
  branch_weight (branch_standing u n ns) = term_weight u + (standing_weight n + branch_weight ns)

mutual
  tree_weighs : (t : ExpansionTree) (p : Bool) (a : Term) (s : Standing) (at : ℕ) → Stands p a t s → weight_of_all (occurrences_from at t) ≡ standing_weight s
  tree_weighs leaf_node p a s at h = ap standing_weight (sym h)
  tree_weighs constant_node p a s at h = ap standing_weight (sym h.2)
  tree_weighs (negation_node t) p a s at h = tree_weighs t (not p) h.0 h.2 (at + 1) h.3 ∙ ap standing_weight (sym h.4)
  tree_weighs (connective_node op t u) p a s at h =
      weight-append (occurrences_from (at + 1) t) (occurrences_from (at + 1 + node_count t) u)
      ∙ ap₂ ◌+◌ (tree_weighs t (left_polarity op p) h.0 h.3 (at + 1) h.4) (tree_weighs u p h.1 h.5 (at + 1 + node_count t) h.6) ∙ ap standing_weight (sym h.7)
  tree_weighs (selection_node name t) p a s at h = tree_weighs t p (instance_of h.1 (free name h.0)) h.3 (at + 1) h.4 ∙ ap standing_weight (sym h.5)
  tree_weighs (expansion_node bs) p a s at h = branches_weigh bs p h.0 h.1 h.3 (at + 1) h.4 ∙ ap standing_weight (sym h.5)

  branches_weigh : (bs : ExpansionBranches) (p : Bool) (ty : SimpleType) (b : Term) (ns : StandingBranches) (at : ℕ) → BranchesStand p ty b bs ns
      → weight_of_all (branch_occurrences_from at bs) ≡ branch_weight ns
  branches_weigh no_branch p ty b ns at h = ap branch_weight (sym h)
  branches_weigh (branch u t bs) p ty b ns at h =
      ap (λ (w : ℕ). term_weight u + w) (weight-append (occurrences_from at t) (branch_occurrences_from (at + node_count t) bs)
      ∙ ap₂ ◌+◌ (tree_weighs t p h.1 h.3 at h.4) (branches_weigh bs p ty b h.5 (at + node_count t) h.6))
      ∙ ap branch_weight (sym h.7)

-- a branch among others weighs its own
inserted_weighs : (u : Term) (n : Standing) (ns ms : StandingBranches) → IsInserted u n ns ms → branch_weight ms ≡ term_weight u + (standing_weight n + branch_weight ns)
inserted_weighs u n none_standing ms h = ap branch_weight h
inserted_weighs u n (branch_standing w m ns) ms (inl h) = ap branch_weight h
inserted_weighs u n (branch_standing w m ns) ms (inr h) =
    let rest = inserted_weighs u n ns h.0 h.1 in
    let whole = ap branch_weight h.2 in
    omega (arith, rest, whole)

-- the step is at most n
abbrev pub IsBy : ℕ → Stage → Type 0
IsBy n x = x.step ≤ n

abbrev weigh : List Stage → ℕ
weigh xs = sum_by (λ (x : Stage). term_weight x.term) xs

weigh-append : (xs ys : List Stage) → weigh (xs ++ ys) ≡ weigh xs + weigh ys
weigh-append xs ys = sum_by-append (λ (x : Stage). term_weight x.term) xs ys

mutual
  matched_weighs : (g : StagedTree) (above k : ℕ) (s : Standing) → AllByRecursion (IsBy k) (stages above g) → Matches k g s → weigh (stages above g) ≡ standing_weight s
  matched_weighs (staged_leaf p a) above k s by h = ap standing_weight (sym h.1)
  matched_weighs (staged_constant p v) above k s by h = ap standing_weight (sym h.1)
  matched_weighs (staged_negation g) above k s by h = matched_weighs g above k h.0 by h.1 ∙ ap standing_weight (sym h.2)
  matched_weighs (staged_connective op p g f) above k s by h =
      weigh-append (stages above g) (stages above f)
      ∙ ap₂ ◌+◌ (matched_weighs g above k h.0 (every_left (IsBy k) (stages above g) (stages above f) by) h.2) (matched_weighs f above k h.1 (every_right (IsBy k) (stages above g) (stages above f) by) h.3)
      ∙ ap standing_weight (sym h.4)
  matched_weighs (staged_selection v g) above k s by h = matched_weighs g above k h.0 by h.1 ∙ ap standing_weight (sym h.2)
  matched_weighs (staged_expansion p bs) above k s by h = matched_branches_weigh bs above k h.0 by h.1 ∙ ap standing_weight (sym h.2)

  matched_branches_weigh : (bs : StagedBranches) (above k : ℕ) (ms : StandingBranches) → AllByRecursion (IsBy k) (branch_stages above bs) → BranchesMatch k bs ms
      → weigh (branch_stages above bs) ≡ branch_weight ms
  matched_branches_weigh none_staged above k ms by h = ap branch_weight (sym h)
  matched_branches_weigh (branch_staged u step g bs) above k ms by (inl h) = absurd (let early = by.0 in let late = h.0 in omega (arith, early, late))
  matched_branches_weigh (branch_staged u step g bs) above k ms by (inr h) =
      let x : Stage = record { above = above; step = step; term = u } in
      let inside = stages step g in
      let behind = branch_stages above bs in
      let first = sum_by-cons (λ (x : Stage). term_weight x.term) x (inside ++ behind) in
      let both = weigh-append inside behind in
      let here = matched_weighs g step k h.1 (every_left (IsBy k) inside behind by.1) h.3 in
      let later = matched_branches_weigh bs above k h.2 (every_right (IsBy k) inside behind by.1) h.4 in
      let whole = inserted_weighs u h.1 h.2 ms h.5 in
      omega (arith, first, both, here, later, whole)

mutual
  -- what has come to a step weighs at most as much as all stages
  matched_weighs_at_most : (g : StagedTree) (above k : ℕ) (s : Standing) → Matches k g s → standing_weight s ≤ weigh (stages above g)
  matched_weighs_at_most (staged_leaf p a) above k s h = let whole = ap standing_weight h.1 in omega (arith, whole)
  matched_weighs_at_most (staged_constant p v) above k s h = let whole = ap standing_weight h.1 in omega (arith, whole)
  matched_weighs_at_most (staged_negation g) above k s h = let whole = ap standing_weight h.2 in let below = matched_weighs_at_most g above k h.0 h.1 in omega (arith, whole, below)
  matched_weighs_at_most (staged_connective op p g f) above k s h =
      let whole = ap standing_weight h.4 in
      let both = weigh-append (stages above g) (stages above f) in
      let left = matched_weighs_at_most g above k h.0 h.2 in
      let right = matched_weighs_at_most f above k h.1 h.3 in
      omega (arith, whole, both, left, right)
  matched_weighs_at_most (staged_selection v g) above k s h = let whole = ap standing_weight h.2 in let below = matched_weighs_at_most g above k h.0 h.1 in omega (arith, whole, below)
  matched_weighs_at_most (staged_expansion p bs) above k s h = let whole = ap standing_weight h.2 in let below = matched_branches_weigh_at_most bs above k h.0 h.1 in omega (arith, whole, below)

  matched_branches_weigh_at_most : (bs : StagedBranches) (above k : ℕ) (ms : StandingBranches) → BranchesMatch k bs ms → branch_weight ms ≤ weigh (branch_stages above bs)
  matched_branches_weigh_at_most none_staged above k ms h = let whole = ap branch_weight h in omega (arith, whole)
  matched_branches_weigh_at_most (branch_staged u step g bs) above k ms (inl h) =
      let x : Stage = record { above = above; step = step; term = u } in
      let first = sum_by-cons (λ (x : Stage). term_weight x.term) x (stages step g ++ branch_stages above bs) in
      let both = weigh-append (stages step g) (branch_stages above bs) in
      let later = matched_branches_weigh_at_most bs above k ms h.1 in
      omega (arith, first, both, later)
  matched_branches_weigh_at_most (branch_staged u step g bs) above k ms (inr h) =
      let x : Stage = record { above = above; step = step; term = u } in
      let first = sum_by-cons (λ (x : Stage). term_weight x.term) x (stages step g ++ branch_stages above bs) in
      let both = weigh-append (stages step g) (branch_stages above bs) in
      let here = matched_weighs_at_most g step k h.1 h.3 in
      let later = matched_branches_weigh_at_most bs above k h.2 h.4 in
      let whole = inserted_weighs u h.1 h.2 ms h.5 in
      omega (arith, first, both, here, later, whole)

-- all steps of a target are at most the last one
pub target_by : (formula : Term) (level n : ℕ) (g : StagedTree) → IsTarget formula level n g → AllByRecursion (IsBy n) (stages 0 g)
target_by formula level n g h = every_contained (IsBy n) (stages 0 g)
    (λ x there. (All-contains (λ (step : ℕ). (1 ≤ step) × (step ≤ n)) (steps_of g) x.step h.steps.numbers (Contains-image (λ (x : Stage). x.step) (stages 0 g) x there)).1)

pub last_step_weighs : (formula : Term) (level n : ℕ) (g : StagedTree) (t : ExpansionTree) (s : Standing) → IsTarget formula level n g → IsTree formula t s → Matches n g s
    → tree_weight t ≡ staged_weight g
last_step_weighs formula level n g t s target tree h =
    tree_weighs t true tree.normal s 1 tree.stands ∙ sym (matched_weighs g 0 n s (target_by formula level n g target) h)

pub each_step_weighs : (formula : Term) (level n k : ℕ) (g : StagedTree) (t : ExpansionTree) (s : Standing) → IsTarget formula level n g → IsTree formula t s → Matches k g s
    → tree_weight t ≤ staged_weight g
each_step_weighs formula level n k g t s target tree h =
    let own : tree_weight t ≡ standing_weight s = tree_weighs t true tree.normal s 1 tree.stands in
    let less : standing_weight s ≤ staged_weight g = matched_weighs_at_most g 0 k s h in
    omega (arith, own, less)

-- truth

abbrev Joined : Bool → Type 0 → Type 0 → Type 0
Joined true A B = A ⊎ B
Joined false A B = A × B

joined_map : (p : Bool) (A B C D : Type 0) → (A → C) → (B → D) → Joined p A B → Joined p C D
joined_map true A B C D f g h = elim h [ inl x ↦ inl (f x) | inr y ↦ inr (g y) ]
joined_map false A B C D f g h = (f h.0, g h.1)

joined_swap : (p : Bool) (A B C : Type 0) → Joined p A (Joined p B C) → Joined p B (Joined p A C)
joined_swap true A B C h = elim h [ inl x ↦ inr (inl x) | inr y ↦ (elim y [ inl z ↦ inl z | inr z ↦ inr (inr z) ]) ]
joined_swap false A B C h = (h.1.0, (h.0, h.1.1))

-- the branches hold as the polarity joins them
abbrev BranchesHold : List Term → Bool → StandingBranches → Type 0
BranchesHold l p none_standing = Holds l (truth_value (not p))
BranchesHold l p (branch_standing u n ns) = Joined p (Holds l (deep_formula n)) (BranchesHold l p ns)

joined_holds : (p : Bool) (l : List Term) (a : Term) (ns : StandingBranches) → Holds l (joined_deep p a ns) ↔ Joined p (Holds l a) (BranchesHold l p ns)
joined_holds true l a none_standing = (inl, (λ h. elim h [ inl x ↦ x | inr y ↦ absurd y ]))
joined_holds false l a none_standing = ((λ h. (h, tt)), (λ h. h.0))
joined_holds true l a (branch_standing u n ns) =
    let rest = joined_holds true l (compound_of Or a (deep_formula n)) ns in (
      (λ h. elim (rest.0 h) [ inl x ↦ (elim x [ inl y ↦ inl y | inr y ↦ inr (inl y) ]) | inr z ↦ inr (inr z) ]),
      (λ h. rest.1 (elim h [ inl x ↦ inl (inl x) | inr y ↦ (elim y [ inl z ↦ inl (inr z) | inr z ↦ inr z ]) ])),
    )
joined_holds false l a (branch_standing u n ns) =
    let rest = joined_holds false l (compound_of And a (deep_formula n)) ns in (
      (λ h. let parts = rest.0 h in (parts.0.0, (parts.0.1, parts.1))),
      (λ h. rest.1 ((h.0, h.1.0), h.1.1)),
    )

expansion_holds : (p : Bool) (l : List Term) (ns : StandingBranches) → Holds l (deep_formula (at_expansion p ns)) ↔ BranchesHold l p ns
expansion_holds p l none_standing = ((λ h. h), (λ h. h))
expansion_holds p l (branch_standing u n ns) = joined_holds p l (deep_formula n) ns

inserted_holds : (l : List Term) (p : Bool) (u : Term) (n : Standing) (ns ms : StandingBranches) → IsInserted u n ns ms → BranchesHold l p ms ↔ Joined p (Holds l (deep_formula n)) (BranchesHold l p ns)
inserted_holds l p u n none_standing ms h =
    let Q : StandingBranches → Type 0 = λ ms. BranchesHold l p ms ↔ Joined p (Holds l (deep_formula n)) (BranchesHold l p none_standing) in subst Q (sym h) ((λ x. x), (λ x. x))
inserted_holds l p u n (branch_standing w m ns) ms (inl h) =
    let Q : StandingBranches → Type 0 = λ ms. BranchesHold l p ms ↔ Joined p (Holds l (deep_formula n)) (BranchesHold l p (branch_standing w m ns)) in subst Q (sym h) ((λ x. x), (λ x. x))
inserted_holds l p u n (branch_standing w m ns) ms (inr h) =
    let Q : StandingBranches → Type 0 = λ ms. BranchesHold l p ms ↔ Joined p (Holds l (deep_formula n)) (BranchesHold l p (branch_standing w m ns)) in
    let N : Type 0 = Holds l (deep_formula n) in
    let M : Type 0 = Holds l (deep_formula m) in
    let rest = inserted_holds l p u n ns h.0 h.1 in
    subst Q (sym h.2) (
      (λ x. joined_swap p M N (BranchesHold l p ns) (joined_map p M (BranchesHold l p h.0) M (Joined p N (BranchesHold l p ns)) (λ y. y) rest.0 x)),
      (λ x. joined_map p M (Joined p N (BranchesHold l p ns)) M (BranchesHold l p h.0) (λ y. y) rest.1 (joined_swap p N M (BranchesHold l p ns) x)),
    )

same_holds : (l : List Term) (a b : Term) → a ≡ b → Holds l a ↔ Holds l b
same_holds l a b e = (subst (Holds l) e, subst (Holds l) (sym e))

compound_holds : (op : Op) (l : List Term) (a b c d : Term) → Holds l a ↔ Holds l c → Holds l b ↔ Holds l d → Holds l (compound_of op a b) ↔ Holds l (compound_of op c d)
compound_holds And l a b c d f g = ((λ h. (f.0 h.0, g.0 h.1)), (λ h. (f.1 h.0, g.1 h.1)))
compound_holds Or l a b c d f g = ((λ h. elim h [ inl x ↦ inl (f.0 x) | inr y ↦ inr (g.0 y) ]), (λ h. elim h [ inl x ↦ inl (f.1 x) | inr y ↦ inr (g.1 y) ]))
compound_holds Imp l a b c d f g = ((λ h x. g.0 (h (f.1 x))), (λ h x. g.1 (h (f.0 x))))

mutual
  matched_holds : (g : StagedTree) (l : List Term) (above k : ℕ) (p : Bool) (a c : Term) (s : Standing) → a ≡ c → AllByRecursion (IsBy k) (stages above g) → Fits p a (standing_of g) → Fits p c s
      → Matches k g s → Holds l (deep_formula s) ↔ Holds l (deep_formula (standing_of g))
  matched_holds (staged_leaf q x) l above k p a c s e by f r h =
      let Q : Standing → Type 0 = λ s. Holds l (deep_formula s) ↔ Holds l x in
      let r : Fits p c (at_leaf q h.0) = subst (Fits p c) h.1 r in
      subst Q (sym h.1) (same_holds l h.0 x (r.1 ∙ sym e ∙ sym f.1))
  matched_holds (staged_constant q v) l above k p a c s e by f r h =
      let Q : Standing → Type 0 = λ s. Holds l (deep_formula s) ↔ Holds l (truth_value v) in
      let r : Fits p c (at_constant q h.0) = subst (Fits p c) h.1 r in
      subst Q (sym h.1) (same_holds l (truth_value h.0) (truth_value v) (sym r.1 ∙ sym e ∙ f.1))
  matched_holds (staged_negation g) l above k p a c s e by f r h =
      let Q : Standing → Type 0 = λ s. Holds l (deep_formula s) ↔ Holds l (deep_formula (standing_of (staged_negation g))) in
      let r : Fits p c (at_negation h.0) = subst (Fits p c) h.2 r in
      let below = matched_holds g l above k (not p) f.0 r.0 h.0 (cc (f.1, e, r.1)) by f.2 r.2 h.1 in
      subst Q (sym h.2) ((λ x y. x (below.1 y)), (λ x y. x (below.0 y)))
  matched_holds (staged_connective op q g d) l above k p a c s e by f r h =
      let Q : Standing → Type 0 = λ s. Holds l (deep_formula s) ↔ Holds l (deep_formula (standing_of (staged_connective op q g d))) in
      let r : Fits p c (at_connective op q h.0 h.1) = subst (Fits p c) h.4 r in
      let left = matched_holds g l above k (left_polarity op p) f.1 r.1 h.0 (cc (f.3, e, r.3)) (every_left (IsBy k) (stages above g) (stages above d) by) f.4 r.4 h.2 in
      let right = matched_holds d l above k p f.2 r.2 h.1 (cc (f.3, e, r.3)) (every_right (IsBy k) (stages above g) (stages above d) by) f.5 r.5 h.3 in
      subst Q (sym h.4) (compound_holds op l (deep_formula h.0) (deep_formula h.1) (deep_formula (standing_of g)) (deep_formula (standing_of d)) left right)
  matched_holds (staged_selection v g) l above k p a c s e by f r h =
      let Q : Standing → Type 0 = λ s. Holds l (deep_formula s) ↔ Holds l (deep_formula (standing_of (staged_selection v g))) in
      let r : Fits p c (at_selection v h.0) = subst (Fits p c) h.2 r in
      let body : f.0 ≡ r.0 = cc (f.1, e, r.1) in
      subst Q (sym h.2) (matched_holds g l above k p (instance_of f.0 (free v.0 v.1)) (instance_of r.0 (free v.0 v.1)) h.0 (ap (λ (b : Term). instance_of b (free v.0 v.1)) body) by f.2 r.2 h.1)
  matched_holds (staged_expansion q bs) l above k p a c s e by f r h =
      let Q : Standing → Type 0 = λ s. Holds l (deep_formula s) ↔ Holds l (deep_formula (standing_of (staged_expansion q bs))) in
      let r : Fits p c (at_expansion q h.0) = subst (Fits p c) h.2 r in
      let ty : f.1 ≡ r.1 = cc (f.3, e, r.3) in
      let body : f.2 ≡ r.2 = cc (f.3, e, r.3) in
      let mine = expansion_holds q l h.0 in
      let other = expansion_holds q l (standing_branches_of bs) in
      let branches = matched_branches_hold bs l above k p q f.1 r.1 f.2 r.2 h.0 body by f.4 r.4 h.1 in
      subst Q (sym h.2) ((λ x. other.1 (branches.0 (mine.0 x))), (λ x. mine.1 (branches.1 (other.0 x))))

  matched_branches_hold : (bs : StagedBranches) (l : List Term) (above k : ℕ) (p q : Bool) (ty other : SimpleType) (b d : Term) (ms : StandingBranches) → b ≡ d
      → AllByRecursion (IsBy k) (branch_stages above bs) → BranchesFit p ty b (standing_branches_of bs) → BranchesFit p other d ms → BranchesMatch k bs ms
      → BranchesHold l q ms ↔ BranchesHold l q (standing_branches_of bs)
  matched_branches_hold none_staged l above k p q ty other b d ms e by f r h =
      let Q : StandingBranches → Type 0 = λ ms. BranchesHold l q ms ↔ BranchesHold l q none_standing in subst Q (sym h) ((λ x. x), (λ x. x))
  matched_branches_hold (branch_staged u step g bs) l above k p q ty other b d ms e by f r (inl h) = absurd (let early = by.0 in let late = h.0 in omega (arith, early, late))
  matched_branches_hold (branch_staged u step g bs) l above k p q ty other b d ms e by f r (inr h) =
      let inside = stages step g in
      let behind = branch_stages above bs in
      let parts = inserted_fits p other d u h.1 h.2 ms h.5 r in
      let same : f.1 ≡ parts.0.1 = one_normal_form [] (instance_of b u) f.1 parts.0.1 truth_type f.2 (subst (λ (x : Term). IsNormalFormula parts.0.1 (instance_of x u)) (sym e) parts.0.2) in
      let here = matched_holds g l step k p f.1 parts.0.1 h.1 same (every_left (IsBy k) inside behind by.1) f.3 parts.0.3 h.3 in
      let later = matched_branches_hold bs l above k p q ty other b d h.2 e (every_right (IsBy k) inside behind by.1) f.4 parts.1 h.4 in
      let whole = inserted_holds l q u h.1 h.2 ms h.5 in
      let H : Type 0 = Holds l (deep_formula h.1) in
      let G : Type 0 = Holds l (deep_formula (standing_of g)) in
      let N : Type 0 = BranchesHold l q h.2 in
      let B : Type 0 = BranchesHold l q (standing_branches_of bs) in
      ((λ x. joined_map q H N G B here.0 later.0 (whole.0 x)), (λ x. whole.1 (joined_map q G B H N here.1 later.1 x)))

pub last_step_is_proof : (formula : Term) (level n : ℕ) (g : StagedTree) (t : ExpansionTree) (s : Standing) → IsFormula formula → IsTarget formula level n g → IsTree formula t s → Matches n g s
    → IsTautology (deep_formula s)
last_step_is_proof formula level n g t s is_formula target tree h l given =
    let same = one_normal_form [] formula target.is_tree.normal tree.normal truth_type target.is_tree.is_normal tree.is_normal in
    let one = stands_fits target.tree true target.is_tree.normal (standing_of g) target.is_tree.stands in
    let other = stands_fits t true tree.normal s tree.stands in
    (matched_holds g l 0 n true target.is_tree.normal tree.normal s same (target_by formula level n g target) one other h).1 (target.tautology l given)
