-- An expansion proof whose selected variables get new names stays one.
use Rattle.std.proofs.Common.{◌≡◌, ◌-◌, ◌+◌, ℕ, zero, suc, List, [], ◌∷◌, ◌++◌, Bool, true, false, cond, eqb, All, Contains, None, Some, map, not, slice_get, refl, sym, ap, ap₂, subst, ◌∙◌, arith, inl, inr, ◌⊎◌}
use Rattle.std.specs.List.{AllByRecursion}
use Rattle.std.proofs.lemmas.List.{map-append}
use Rattle.std.proofs.lemmas.List.Elements.{All-contains, All-from_recursion, Contains-append_left, Contains-append_right, Contains-append_cases}
use Rattle.hol_terms.specs.Terms.{SimpleType, Term, free, bound, constant, application, abstraction, truth_type, Variable}
use Rattle.hol_terms.specs.FreeVariables.{IsFree, free_variables_of}
use Rattle.hol_terms.proofs.FreeLaws.{free_variables-contains}
use Rattle.expansion_tree.specs.Budgets.{Head, variable_head, constant_head, heads_of, HasVariableHead, IsInBudget, IsInSignature, IsSelected}
use Rattle.expansion_tree.specs.Faults.{AreNew, IsTree}
use Rattle.expansion_tree.specs.Matrices.{joined}
use Rattle.expansion_tree.specs.Occurrences.{Occurrence, branch_occurrences_from, occurrences_from, occurrences_of, tree_weight, weight_of_all}
use Rattle.expansion_tree.specs.Standing.{IsNormalFormula, Selection, Standing, at_leaf, at_constant, at_negation, at_connective, at_selection, at_expansion, StandingBranches, none_standing, branch_standing, Stands, BranchesStand, branch_leaf_count, branch_leaves, branch_node_total, branch_paths_from, branch_selected_variables, branch_selections_from, compound_paths, leaf_count, leaves, node_total, paths_from, selected_variables, selections, selections_from}
use Rattle.expansion_tree.specs.Trees.{ExpansionTree, leaf_node, constant_node, negation_node, connective_node, selection_node, expansion_node, ExpansionBranches, no_branch, branch, branch_node_count, node_count}
use Rattle.dependency.specs.Dependencies.{Before, IsAcyclic, occurrence_at}
use Rattle.dependency.specs.Graphs.{IsClosedChain, Leads, last_behind}
use Rattle.dependency.proofs.Elements.{Contains-first, Contains-later, Contains-image, at_image, first_or_later, image_at, image_of, none_there}
use Rattle.vertical_paths.specs.Matings.{IsGood, Spans, leaf_at}
use Rattle.proof_text.specs.Texts.{Proof}
use Rattle.exp_check.specs.Proofs.{IsProof, IsProofAs}
use Rattle.grown_trees.proofs.Counted.{IsOnce, contains_times, counted_once, new_counted, times, times_contains}
use Rattle.grown_trees.proofs.Every.{every_contained}
use Rattle.grown_trees.proofs.Exchanging.{Exchange}
use Rattle.grown_trees.proofs.Fitting.{branches_of, fits_stands, stands_fits, tree_of}
use Rattle.grown_trees.proofs.Renamed.{fits-renamed, renamed_branches, renamed_standing, selected-renamed}
use Rattle.grown_trees.proofs.Renaming.{head-rename, heads-rename, normal-rename, rename, rename-fixed, renamed_head, weight-rename}
use Rattle.grown_trees.proofs.Selecting.{head_free}
use Rattle.grown_trees.proofs.Swapping.{Exchanged, HaveOneType, exchange_for, left_one, right_one}
use Rattle.plain_search.specs.Proofs.{IsLeastProof, IsProofInBudget}
use Rattle.plain_search.specs.Renaming.{AreNewNames, NewNames, renamed_proof, renamed_term, renamed_tree, renamed_tree_branches, renamed_variable}

-- terms and trees

-- names that agree where a term is free
rename-same : (f g : NewNames) (t : Term) → ((v : Variable) → IsFree v.0 v.1 t → renamed_variable f v ≡ renamed_variable g v) → rename f t ≡ renamed_term g t
rename-same f g (free n s) h = let same = h (n, s) (refl, refl) in ap (λ (m : List ℕ). free m s) (ap (λ (v : Variable). v.0) same)
rename-same f g (bound i) h = refl
rename-same f g (constant c) h = refl
rename-same f g (application a b) h = ap₂ application (rename-same f g a (λ v used. h v (inl used))) (rename-same f g b (λ v used. h v (inr used)))
rename-same f g (abstraction s b) h = ap (abstraction s) (rename-same f g b h)

mutual
  tree-same : (f g : NewNames) (s : Standing) (at : ℕ) → ((v : Variable) → Contains (selected_variables s) v → renamed_variable f v ≡ renamed_variable g v)
      → ((o : Occurrence) → Contains (occurrences_from at (tree_of s)) o → rename f o.term ≡ renamed_term g o.term) → tree_of (renamed_standing f s) ≡ renamed_tree g s
  tree-same f g (at_leaf p a) at h k = refl
  tree-same f g (at_constant p v) at h k = refl
  tree-same f g (at_negation n) at h k = ap negation_node (tree-same f g n (at + 1) h k)
  tree-same f g (at_connective op p m n) at h k =
      let left = occurrences_from (at + 1) (tree_of m) in
      let right = occurrences_from (at + 1 + node_count (tree_of m)) (tree_of n) in
      ap₂ (connective_node op)
      (tree-same f g m (at + 1) (λ v there. h v (Contains-append_left (selected_variables m) (selected_variables n) v there)) (λ o there. k o (Contains-append_left left right o there)))
      (tree-same f g n (at + 1 + node_count (tree_of m)) (λ v there. h v (Contains-append_right (selected_variables m) (selected_variables n) v there)) (λ o there. k o (Contains-append_right left right o there)))
  tree-same f g (at_selection v n) at h k =
      ap₂ selection_node (ap (λ (w : Variable). w.0) (h v (Contains-first v (selected_variables n)))) (tree-same f g n (at + 1) (λ w there. h w (Contains-later v (selected_variables n) w there)) k)
  tree-same f g (at_expansion p ns) at h k = ap expansion_node (branches-same f g ns (at + 1) h k)

  branches-same : (f g : NewNames) (ns : StandingBranches) (at : ℕ) → ((v : Variable) → Contains (branch_selected_variables ns) v → renamed_variable f v ≡ renamed_variable g v)
      → ((o : Occurrence) → Contains (branch_occurrences_from at (branches_of ns)) o → rename f o.term ≡ renamed_term g o.term) → branches_of (renamed_branches f ns) ≡ renamed_tree_branches g ns
  branches-same f g none_standing at h k = refl
  branches-same f g (branch_standing u n ns) at h k =
      let x : Occurrence = record { first = at; last = at + node_count (tree_of n) - 1; term = u } in
      let inner = occurrences_from at (tree_of n) in
      let more = branch_occurrences_from (at + node_count (tree_of n)) (branches_of ns) in
      let term : rename f u ≡ renamed_term g u = k x (Contains-first x (inner ++ more)) in
      let tree : tree_of (renamed_standing f n) ≡ renamed_tree g n =
      tree-same f g n at (λ v there. h v (Contains-append_left (selected_variables n) (branch_selected_variables ns) v there))
      (λ o there. k o (Contains-later x (inner ++ more) o (Contains-append_left inner more o there))) in
      let rest : branches_of (renamed_branches f ns) ≡ renamed_tree_branches g ns =
      branches-same f g ns (at + node_count (tree_of n)) (λ v there. h v (Contains-append_right (selected_variables n) (branch_selected_variables ns) v there))
      (λ o there. k o (Contains-later x (inner ++ more) o (Contains-append_right inner more o there))) in
      ap₂ (λ (a : Term) (t : ExpansionTree). branch a t (branches_of (renamed_branches f ns))) term tree ∙ ap (branch (renamed_term g u) (renamed_tree g n)) rest

mutual
  standing_tree : (t : ExpansionTree) (p : Bool) (a : Term) (s : Standing) → Stands p a t s → tree_of s ≡ t
  standing_tree leaf_node p a s h = ap tree_of h
  standing_tree constant_node p a s h = ap tree_of h.2
  standing_tree (negation_node t) p a s h = ap tree_of h.4 ∙ ap negation_node (standing_tree t _ h.0 h.2 h.3)
  standing_tree (connective_node op t u) p a s h = ap tree_of h.7 ∙ ap₂ (connective_node op) (standing_tree t _ h.0 h.3 h.4) (standing_tree u p h.1 h.5 h.6)
  standing_tree (selection_node name t) p a s h = ap tree_of h.5 ∙ ap (selection_node name) (standing_tree t p _ h.3 h.4)
  standing_tree (expansion_node bs) p a s h = ap tree_of h.5 ∙ ap expansion_node (standing_branches bs p h.0 h.1 h.3 h.4)

  standing_branches : (bs : ExpansionBranches) (p : Bool) (ty : SimpleType) (b : Term) (ns : StandingBranches) → BranchesStand p ty b bs ns → branches_of ns ≡ bs
  standing_branches no_branch p ty b ns h = ap branches_of h
  standing_branches (branch u t bs) p ty b ns h =
      ap branches_of h.7 ∙ ap₂ (branch u) (standing_tree t p h.1 h.3 h.4) (standing_branches bs p ty b h.5 h.6)

-- occurrences

abbrev renamed_occurrence : NewNames → Occurrence → Occurrence
renamed_occurrence f o = record { first = o.first; last = o.last; term = rename f o.term }

mutual
  count-renamed : (f : NewNames) (s : Standing) → node_count (tree_of (renamed_standing f s)) ≡ node_count (tree_of s)
  count-renamed f (at_leaf p a) = refl
  count-renamed f (at_constant p v) = refl
  count-renamed f (at_negation n) = let one = count-renamed f n in omega (arith, one)
  count-renamed f (at_connective op p m n) = let one = count-renamed f m in let other = count-renamed f n in omega (arith, one, other)
  count-renamed f (at_selection v n) = let one = count-renamed f n in omega (arith, one)
  count-renamed f (at_expansion p ns) = let all = branch_count-renamed f ns in omega (arith, all)

  branch_count-renamed : (f : NewNames) (ns : StandingBranches) → branch_node_count (branches_of (renamed_branches f ns)) ≡ branch_node_count (branches_of ns)
  branch_count-renamed f none_standing = refl
  branch_count-renamed f (branch_standing u n ns) = let one = count-renamed f n in let rest = branch_count-renamed f ns in omega (arith, one, rest)

mutual
  occurrences-renamed : (f : NewNames) (s : Standing) (at : ℕ) → occurrences_from at (tree_of (renamed_standing f s)) ≡ map (renamed_occurrence f) (occurrences_from at (tree_of s))
  occurrences-renamed f (at_leaf p a) at = refl
  occurrences-renamed f (at_constant p v) at = refl
  occurrences-renamed f (at_negation n) at = occurrences-renamed f n (at + 1)
  occurrences-renamed f (at_connective op p m n) at =
      let behind = at + 1 + node_count (tree_of m) in
      ap₂ (λ (x y : List Occurrence). x ++ y) (occurrences-renamed f m (at + 1))
      (ap (λ (k : ℕ). occurrences_from (at + 1 + k) (tree_of (renamed_standing f n))) (count-renamed f m) ∙ occurrences-renamed f n behind)
      ∙ sym (map-append (renamed_occurrence f) (occurrences_from (at + 1) (tree_of m)) (occurrences_from behind (tree_of n)))
  occurrences-renamed f (at_selection v n) at = occurrences-renamed f n (at + 1)
  occurrences-renamed f (at_expansion p ns) at = branch_occurrences-renamed f ns (at + 1)

  branch_occurrences-renamed : (f : NewNames) (ns : StandingBranches) (at : ℕ)
      → branch_occurrences_from at (branches_of (renamed_branches f ns)) ≡ map (renamed_occurrence f) (branch_occurrences_from at (branches_of ns))
  branch_occurrences-renamed f none_standing at = refl
  branch_occurrences-renamed f (branch_standing u n ns) at =
      let behind = at + node_count (tree_of n) in
      let count = count-renamed f n in
      ap₂ (λ (k : ℕ) (l : List Occurrence). record { first = at; last = at + k - 1; term = rename f u } ∷ l) count
      (ap₂ (λ (x y : List Occurrence). x ++ y) (occurrences-renamed f n at)
      (ap (λ (k : ℕ). branch_occurrences_from (at + k) (branches_of (renamed_branches f ns))) count ∙ branch_occurrences-renamed f ns behind)
      ∙ sym (map-append (renamed_occurrence f) (occurrences_from at (tree_of n)) (branch_occurrences_from behind (branches_of ns))))

weights-renamed : (f : NewNames) (os : List Occurrence) → weight_of_all (map (renamed_occurrence f) os) ≡ weight_of_all os
weights-renamed f [] = refl
weights-renamed f (o ∷ os) = let one = weight-rename f o.term in let rest = weights-renamed f os in omega (arith, one, rest)

-- selections

abbrev renamed_selection : NewNames → Selection → Selection
renamed_selection f x = record { node = x.node; variable = renamed_variable f x.variable }

mutual
  total-renamed : (f : NewNames) (s : Standing) → node_total (renamed_standing f s) ≡ node_total s
  total-renamed f (at_leaf p a) = refl
  total-renamed f (at_constant p v) = refl
  total-renamed f (at_negation n) = let one = total-renamed f n in omega (arith, one)
  total-renamed f (at_connective op p m n) = let one = total-renamed f m in let other = total-renamed f n in omega (arith, one, other)
  total-renamed f (at_selection v n) = let one = total-renamed f n in omega (arith, one)
  total-renamed f (at_expansion p ns) = let all = branch_total-renamed f ns in omega (arith, all)

  branch_total-renamed : (f : NewNames) (ns : StandingBranches) → branch_node_total (renamed_branches f ns) ≡ branch_node_total ns
  branch_total-renamed f none_standing = refl
  branch_total-renamed f (branch_standing u n ns) = let one = total-renamed f n in let rest = branch_total-renamed f ns in omega (arith, one, rest)

mutual
  selections-renamed : (f : NewNames) (s : Standing) (at : ℕ) → selections_from at (renamed_standing f s) ≡ map (renamed_selection f) (selections_from at s)
  selections-renamed f (at_leaf p a) at = refl
  selections-renamed f (at_constant p v) at = refl
  selections-renamed f (at_negation n) at = selections-renamed f n (at + 1)
  selections-renamed f (at_connective op p m n) at =
      let behind = at + 1 + node_total m in
      ap₂ (λ (x y : List Selection). x ++ y) (selections-renamed f m (at + 1))
      (ap (λ (k : ℕ). selections_from (at + 1 + k) (renamed_standing f n)) (total-renamed f m) ∙ selections-renamed f n behind)
      ∙ sym (map-append (renamed_selection f) (selections_from (at + 1) m) (selections_from behind n))
  selections-renamed f (at_selection v n) at =
      let x : Selection = record { node = at; variable = renamed_variable f v } in ap (λ (l : List Selection). x ∷ l) (selections-renamed f n (at + 1))
  selections-renamed f (at_expansion p ns) at = branch_selections-renamed f ns (at + 1)

  branch_selections-renamed : (f : NewNames) (ns : StandingBranches) (at : ℕ) → branch_selections_from at (renamed_branches f ns) ≡ map (renamed_selection f) (branch_selections_from at ns)
  branch_selections-renamed f none_standing at = refl
  branch_selections-renamed f (branch_standing u n ns) at =
      let behind = at + node_total n in
      ap₂ (λ (x y : List Selection). x ++ y) (selections-renamed f n at)
      (ap (λ (k : ℕ). branch_selections_from (at + k) (renamed_branches f ns)) (total-renamed f n) ∙ branch_selections-renamed f ns behind)
      ∙ sym (map-append (renamed_selection f) (selections_from at n) (branch_selections_from behind ns))

-- leaves and paths

abbrev renamed_leaf : NewNames → Bool × Term → Bool × Term
renamed_leaf f leaf = (leaf.0, rename f leaf.1)

mutual
  leaves_all-renamed : (f : NewNames) (s : Standing) → leaves (renamed_standing f s) ≡ map (renamed_leaf f) (leaves s)
  leaves_all-renamed f (at_leaf p a) = refl
  leaves_all-renamed f (at_constant p v) = refl
  leaves_all-renamed f (at_negation n) = leaves_all-renamed f n
  leaves_all-renamed f (at_connective op p m n) =
      ap₂ (λ (x y : List (Bool × Term)). x ++ y) (leaves_all-renamed f m) (leaves_all-renamed f n) ∙ sym (map-append (renamed_leaf f) (leaves m) (leaves n))
  leaves_all-renamed f (at_selection v n) = leaves_all-renamed f n
  leaves_all-renamed f (at_expansion p ns) = branch_leaves_all-renamed f ns

  branch_leaves_all-renamed : (f : NewNames) (ns : StandingBranches) → branch_leaves (renamed_branches f ns) ≡ map (renamed_leaf f) (branch_leaves ns)
  branch_leaves_all-renamed f none_standing = refl
  branch_leaves_all-renamed f (branch_standing u n ns) =
      ap₂ (λ (x y : List (Bool × Term)). x ++ y) (leaves_all-renamed f n) (branch_leaves_all-renamed f ns) ∙ sym (map-append (renamed_leaf f) (leaves n) (branch_leaves ns))

mutual
  leaf_count-renamed : (f : NewNames) (s : Standing) → leaf_count (renamed_standing f s) ≡ leaf_count s
  leaf_count-renamed f (at_leaf p a) = refl
  leaf_count-renamed f (at_constant p v) = refl
  leaf_count-renamed f (at_negation n) = leaf_count-renamed f n
  leaf_count-renamed f (at_connective op p m n) = ap₂ ◌+◌ (leaf_count-renamed f m) (leaf_count-renamed f n)
  leaf_count-renamed f (at_selection v n) = leaf_count-renamed f n
  leaf_count-renamed f (at_expansion p ns) = branch_leaf_count-renamed f ns

  branch_leaf_count-renamed : (f : NewNames) (ns : StandingBranches) → branch_leaf_count (renamed_branches f ns) ≡ branch_leaf_count ns
  branch_leaf_count-renamed f none_standing = refl
  branch_leaf_count-renamed f (branch_standing u n ns) = ap₂ ◌+◌ (leaf_count-renamed f n) (branch_leaf_count-renamed f ns)

mutual
  paths-renamed : (f : NewNames) (s : Standing) (first : ℕ) → paths_from first (renamed_standing f s) ≡ paths_from first s
  paths-renamed f (at_leaf p a) first = refl
  paths-renamed f (at_constant p v) first = refl
  paths-renamed f (at_negation n) first = paths-renamed f n first
  paths-renamed f (at_connective op p m n) first =
      ap₂ (compound_paths op p) (paths-renamed f m first)
      (ap (λ (k : ℕ). paths_from (first + k) (renamed_standing f n)) (leaf_count-renamed f m) ∙ paths-renamed f n (first + leaf_count m))
  paths-renamed f (at_selection v n) first = paths-renamed f n first
  paths-renamed f (at_expansion p ns) first = branch_paths-renamed f ns first

  branch_paths-renamed : (f : NewNames) (ns : StandingBranches) (first : ℕ) → branch_paths_from first (renamed_branches f ns) ≡ branch_paths_from first ns
  branch_paths-renamed f none_standing first = refl
  branch_paths-renamed f (branch_standing u n ns) first =
      ap₂ joined (paths-renamed f n first)
      (ap (λ (k : ℕ). branch_paths_from (first + k) (renamed_branches f ns)) (leaf_count-renamed f n) ∙ branch_paths-renamed f ns (first + leaf_count n))

leaf_at-renamed : (f : NewNames) (ls : List (Bool × Term)) (n : ℕ) (p : Bool) (a : Term) → leaf_at ls n ≡ Some (p, a) → leaf_at (map (renamed_leaf f) ls) n ≡ Some (p, rename f a)
leaf_at-renamed f ls n p a h = go (eqb n 0) h
  where
    go : (b : Bool) → cond b None (slice_get ls (n - 1)) ≡ Some (p, a) → cond b None (slice_get (map (renamed_leaf f) ls) (n - 1)) ≡ Some (p, rename f a)
    go true e = cc
    go false e = at_image (renamed_leaf f) ls (n - 1) (p, a) e

good-renamed : (f : NewNames) (ls : List (Bool × Term)) (pair : ℕ × ℕ) → IsGood ls pair → IsGood (map (renamed_leaf f) ls) pair
good-renamed f ls pair h = (h.0, rename f h.1, leaf_at-renamed f ls pair.0 h.0 h.1 h.2, leaf_at-renamed f ls pair.1 (not h.0) h.1 h.3)

-- lists

map-same : {A B : Type 0} (f g : A → B) (xs : List A) → ((x : A) → Contains xs x → f x ≡ g x) → map f xs ≡ map g xs
map-same f g [] h = refl
map-same f g (x ∷ xs) h = ap₂ (λ y ys. y ∷ ys) (h x (Contains-first x xs)) (map-same f g xs (λ y there. h y (Contains-later x xs y there)))

once-image : (f : NewNames) (vs : List Variable) → ((v w : Variable) → Contains vs v → Contains vs w → renamed_variable f v ≡ renamed_variable f w → v ≡ w) → IsOnce vs → IsOnce (map (renamed_variable f) vs)
once-image f [] h once = tt
once-image f (v ∷ vs) h once = (
  (λ there.
      let q = image_of (renamed_variable f) vs (renamed_variable f v) there in
      once.0 (subst (Contains vs) (h q.0 v (Contains-later v vs q.0 q.1) (Contains-first v vs) q.2) q.1)),
  once-image f vs (λ x y there here. h x y (Contains-later v vs x there) (Contains-later v vs y here)) once.1,
)

once_new : (taken vs : List Variable) → IsOnce vs → ((v : Variable) → Contains taken v → Contains vs v → ⊥) → AreNew taken vs
once_new taken [] once h = tt
once_new taken (x ∷ vs) once h = (
  (λ there. h x there (Contains-first x vs)),
  once_new (taken ++ x ∷ []) vs once.1 (λ v there among. elim (Contains-append_cases taken (x ∷ []) v there) [
    | inl left ↦ h v left (Contains-later x vs v among)
    | inr right ↦ elim (first_or_later x [] v right) [
      | inl same ↦ once.0 (subst (Contains vs) (sym same) among)
      | inr nowhere ↦ none_there v nowhere
    ]
  ]),
)

contained_or_not : (v : Variable) (xs : List Variable) → Contains xs v ⊎ (Contains xs v → ⊥)
contained_or_not v xs = go (times v xs) refl
  where
    go : (k : ℕ) → times v xs ≡ k → Contains xs v ⊎ (Contains xs v → ⊥)
    go zero e = inr (λ there. let some = contains_times v xs there in omega (arith, some, e))
    go (suc k) e = inl (times_contains v xs (omega (arith, e)))

leads-weaker : (R S : ℕ → ℕ → Type 0) → ((e f : ℕ) → R e f → S e f) → (x : ℕ) (xs : List ℕ) → Leads R x xs → Leads S x xs
leads-weaker R S h x [] leads = tt
leads-weaker R S h x (y ∷ ys) leads = (h x y leads.0, leads-weaker R S h y ys leads.1)

chain-weaker : (R S : ℕ → ℕ → Type 0) → ((e f : ℕ) → R e f → S e f) → (chain : List ℕ) → IsClosedChain R chain → IsClosedChain S chain
chain-weaker R S h [] closed = closed
chain-weaker R S h (x ∷ xs) closed = (leads-weaker R S h x xs closed.0, h (last_behind x xs) x closed.1)

-- dependence

free_exchanged : (e : Exchange) (v : Variable) (t : Term) → IsFree (e.to v.0 v.1) v.1 (rename e.to t) → IsFree v.0 v.1 t
free_exchanged e v (free m r) h = (sym (e.forth v.0 v.1) ∙ ap₂ e.from h.0 h.1 ∙ e.forth m r, h.1)
free_exchanged e v (bound i) h = h
free_exchanged e v (constant c) h = h
free_exchanged e v (application f a) (inl h) = inl (free_exchanged e v f h)
free_exchanged e v (application f a) (inr h) = inr (free_exchanged e v a h)
free_exchanged e v (abstraction s b) h = free_exchanged e v b h

occurrence_before : (f : NewNames) (os : List Occurrence) (n : ℕ) (o : Occurrence) → occurrence_at (map (renamed_occurrence f) os) n ≡ Some o
    → (q : Occurrence) × (occurrence_at os n ≡ Some q) × (renamed_occurrence f q ≡ o)
occurrence_before f os n o h = go (eqb n 0) h
  where
    go : (b : Bool) → cond b None (slice_get (map (renamed_occurrence f) os) (n - 1)) ≡ Some o → (q : Occurrence) × (cond b None (slice_get os (n - 1)) ≡ Some q) × (renamed_occurrence f q ≡ o)
    go true e = let none : ⊥ = cc in absurd none
    go false e = image_at (renamed_occurrence f) os (n - 1) o e

before_before : (x : Exchange) (os : List Occurrence) (ss : List Selection) (e f : ℕ) → Before (map (renamed_occurrence x.to) os) (map (renamed_selection x.to) ss) e f → Before os ss e f
before_before x os ss e f h =
    let upper = occurrence_before x.to os e h.upper h.is_upper in
    let later = occurrence_before x.to os f h.later h.is_later in
    let chosen = image_of (renamed_selection x.to) ss h.selection h.selected in
    let node : chosen.0.node ≡ h.selection.node = ap (λ (s : Selection). s.node) chosen.2 in
    let name : renamed_variable x.to chosen.0.variable ≡ h.selection.variable = ap (λ (s : Selection). s.variable) chosen.2 in
    let first : upper.0.first ≡ h.upper.first = ap (λ (o : Occurrence). o.first) upper.2 in
    let last : upper.0.last ≡ h.upper.last = ap (λ (o : Occurrence). o.last) upper.2 in
    let low = h.below.0 in
    let high = h.below.1 in
    let T : Term → Type 0 = λ t. IsFree h.selection.variable.0 h.selection.variable.1 t in
    let V : Variable → Type 0 = λ v. IsFree v.0 v.1 (rename x.to later.0.term) in
    record {
      upper = upper.0;
      is_upper = upper.1;
      later = later.0;
      is_later = later.1;
      selection = chosen.0;
      selected = chosen.1;
      below = (omega (arith, node, first, low), omega (arith, node, last, high));
      used = free_exchanged x chosen.0.variable later.0.term (subst V (sym name) (subst T (ap (λ (o : Occurrence). o.term) (sym later.2)) h.used));
    }

-- proofs

abbrev pairs_for : NewNames → List Variable → List (Variable × Variable)
pairs_for f vs = map (λ (v : Variable). (v, renamed_variable f v)) vs

lefts : (f : NewNames) (vs : List Variable) → map left_one (pairs_for f vs) ≡ vs
lefts f [] = refl
lefts f (v ∷ vs) = ap (λ (l : List Variable). v ∷ l) (lefts f vs)

rights : (f : NewNames) (vs : List Variable) → map right_one (pairs_for f vs) ≡ map (renamed_variable f) vs
rights f [] = refl
rights f (v ∷ vs) = ap (λ (l : List Variable). renamed_variable f v ∷ l) (rights f vs)

one_type : (f : NewNames) (vs : List Variable) → AllByRecursion HaveOneType (pairs_for f vs)
one_type f [] = tt
one_type f (v ∷ vs) = (refl, one_type f vs)

module _ (p : Proof) (s : Standing) (f : NewNames) (proof : IsProofAs p s) (names : AreNewNames p s f) where
  abbrev selected : List Variable
  selected = selected_variables s

  once : IsOnce selected
  once = let counted = new_counted (free_variables_of p.formula) selected proof.is_tree.selected in counted_once selected (λ v. (counted v).0)

  once_renamed : IsOnce (map (renamed_variable f) selected)
  once_renamed = once-image f selected names.differ once

  sent : Exchanged (pairs_for f selected)
  sent = exchange_for (pairs_for f selected) (one_type f selected) (subst IsOnce (sym (lefts f selected)) once) (subst IsOnce (sym (rights f selected)) once_renamed)

  -- what is selected gets its new name
  sends : (x : Exchanged (pairs_for f selected)) (v : Variable) → Contains selected v → renamed_variable x.exchange.to v ≡ renamed_variable f v
  sends x v there = x.sends (v, renamed_variable f v) (Contains-image (λ (v : Variable). (v, renamed_variable f v)) selected v there)

  -- what isn't, and is no new name, keeps its own
  keeps : (x : Exchanged (pairs_for f selected)) (v : Variable) → (Contains selected v → ⊥) → (Contains (map (renamed_variable f) selected) v → ⊥) → renamed_variable x.exchange.to v ≡ v
  keeps x v h k =
      x.keeps v (λ there. h (subst (λ (l : List Variable). Contains l v) (lefts f selected) there)) (λ there. k (subst (λ (l : List Variable). Contains l v) (rights f selected) there))

  known_unselected : (v : Variable) → Contains (free_variables_of p.formula) v → Contains selected v → ⊥
  known_unselected v there among =
      let none = (new_counted (free_variables_of p.formula) selected proof.is_tree.selected v).1 there in
      let some = contains_times v selected among in
      omega (arith, none, some)

  known_unsent : (v : Variable) → Contains (free_variables_of p.formula) v → Contains (map (renamed_variable f) selected) v → ⊥
  known_unsent v there among =
      let q = image_of (renamed_variable f) selected v among in
      let used : IsFree v.0 v.1 p.formula = (free_variables-contains v.0 v.1 p.formula).0 there in
      names.unfree q.0 q.1 (subst (λ (w : Variable). IsFree w.0 w.1 p.formula) (sym q.2) used)

  known_kept : (x : Exchanged (pairs_for f selected)) (v : Variable) → Contains (free_variables_of p.formula) v → renamed_variable x.exchange.to v ≡ v
  known_kept x v there = keeps x v (known_unselected v there) (known_unsent v there)

  formula_kept : (x : Exchanged (pairs_for f selected)) → rename x.exchange.to p.formula ≡ p.formula
  formula_kept x = rename-fixed x.exchange.to p.formula (λ v used. known_kept x v ((free_variables-contains v.0 v.1 p.formula).1 used))

  -- what stands in a term gets its new name
  term_sends : (x : Exchanged (pairs_for f selected)) (o : Occurrence) (v : Variable) → Contains (occurrences_of p.tree) o → IsFree v.0 v.1 o.term → renamed_variable x.exchange.to v ≡ renamed_variable f v
  term_sends x o v there used = elim (contained_or_not v selected) [
    | inl among ↦ sends x v among
    | inr none ↦
        keeps x v none (λ sent.
        let q = image_of (renamed_variable f) selected v sent in
        none (subst (Contains selected) q.2 (names.unused q.0 o q.1 there (subst (λ (w : Variable). IsFree w.0 w.1 o.term) (sym q.2) used))))
        ∙ sym (names.others v none)
  ]

  own_tree : tree_of s ≡ p.tree
  own_tree = standing_tree p.tree true proof.is_tree.normal s proof.is_tree.stands

  abbrev renamed : Exchanged (pairs_for f selected) → Standing
  renamed x = renamed_standing x.exchange.to s

  new_tree : (x : Exchanged (pairs_for f selected)) → tree_of (renamed x) ≡ renamed_tree f s
  new_tree x = tree-same x.exchange.to f s 1 (sends x) (λ o there.
      rename-same x.exchange.to f o.term (λ v used. term_sends x o v (subst (λ (t : ExpansionTree). Contains (occurrences_of t) o) own_tree there) used))

  new_selected : (x : Exchanged (pairs_for f selected)) → selected_variables (renamed x) ≡ map (renamed_variable f) selected
  new_selected x = selected-renamed x.exchange.to s ∙ map-same (renamed_variable x.exchange.to) (renamed_variable f) selected (sends x)

  is_tree : (x : Exchanged (pairs_for f selected)) → IsTree p.formula (renamed_tree f s) (renamed x)
  is_tree x = record {
    normal = rename x.exchange.to proof.is_tree.normal;
    is_normal = subst (IsNormalFormula (rename x.exchange.to proof.is_tree.normal)) (formula_kept x) (normal-rename x.exchange.to [] truth_type proof.is_tree.normal p.formula proof.is_tree.is_normal);
    stands = subst (λ (t : ExpansionTree). Stands true (rename x.exchange.to proof.is_tree.normal) t (renamed x)) (new_tree x)
        (fits_stands (renamed x) true (rename x.exchange.to proof.is_tree.normal) (fits-renamed x.exchange.to s true proof.is_tree.normal (stands_fits p.tree true proof.is_tree.normal s proof.is_tree.stands)));
    selected = subst (AreNew (free_variables_of p.formula)) (sym (new_selected x)) (once_new (free_variables_of p.formula) (map (renamed_variable f) selected) once_renamed known_unsent);
  }

  new_occurrences : (x : Exchanged (pairs_for f selected)) → occurrences_of (renamed_tree f s) ≡ map (renamed_occurrence x.exchange.to) (occurrences_of p.tree)
  new_occurrences x =
      ap occurrences_of (sym (new_tree x)) ∙ occurrences-renamed x.exchange.to s 1 ∙ ap (λ (t : ExpansionTree). map (renamed_occurrence x.exchange.to) (occurrences_of t)) own_tree

  is_acyclic : (x : Exchanged (pairs_for f selected)) → IsAcyclic (occurrences_of (renamed_tree f s)) (selections (renamed x))
  is_acyclic x chain closed =
      let C : List Occurrence → List Selection → Type 0 = λ os ss. IsClosedChain (Before os ss) chain in
      let closed' = subst (λ (os : List Occurrence). C os (selections (renamed x))) (new_occurrences x) closed in
      let closed'' = subst (C (map (renamed_occurrence x.exchange.to) (occurrences_of p.tree))) (selections-renamed x.exchange.to s 1) closed' in
      proof.acyclic chain (chain-weaker (Before (map (renamed_occurrence x.exchange.to) (occurrences_of p.tree)) (map (renamed_selection x.exchange.to) (selections s)))
      (Before (occurrences_of p.tree) (selections s)) (before_before x.exchange (occurrences_of p.tree) (selections s)) chain closed'')

  are_good : (x : Exchanged (pairs_for f selected)) → All (IsGood (leaves (renamed x))) p.mating
  are_good x =
      let P : List (Bool × Term) → Type 0 = λ ls. All (IsGood ls) p.mating in
      let new = map (renamed_leaf x.exchange.to) (leaves s) in
      subst P (sym (leaves_all-renamed x.exchange.to s))
      (All-from_recursion (IsGood new) p.mating (every_contained (IsGood new) p.mating (λ pair there.
      good-renamed x.exchange.to (leaves s) pair (All-contains (IsGood (leaves s)) p.mating pair proof.good there))))

  proof_renamed : (x : Exchanged (pairs_for f selected)) → IsProofAs (renamed_proof f s p) (renamed x)
  proof_renamed x = record {
    formula = proof.formula;
    is_tree = is_tree x;
    good = are_good x;
    acyclic = is_acyclic x;
    spans = subst (Spans p.mating) (sym (paths-renamed x.exchange.to s 1)) proof.spans;
  }

  pub is_proof : IsProof (renamed_proof f s p)
  is_proof = (renamed sent, proof_renamed sent)

  -- budgets

  pub weight_kept : tree_weight (renamed_tree f s) ≡ tree_weight p.tree
  weight_kept = ap weight_of_all (new_occurrences sent) ∙ weights-renamed sent.exchange.to (occurrences_of p.tree)

  atoms_kept : (x : Exchanged (pairs_for f selected)) → All (λ (leaf : Bool × Term). HasVariableHead leaf.1) (leaves s) → All (λ (leaf : Bool × Term). HasVariableHead leaf.1) (leaves (renamed x))
  atoms_kept x atoms =
      let P : Bool × Term → Type 0 = λ leaf. HasVariableHead leaf.1 in
      All-from_recursion P (leaves (renamed x)) (every_contained P (leaves (renamed x)) (λ leaf there.
      let q = image_of (renamed_leaf x.exchange.to) (leaves s) leaf (subst (λ (l : List (Bool × Term)). Contains l leaf) (leaves_all-renamed x.exchange.to s) there) in
      subst P q.2 (head-rename x.exchange.to q.0.1 (All-contains P (leaves s) q.0 atoms q.1))))

  module _ (level : ℕ) where
    abbrev IsHead : List Variable → Head → Type 0
    IsHead vs head = IsInSignature p.formula level head ⊎ IsSelected vs head

    variable_kept : (x : Exchanged (pairs_for f selected)) (o : Occurrence) (v : Variable) → Contains (occurrences_of p.tree) o → Contains (heads_of o.term) (variable_head v)
        → IsHead selected (variable_head v) → IsHead (selected_variables (renamed x)) (renamed_head x.exchange.to (variable_head v))
    variable_kept x o v there head known = elim (contained_or_not v selected) [
      | inl among ↦
          inr (subst (λ (l : List Variable). Contains l (renamed_variable x.exchange.to v)) (sym (selected-renamed x.exchange.to s)) (Contains-image (renamed_variable x.exchange.to) selected v among))
      | inr none ↦ elim known [
        | inl old ↦
            let same : renamed_variable x.exchange.to v ≡ v = term_sends x o v there (head_free o.term v head) ∙ names.others v none in
            inl (subst (λ (w : Variable). IsInSignature p.formula level (variable_head w)) (sym same) old)
        | inr among ↦ absurd (none among)
      ]
    ]

    head_kept : (x : Exchanged (pairs_for f selected)) (o : Occurrence) (head : Head) → Contains (occurrences_of p.tree) o → Contains (heads_of o.term) head
        → IsHead selected head → IsHead (selected_variables (renamed x)) (renamed_head x.exchange.to head)
    head_kept x o (variable_head v) there head known = variable_kept x o v there head known
    head_kept x o (constant_head c) there head (inl known) = inl known
    head_kept x o (constant_head c) there head (inr among) = absurd among

    heads_kept : (x : Exchanged (pairs_for f selected)) → All (λ (o : Occurrence). All (IsHead selected) (heads_of o.term)) (occurrences_of p.tree)
        → All (λ (o : Occurrence). All (IsHead (selected_variables (renamed x))) (heads_of o.term)) (occurrences_of (renamed_tree f s))
    heads_kept x heads =
        let old : Occurrence → Type 0 = λ o. All (IsHead selected) (heads_of o.term) in
        let new : Occurrence → Type 0 = λ o. All (IsHead (selected_variables (renamed x))) (heads_of o.term) in
        All-from_recursion new (occurrences_of (renamed_tree f s)) (every_contained new (occurrences_of (renamed_tree f s)) (λ o there.
        let q = image_of (renamed_occurrence x.exchange.to) (occurrences_of p.tree) o (subst (λ (l : List Occurrence). Contains l o) (new_occurrences x) there) in
        subst new q.2 (All-from_recursion (IsHead (selected_variables (renamed x))) (heads_of (rename x.exchange.to q.0.term)) (every_contained (IsHead (selected_variables (renamed x))) (heads_of (rename x.exchange.to q.0.term)) (λ head among.
        let r = image_of (renamed_head x.exchange.to) (heads_of q.0.term) head (subst (λ (l : List Head). Contains l head) (heads-rename x.exchange.to q.0.term) among) in
        subst (IsHead (selected_variables (renamed x))) r.2 (head_kept x q.0 r.0 q.1 r.1 (All-contains (IsHead selected) (heads_of q.0.term) r.0 (All-contains old (occurrences_of p.tree) q.0 heads q.1) r.1)))))))

    budget_kept : (x : Exchanged (pairs_for f selected)) (weight : ℕ) → IsInBudget p.formula weight level p.tree s → IsInBudget p.formula weight level (renamed_tree f s) (renamed x)
    budget_kept x weight budget = record {
      light = (let same = weight_kept in let light = budget.light in omega (arith, same, light));
      atoms = atoms_kept x budget.atoms;
      heads = heads_kept x budget.heads;
    }

    pub in_budget : (formula : Term) (weight : ℕ) → p.formula ≡ formula → IsInBudget formula weight level p.tree s → IsProofInBudget formula weight level (renamed_proof f s p)
    in_budget formula weight of budget = record {
      of = of;
      standing = renamed sent;
      proof = proof_renamed sent;
      budget = subst (λ (a : Term). IsInBudget a weight level (renamed_tree f s) (renamed sent)) of
          (budget_kept sent weight (subst (λ (a : Term). IsInBudget a weight level p.tree s) (sym of) budget));
    }

-- the laws

pub proofs_renamed : (p : Proof) (s : Standing) (f : NewNames) → IsProofAs p s → AreNewNames p s f → IsProof (renamed_proof f s p)
proofs_renamed p s f proof names = is_proof p s f proof names

pub renamed_in_budget : (formula : Term) (weight level : ℕ) (p : Proof) (f : NewNames) (h : IsProofInBudget formula weight level p) → AreNewNames p h.standing f
    → IsProofInBudget formula weight level (renamed_proof f h.standing p) × (tree_weight (renamed_tree f h.standing) ≡ tree_weight p.tree)
renamed_in_budget formula weight level p f h names = (in_budget p h.standing f h.proof names level formula weight h.of h.budget, weight_kept p h.standing f h.proof names)

pub renamed_least : (formula : Term) (weight level : ℕ) (p : Proof) (f : NewNames) (h : IsLeastProof formula weight level p) → AreNewNames p h.in_budget.standing f
    → IsLeastProof formula weight level (renamed_proof f h.in_budget.standing p)
renamed_least formula weight level p f h names =
    let renamed = renamed_in_budget formula weight level p f h.in_budget names in
    record {
      in_budget = renamed.0;
      least = λ q other. (let less = h.least q other in let same = renamed.1 in omega (arith, less, same));
    }
