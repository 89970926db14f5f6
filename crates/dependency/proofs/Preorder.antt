-- Occurrences and selected variables of a tree, whose nodes are numbered in preorder: branches nest, and nodes rise.
use Rattle.std.proofs.Common.{◌≡◌, ◌+◌, ◌-◌, ◌<◌, ◌≤◌, ℕ, zero, suc, List, [], ◌∷◌, ◌++◌, Contains, slice_get, Some, refl, ◌∙◌, ap, ap₂, arith, inl, inr, ◌⊎◌}
use Rattle.std.specs.List.{AllByRecursion}
use Rattle.std.proofs.lemmas.Bool.{ne_eqb}
use Rattle.std.proofs.lemmas.List.{map-append}
use Rattle.std.proofs.lemmas.List.Elements.{Contains-append_left, Contains-push}
use Rattle.hol_terms.specs.Terms.{Variable}
use Rattle.expansion_tree.specs.Trees.{ExpansionTree, leaf_node, constant_node, negation_node, connective_node, selection_node, expansion_node, ExpansionBranches, no_branch, branch, node_count, branch_node_count}
use Rattle.expansion_tree.specs.Occurrences.{Occurrence, occurrences_from, branch_occurrences_from, occurrences_of}
use Rattle.expansion_tree.specs.Standing.{Selection}
use Rattle.expansion_tree.specs.Standing.{Standing, at_leaf, at_constant, at_negation, at_connective, at_selection, at_expansion, StandingBranches, none_standing, branch_standing, node_total, branch_node_total, selections, selections_from, branch_selections_from, selected_variables, branch_selected_variables}
use Rattle.expansion_tree.specs.Faults.{AreNew}
use Rattle.expansion_tree.specs.Fitted.{FittedTree, IsFitted}
use Rattle.hol_terms.specs.FreeVariables.{free_variables_of}
use Rattle.dependency.specs.Dependencies.{occurrence_at}
use Rattle.dependency.specs.Nesting.{AreNested, AreSelections}
use Rattle.dependency.specs.Uses.{variables_of}
use Rattle.dependency.proofs.Nested.{occurrence_within}

all_more : {A : Type 0} (P Q : A → Type 0) → ((x : A) → P x → Q x) → (xs : List A) → AllByRecursion P xs → AllByRecursion Q xs
all_more P Q f [] h = tt
all_more P Q f (x ∷ xs) h = (f x h.0, all_more P Q f xs h.1)

all_both : {A : Type 0} (P : A → Type 0) (xs ys : List A) → AllByRecursion P xs → AllByRecursion P ys → AllByRecursion P (xs ++ ys)
all_both P [] ys h k = k
all_both P (x ∷ xs) ys h k = (h.0, all_both P xs ys h.1 k)

all_at : {A : Type 0} (P : A → Type 0) (xs : List A) (i : ℕ) (x : A) → AllByRecursion P xs → slice_get xs i ≡ Some x → P x
all_at P [] i x h e = absurd (cc)
all_at P (y ∷ ys) zero x h e = let same : y ≡ x = cc in rw (← same) h.0
all_at P (y ∷ ys) (suc i) x h e = all_at P ys i x h.1 e

-- occurrences

-- one occurrence before another: it begins before, and the other's branch is after its own or within
abbrev Apart : Occurrence → Occurrence → Type 0
Apart o p = (o.first < p.first) × ((o.last < p.first) ⊎ (p.last ≤ o.last))

-- the branch has nodes from low to below high
abbrev Spans : ℕ → ℕ → Occurrence → Type 0
Spans low high o = (low ≤ o.first) × (o.first ≤ o.last) × (o.last < high)

abbrev Nest : List Occurrence → Type 0
Nest [] = Unit {0}
Nest (o ∷ os) = (o.first ≤ o.last) × AllByRecursion (Apart o) os × Nest os

all_behind : (low middle high : ℕ) (o : Occurrence) (ys : List Occurrence) → Spans low middle o → AllByRecursion (Spans middle high) ys → AllByRecursion (Apart o) ys
all_behind low middle high o ys h k = all_more (Spans middle high) (Apart o) (λ p q. (omega (arith, h, q), inl (omega (arith, h, q)))) ys k

nest_both : (low middle high : ℕ) (xs ys : List Occurrence) → AllByRecursion (Spans low middle) xs → AllByRecursion (Spans middle high) ys → Nest xs → Nest ys → Nest (xs ++ ys)
nest_both low middle high [] ys h k m n = n
nest_both low middle high (x ∷ xs) ys h k m n =
    (m.0, all_both (Apart x) xs ys m.1 (all_behind low middle high x ys h.0 k), nest_both low middle high xs ys h.1 k m.2 n)

spans_more : (low high low' high' : ℕ) (xs : List Occurrence) → low' ≤ low → high ≤ high' → AllByRecursion (Spans low high) xs → AllByRecursion (Spans low' high') xs
spans_more low high low' high' xs l h k = all_more (Spans low high) (Spans low' high') (λ o q. (omega (arith, l, q), q.1, omega (arith, h, q))) xs k

some_node : (t : ExpansionTree) → 1 ≤ node_count t
some_node leaf_node = omega arith
some_node constant_node = omega arith
some_node (negation_node t) = omega arith
some_node (connective_node op t u) = omega arith
some_node (selection_node name t) = omega arith
some_node (expansion_node bs) = omega arith

mutual
  tree_spans : (at : ℕ) (t : ExpansionTree) → AllByRecursion (Spans (at + 1) (at + node_count t)) (occurrences_from at t)
  tree_spans at leaf_node = tt
  tree_spans at constant_node = tt
  tree_spans at (negation_node t) = spans_more (at + 1 + 1) (at + 1 + node_count t) (at + 1) (at + (node_count t + 1)) (occurrences_from (at + 1) t) (omega arith) (omega arith) (tree_spans (at + 1) t)
  tree_spans at (connective_node op t u) =
      all_both (Spans (at + 1) (at + (node_count t + node_count u + 1))) (occurrences_from (at + 1) t) (occurrences_from (at + 1 + node_count t) u)
      (spans_more (at + 1 + 1) (at + 1 + node_count t) (at + 1) (at + (node_count t + node_count u + 1)) (occurrences_from (at + 1) t) (omega arith) (omega arith) (tree_spans (at + 1) t))
      (spans_more (at + 1 + node_count t + 1) (at + 1 + node_count t + node_count u) (at + 1) (at + (node_count t + node_count u + 1)) (occurrences_from (at + 1 + node_count t) u) (omega arith) (omega arith)
      (tree_spans (at + 1 + node_count t) u))
  tree_spans at (selection_node name t) = spans_more (at + 1 + 1) (at + 1 + node_count t) (at + 1) (at + (node_count t + 1)) (occurrences_from (at + 1) t) (omega arith) (omega arith) (tree_spans (at + 1) t)
  tree_spans at (expansion_node bs) =
      spans_more (at + 1) (at + 1 + branch_node_count bs) (at + 1) (at + (branch_node_count bs + 1)) (branch_occurrences_from (at + 1) bs) (omega arith) (omega arith) (branches_span (at + 1) bs)

  branches_span : (at : ℕ) (bs : ExpansionBranches) → AllByRecursion (Spans at (at + branch_node_count bs)) (branch_occurrences_from at bs)
  branches_span at no_branch = tt
  branches_span at (branch u t bs) =
      let some = some_node t in (
        (omega arith, omega (arith, some), omega (arith, some)),
        all_both (Spans at (at + (node_count t + branch_node_count bs))) (occurrences_from at t) (branch_occurrences_from (at + node_count t) bs)
            (spans_more (at + 1) (at + node_count t) at (at + (node_count t + branch_node_count bs)) (occurrences_from at t) (omega arith) (omega arith) (tree_spans at t))
            (spans_more (at + node_count t) (at + node_count t + branch_node_count bs) at (at + (node_count t + branch_node_count bs)) (branch_occurrences_from (at + node_count t) bs) (omega arith) (omega arith)
            (branches_span (at + node_count t) bs)),
      )

mutual
  tree_nests : (at : ℕ) (t : ExpansionTree) → Nest (occurrences_from at t)
  tree_nests at leaf_node = tt
  tree_nests at constant_node = tt
  tree_nests at (negation_node t) = tree_nests (at + 1) t
  tree_nests at (connective_node op t u) =
      nest_both (at + 1 + 1) (at + 1 + node_count t) (at + 1 + node_count t + node_count u) (occurrences_from (at + 1) t) (occurrences_from (at + 1 + node_count t) u) (tree_spans (at + 1) t)
      (spans_more (at + 1 + node_count t + 1) (at + 1 + node_count t + node_count u) (at + 1 + node_count t) (at + 1 + node_count t + node_count u) (occurrences_from (at + 1 + node_count t) u) (omega arith) (omega arith)
      (tree_spans (at + 1 + node_count t) u))
      (tree_nests (at + 1) t) (tree_nests (at + 1 + node_count t) u)
  tree_nests at (selection_node name t) = tree_nests (at + 1) t
  tree_nests at (expansion_node bs) = branches_nest (at + 1) bs

  branches_nest : (at : ℕ) (bs : ExpansionBranches) → Nest (branch_occurrences_from at bs)
  branches_nest at no_branch = tt
  branches_nest at (branch u t bs) =
      let some = some_node t in
      let o : Occurrence = record { first = at; last = at + node_count t - 1; term = u } in (
        omega (arith, some),
        all_both (Apart o) (occurrences_from at t) (branch_occurrences_from (at + node_count t) bs)
            (all_more (Spans (at + 1) (at + node_count t)) (Apart o) (λ p q. (omega (arith, q), inr (omega (arith, q, some)))) (occurrences_from at t) (tree_spans at t))
            (all_behind at (at + node_count t) (at + node_count t + branch_node_count bs) o (branch_occurrences_from (at + node_count t) bs) (omega arith, omega (arith, some), omega (arith, some)) (branches_span (at + node_count t) bs)),
        nest_both (at + 1) (at + node_count t) (at + node_count t + branch_node_count bs) (occurrences_from at t) (branch_occurrences_from (at + node_count t) bs) (tree_spans at t) (branches_span (at + node_count t) bs)
            (tree_nests at t) (branches_nest (at + node_count t) bs),
      )

nest_some : (os : List Occurrence) (i : ℕ) (o : Occurrence) → Nest os → slice_get os i ≡ Some o → o.first ≤ o.last
nest_some [] i o h e = absurd (cc)
nest_some (p ∷ os) zero o h e = let same : p ≡ o = cc in rw (← same) h.0
nest_some (p ∷ os) (suc i) o h e = nest_some os i o h.2 e

nest_apart : (os : List Occurrence) (i j : ℕ) (o p : Occurrence) → Nest os → slice_get os i ≡ Some o → slice_get os j ≡ Some p → i < j → Apart o p
nest_apart [] i j o p h e f less = absurd (cc)
nest_apart (q ∷ os) i zero o p h e f less = absurd (omega (arith, less))
nest_apart (q ∷ os) zero (suc j) o p h e f less = let same : q ≡ o = cc in rw (← same) (all_at (Apart q) os j p h.1 f)
nest_apart (q ∷ os) (suc i) (suc j) o p h e f less = nest_apart os i j o p h.2 e f (omega (arith, less))

-- what an occurrence's number says of its place
pub place_is : (os : List Occurrence) (e : ℕ) (o : Occurrence) → occurrence_at os e ≡ Some o → (1 ≤ e) × (slice_get os (e - 1) ≡ Some o)
place_is os e o h =
    let number = occurrence_within os e o h in
    (number.0, rw (ne_eqb e 0 (λ z. absurd (omega (arith, z, number)))) at h)

nested_from_nest : (os : List Occurrence) → Nest os → AreNested os
nested_from_nest os h = record {
  some = λ e o at. nest_some os (e - 1) o h (place_is os e o at).1;
  rising = λ e f o p at_e at_f less. (both e f o p at_e at_f less).0;
  apart = λ e f o p at_e at_f less. (both e f o p at_e at_f less).1;
}
  where
    both : (e f : ℕ) (o p : Occurrence) → occurrence_at os e ≡ Some o → occurrence_at os f ≡ Some p → e < f → Apart o p
    both e f o p at_e at_f less =
        let first = place_is os e o at_e in
        let second = place_is os f p at_f in
        nest_apart os (e - 1) (f - 1) o p h first.1 second.1 (omega (arith, less, first.0))

-- the branches of a tree's occurrences nest
pub occurrences_nest : (t : ExpansionTree) → AreNested (occurrences_of t)
occurrences_nest t = nested_from_nest (occurrences_of t) (tree_nests 1 t)

-- selected variables

abbrev IsAmong : ℕ → ℕ → Selection → Type 0
IsAmong low high s = (low ≤ s.node) × (s.node < high)

abbrev Rise : List Selection → Type 0
Rise [] = Unit {0}
Rise (s ∷ ss) = AllByRecursion (λ t. s.node ≤ t.node) ss × Rise ss

among_more : (low high low' high' : ℕ) (xs : List Selection) → low' ≤ low → high ≤ high' → AllByRecursion (IsAmong low high) xs → AllByRecursion (IsAmong low' high') xs
among_more low high low' high' xs l h k = all_more (IsAmong low high) (IsAmong low' high') (λ s q. (omega (arith, l, q), omega (arith, h, q))) xs k

rise_both : (low middle high : ℕ) (xs ys : List Selection) → AllByRecursion (IsAmong low middle) xs → AllByRecursion (IsAmong middle high) ys → Rise xs → Rise ys → Rise (xs ++ ys)
rise_both low middle high [] ys h k m n = n
rise_both low middle high (x ∷ xs) ys h k m n =
    (all_both (λ t. x.node ≤ t.node) xs ys m.0 (all_more (IsAmong middle high) (λ t. x.node ≤ t.node) (λ t q. omega (arith, h.0, q)) ys k), rise_both low middle high xs ys h.1 k m.1 n)

mutual
  standing_among : (at : ℕ) (s : Standing) → AllByRecursion (IsAmong at (at + node_total s)) (selections_from at s)
  standing_among at (at_leaf p a) = tt
  standing_among at (at_constant p v) = tt
  standing_among at (at_negation n) = among_more (at + 1) (at + 1 + node_total n) at (at + (node_total n + 1)) (selections_from (at + 1) n) (omega arith) (omega arith) (standing_among (at + 1) n)
  standing_among at (at_connective op p m n) =
      all_both (IsAmong at (at + (node_total m + node_total n + 1))) (selections_from (at + 1) m) (selections_from (at + 1 + node_total m) n)
      (among_more (at + 1) (at + 1 + node_total m) at (at + (node_total m + node_total n + 1)) (selections_from (at + 1) m) (omega arith) (omega arith) (standing_among (at + 1) m))
      (among_more (at + 1 + node_total m) (at + 1 + node_total m + node_total n) at (at + (node_total m + node_total n + 1)) (selections_from (at + 1 + node_total m) n) (omega arith) (omega arith)
      (standing_among (at + 1 + node_total m) n))
  standing_among at (at_selection v n) =
      ((omega arith, omega arith), among_more (at + 1) (at + 1 + node_total n) at (at + (node_total n + 1)) (selections_from (at + 1) n) (omega arith) (omega arith) (standing_among (at + 1) n))
  standing_among at (at_expansion p ns) =
      among_more (at + 1) (at + 1 + branch_node_total ns) at (at + (branch_node_total ns + 1)) (branch_selections_from (at + 1) ns) (omega arith) (omega arith) (branches_among (at + 1) ns)

  branches_among : (at : ℕ) (ns : StandingBranches) → AllByRecursion (IsAmong at (at + branch_node_total ns)) (branch_selections_from at ns)
  branches_among at none_standing = tt
  branches_among at (branch_standing u n ns) =
      all_both (IsAmong at (at + (node_total n + branch_node_total ns))) (selections_from at n) (branch_selections_from (at + node_total n) ns)
      (among_more at (at + node_total n) at (at + (node_total n + branch_node_total ns)) (selections_from at n) (omega arith) (omega arith) (standing_among at n))
      (among_more (at + node_total n) (at + node_total n + branch_node_total ns) at (at + (node_total n + branch_node_total ns)) (branch_selections_from (at + node_total n) ns) (omega arith) (omega arith)
      (branches_among (at + node_total n) ns))

mutual
  standing_rises : (at : ℕ) (s : Standing) → Rise (selections_from at s)
  standing_rises at (at_leaf p a) = tt
  standing_rises at (at_constant p v) = tt
  standing_rises at (at_negation n) = standing_rises (at + 1) n
  standing_rises at (at_connective op p m n) =
      rise_both (at + 1) (at + 1 + node_total m) (at + 1 + node_total m + node_total n) (selections_from (at + 1) m) (selections_from (at + 1 + node_total m) n) (standing_among (at + 1) m)
      (standing_among (at + 1 + node_total m) n) (standing_rises (at + 1) m) (standing_rises (at + 1 + node_total m) n)
  standing_rises at (at_selection v n) =
      (all_more (IsAmong (at + 1) (at + 1 + node_total n)) (λ t. at ≤ t.node) (λ t q. omega (arith, q)) (selections_from (at + 1) n) (standing_among (at + 1) n), standing_rises (at + 1) n)
  standing_rises at (at_expansion p ns) = branches_rise (at + 1) ns

  branches_rise : (at : ℕ) (ns : StandingBranches) → Rise (branch_selections_from at ns)
  branches_rise at none_standing = tt
  branches_rise at (branch_standing u n ns) =
      rise_both at (at + node_total n) (at + node_total n + branch_node_total ns) (selections_from at n) (branch_selections_from (at + node_total n) ns) (standing_among at n) (branches_among (at + node_total n) ns)
      (standing_rises at n) (branches_rise (at + node_total n) ns)

rise_at : (ss : List Selection) (i j : ℕ) (s t : Selection) → Rise ss → slice_get ss i ≡ Some s → slice_get ss j ≡ Some t → i < j → s.node ≤ t.node
rise_at [] i j s t h e f less = absurd (cc)
rise_at (q ∷ ss) i zero s t h e f less = absurd (omega (arith, less))
rise_at (q ∷ ss) zero (suc j) s t h e f less = let same : q ≡ s = cc in rw (← same) (all_at (λ t. q.node ≤ t.node) ss j t h.0 f)
rise_at (q ∷ ss) (suc i) (suc j) s t h e f less = rise_at ss i j s t h.1 e f (omega (arith, less))

mutual
  standing_variables : (at : ℕ) (s : Standing) → variables_of (selections_from at s) ≡ selected_variables s
  standing_variables at (at_leaf p a) = refl
  standing_variables at (at_constant p v) = refl
  standing_variables at (at_negation n) = standing_variables (at + 1) n
  standing_variables at (at_connective op p m n) =
      map-append (λ s. s.variable) (selections_from (at + 1) m) (selections_from (at + 1 + node_total m) n)
      ∙ ap₂ (λ (x y : List Variable). x ++ y) (standing_variables (at + 1) m) (standing_variables (at + 1 + node_total m) n)
  standing_variables at (at_selection v n) = ap (λ (l : List Variable). v ∷ l) (standing_variables (at + 1) n)
  standing_variables at (at_expansion p ns) = branches_variables (at + 1) ns

  branches_variables : (at : ℕ) (ns : StandingBranches) → variables_of (branch_selections_from at ns) ≡ branch_selected_variables ns
  branches_variables at none_standing = refl
  branches_variables at (branch_standing u n ns) =
      map-append (λ s. s.variable) (selections_from at n) (branch_selections_from (at + node_total n) ns)
      ∙ ap₂ (λ (x y : List Variable). x ++ y) (standing_variables at n) (branches_variables (at + node_total n) ns)

-- new variables are none of those that are taken
new_apart : (taken vs : List Variable) (j : ℕ) (v : Variable) → AreNew taken vs → Contains taken v → slice_get vs j ≡ Some v → ⊥
new_apart taken [] j v h there e = cc
new_apart taken (w ∷ vs) zero v h there e = let same : w ≡ v = cc in h.0 (rw same there)
new_apart taken (w ∷ vs) (suc j) v h there e = new_apart (taken ++ w ∷ []) vs j v h.1 (Contains-append_left taken (w ∷ []) v there) e

new_once : (taken vs : List Variable) (i j : ℕ) (v : Variable) → AreNew taken vs → slice_get vs i ≡ Some v → slice_get vs j ≡ Some v → i ≡ j
new_once taken [] i j v h e f = absurd (cc)
new_once taken (w ∷ vs) zero zero v h e f = refl
new_once taken (w ∷ vs) zero (suc j) v h e f = absurd (let same : w ≡ v = cc in new_apart (taken ++ w ∷ []) vs j v h.1 (rw (← same) (Contains-push taken w)) f)
new_once taken (w ∷ vs) (suc i) zero v h e f = absurd (let same : w ≡ v = cc in new_apart (taken ++ w ∷ []) vs i v h.1 (rw (← same) (Contains-push taken w)) e)
new_once taken (w ∷ vs) (suc i) (suc j) v h e f = ap suc (new_once (taken ++ w ∷ []) vs i j v h.1 e f)

variable_at : (ss : List Selection) (i : ℕ) (s : Selection) → slice_get ss i ≡ Some s → slice_get (variables_of ss) i ≡ Some s.variable
variable_at [] i s e = absurd (cc)
variable_at (t ∷ ss) zero s e = let same : t ≡ s = cc in ap (λ (x : Selection). Some x.variable) same
variable_at (t ∷ ss) (suc i) s e = variable_at ss i s e

-- the selected variables of a tree come in the order of their nodes, each once
pub selections_once : (taken : List Variable) (s : Standing) → AreNew taken (selected_variables s) → AreSelections (selections s)
selections_once taken s h = record {
  rising = λ i j a b at_i at_j less. rise_at (selections s) i j a b (standing_rises 1 s) at_i at_j less;
  once = λ i j a b at_i at_j same.
      let new : AreNew taken (variables_of (selections s)) = rw (standing_variables 1 s) h in
      new_once taken (variables_of (selections s)) i j a.variable new (variable_at (selections s) i a at_i) (rw same (variable_at (selections s) j b at_j));
}

-- those of a fitted tree
pub fitted_selections : (f : FittedTree) → IsFitted f → AreSelections f.selection_list
fitted_selections f fits = rw fits.1.selection_list (selections_once (free_variables_of f.formula) fits.0 fits.1.is_tree.selected)
