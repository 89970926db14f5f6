-- Laws of node numbers and of lists of occurrences.
use Rattle.std.proofs.Common.{◌≡◌, ℕ, zero, suc, ◌+◌, ◌-◌, ◌<◌, ◌≤◌, List, [], ◌∷◌, ◌++◌, length, map, take, refl, sym, ◌∙◌, ap, append_assoc, arith, get_or}
use Rattle.std.specs.Prelude.{slice_set}
use Rattle.std.proofs.lemmas.List.{map-append, length-map, take_more}
use Rattle.hol_terms.specs.Terms.{Term, plain_term}
use Rattle.expansion_tree.specs.Trees.{ExpansionTree, leaf_node, constant_node, negation_node, connective_node, selection_node, expansion_node, node_count}
use Rattle.expansion_tree.specs.declared.occurrences.Occurrence.{Occurrence as Kept}
use Rattle.expansion_tree.specs.Occurrences.{Occurrence, occurrences_from, weight_of_all, term_weight}
use Rattle.expansion_tree.specs.Counted.{plain_occurrence, closed_at, branch_occurrences}

-- a tree has a node
pub node_count-positive : (t : ExpansionTree) → 1 ≤ node_count t
node_count-positive leaf_node = omega arith
node_count-positive constant_node = omega arith
node_count-positive (negation_node t) = omega arith
node_count-positive (connective_node op t u) = omega arith
node_count-positive (selection_node name t) = omega arith
node_count-positive (expansion_node bs) = omega arith

-- the occurrence after the first ones is closed
pub closed-behind : (front : List Occurrence) (o : Occurrence) (back : List Occurrence) (last : ℕ)
    → closed_at (length front) last (front ++ o ∷ back) ≡ front ++ record { first = o.first; last = last; term = o.term } ∷ back
closed-behind [] o back last = refl
closed-behind (x ∷ front) o back last = ap (λ (l : List Occurrence). x ∷ l) (closed-behind front o back last)

-- the weight of a list in two parts
pub weight-append : (xs ys : List Occurrence) → weight_of_all (xs ++ ys) ≡ weight_of_all xs + weight_of_all ys
weight-append [] ys = omega arith
weight-append (x ∷ xs) ys = let rest = weight-append xs ys in omega (arith, rest)

-- one occurrence more is weighed
pub weight_more : (xs : List Kept) (i : ℕ) (x : Kept) (w total more : ℕ) → i < length xs → x ≡ get_or xs i x → total ≡ weight_of_all (map plain_occurrence (take i xs))
    → w ≡ term_weight (plain_term x.term) → more ≡ total + w → more ≡ weight_of_all (map plain_occurrence (take (i + 1) xs))
weight_more xs i x w total more within here e f g =
    let taken : take (i + 1) xs ≡ take i xs ++ x ∷ [] = take_more xs i x within ∙ ap (λ (y : Kept). take i xs ++ y ∷ []) (sym here) in
    let parts = ap (λ (l : List Kept). weight_of_all (map plain_occurrence l)) taken ∙ ap weight_of_all (map-append plain_occurrence (take i xs) (x ∷ [])) ∙ weight-append (map plain_occurrence (take i xs)) (plain_occurrence x ∷ []) in
    omega (arith, parts, e, f, g)

-- the occurrence at a place is closed
pub closed_set : (xs : List Kept) (k last : ℕ) (x : Kept) → k < length xs → x ≡ get_or xs k x
    → map plain_occurrence (slice_set xs k record { node = x.node; last = last; term = x.term }) ≡ closed_at k last (map plain_occurrence xs)
closed_set [] k last x within e = absurd (omega arith)
closed_set (y ∷ xs) zero last x within e = ap (λ (z : Kept). record { first = z.node; last = last; term = plain_term z.term } ∷ map plain_occurrence xs) e
closed_set (y ∷ xs) (suc k) last x within e = ap (λ (l : List Occurrence). plain_occurrence y ∷ l) (closed_set xs k last x (omega arith) e)

-- the occurrences of one branch are listed
pub branch_listed : (old pushed walked closed : List Kept) (kept : Kept) (place at end : ℕ) (u : Term) (t : ExpansionTree)
    → pushed ≡ old ++ kept ∷ [] → plain_occurrence kept ≡ record { first = at; last = at; term = u } → place ≡ length old
    → map plain_occurrence walked ≡ map plain_occurrence pushed ++ occurrences_from at t → end ≡ at + node_count t
    → map plain_occurrence closed ≡ closed_at place (end - 1) (map plain_occurrence walked)
    → map plain_occurrence closed ≡ map plain_occurrence old ++ branch_occurrences at u t
branch_listed old pushed walked closed kept place at end u t e f g h i j =
    let plain = map plain_occurrence in
    let first : Occurrence = record { first = at; last = at; term = u } in
    let list : plain walked ≡ plain old ++ first ∷ occurrences_from at t =
    h ∙ ap (λ (l : List Kept). plain l ++ occurrences_from at t) e
    ∙ ap (λ (l : List Occurrence). l ++ occurrences_from at t) (map-append plain_occurrence old (kept ∷ []))
    ∙ append_assoc (plain old) (plain_occurrence kept ∷ []) (occurrences_from at t)
    ∙ ap (λ (o : Occurrence). plain old ++ o ∷ occurrences_from at t) f in
    let place_is : place ≡ length (plain old) = g ∙ sym (length-map old plain_occurrence) in
    let last_is : end - 1 ≡ at + node_count t - 1 = ap (λ (n : ℕ). n - 1) i in
    j ∙ ap (closed_at place (end - 1)) list
    ∙ ap (λ (k : ℕ). closed_at k (end - 1) (plain old ++ first ∷ occurrences_from at t)) place_is
    ∙ closed-behind (plain old) first (occurrences_from at t) (end - 1)
    ∙ ap (λ (n : ℕ). plain old ++ record { first = at; last = n; term = u } ∷ occurrences_from at t) last_is
