-- The branches around a branch and around a selected variable of a staged tree.
use Rattle.std.proofs.Common.{◌+◌, ◌<◌, ◌≤◌, ℕ, List, [], ◌∷◌, ◌++◌, arith}
use Rattle.std.proofs.lemmas.List.Elements.{Contains-append_left, Contains-append_right}
use Rattle.hol_terms.specs.Terms.{Term}
use Rattle.expansion_tree.specs.Standing.{Standing, at_leaf, at_constant, at_negation, at_connective, at_selection, at_expansion, node_total}
use Rattle.dependency.specs.Dependencies.{IsNodeOf}
use Rattle.dependency.specs.Stages.{StagedTree, staged_leaf, staged_constant, staged_negation, staged_connective, staged_selection, staged_expansion, StagedBranches, none_staged, branch_staged, standing_of}
use Rattle.dependency.proofs.Elements.{Contains-first, Contains-later, Each, each-append, each-cons, each-nil}
use Rattle.dependency.proofs.Placed.{Place, Choice, occurrence_there, total, branch_total, place_of_branch, places, branch_places, choices, branch_choices}

total-positive : (s : Standing) → 1 ≤ node_total s
total-positive (at_leaf p a) = omega arith
total-positive (at_constant p v) = omega arith
total-positive (at_negation n) = omega arith
total-positive (at_connective op p m n) = omega arith
total-positive (at_selection v n) = omega arith
total-positive (at_expansion p ns) = omega arith

-- nodes from low to below high

abbrev pub Spans : ℕ → ℕ → Place → Type 0
Spans low high q = (low ≤ q.first) × (q.first ≤ q.last) × (q.last < high)

abbrev pub IsAmong : ℕ → ℕ → Choice → Type 0
IsAmong low high c = (low ≤ c.node) × (c.node < high)

spans_more : (low high low' high' : ℕ) (qs : List Place) → low' ≤ low → high ≤ high' → Each (Spans low high) qs → Each (Spans low' high') qs
spans_more low high low' high' qs l h k q there = let s = k q there in (omega (arith, l, s), s.1, omega (arith, h, s))

among_more : (low high low' high' : ℕ) (cs : List Choice) → low' ≤ low → high ≤ high' → Each (IsAmong low high) cs → Each (IsAmong low' high') cs
among_more low high low' high' cs l h k c there = let s = k c there in (omega (arith, l, s), omega (arith, h, s))

-- those of one branch
branch_spans : (at above : ℕ) (u : Term) (step : ℕ) (g : StagedTree) → Each (Spans (at + 1) (at + total g)) (places at step g)
    → Each (Spans at (at + total g)) (place_of_branch at above u step g ∷ places at step g)
branch_spans at above u step g h =
    let some = total-positive (standing_of g) in
    each-cons (Spans at (at + total g)) (place_of_branch at above u step g) (places at step g) (omega arith, omega (arith, some), omega (arith, some))
    (spans_more (at + 1) (at + total g) at (at + total g) (places at step g) (omega arith) (omega arith) h)

mutual
  -- the branches of a tree have nodes after its root
  pub places_span : (at above : ℕ) (g : StagedTree) → Each (Spans (at + 1) (at + total g)) (places at above g)
  places_span at above (staged_leaf p a) = each-nil (Spans (at + 1) (at + 1))
  places_span at above (staged_constant p v) = each-nil (Spans (at + 1) (at + 1))
  places_span at above (staged_negation g) =
      spans_more (at + 1 + 1) (at + 1 + total g) (at + 1) (at + (total g + 1)) (places (at + 1) above g) (omega arith) (omega arith) (places_span (at + 1) above g)
  places_span at above (staged_connective op p g h) =
      each-append (Spans (at + 1) (at + (total g + total h + 1))) (places (at + 1) above g) (places (at + 1 + total g) above h)
      (spans_more (at + 1 + 1) (at + 1 + total g) (at + 1) (at + (total g + total h + 1)) (places (at + 1) above g) (omega arith) (omega arith) (places_span (at + 1) above g))
      (spans_more (at + 1 + total g + 1) (at + 1 + total g + total h) (at + 1) (at + (total g + total h + 1)) (places (at + 1 + total g) above h) (omega arith) (omega arith)
      (places_span (at + 1 + total g) above h))
  places_span at above (staged_selection v g) =
      spans_more (at + 1 + 1) (at + 1 + total g) (at + 1) (at + (total g + 1)) (places (at + 1) above g) (omega arith) (omega arith) (places_span (at + 1) above g)
  places_span at above (staged_expansion p bs) =
      spans_more (at + 1) (at + 1 + branch_total bs) (at + 1) (at + (branch_total bs + 1)) (branch_places (at + 1) above bs) (omega arith) (omega arith) (branch_places_span (at + 1) above bs)

  branch_places_span : (at above : ℕ) (bs : StagedBranches) → Each (Spans at (at + branch_total bs)) (branch_places at above bs)
  branch_places_span at above none_staged = each-nil (Spans at (at + 0))
  branch_places_span at above (branch_staged u step g bs) =
      each-append (Spans at (at + (total g + branch_total bs))) (place_of_branch at above u step g ∷ places at step g) (branch_places (at + total g) above bs)
      (spans_more at (at + total g) at (at + (total g + branch_total bs)) (place_of_branch at above u step g ∷ places at step g) (omega arith) (omega arith) (branch_spans at above u step g (places_span at step g)))
      (spans_more (at + total g) (at + total g + branch_total bs) at (at + (total g + branch_total bs)) (branch_places (at + total g) above bs) (omega arith) (omega arith)
      (branch_places_span (at + total g) above bs))

mutual
  pub choices_among : (at above : ℕ) (g : StagedTree) → Each (IsAmong at (at + total g)) (choices at above g)
  choices_among at above (staged_leaf p a) = each-nil (IsAmong at (at + 1))
  choices_among at above (staged_constant p v) = each-nil (IsAmong at (at + 1))
  choices_among at above (staged_negation g) = among_more (at + 1) (at + 1 + total g) at (at + (total g + 1)) (choices (at + 1) above g) (omega arith) (omega arith) (choices_among (at + 1) above g)
  choices_among at above (staged_connective op p g h) =
      each-append (IsAmong at (at + (total g + total h + 1))) (choices (at + 1) above g) (choices (at + 1 + total g) above h)
      (among_more (at + 1) (at + 1 + total g) at (at + (total g + total h + 1)) (choices (at + 1) above g) (omega arith) (omega arith) (choices_among (at + 1) above g))
      (among_more (at + 1 + total g) (at + 1 + total g + total h) at (at + (total g + total h + 1)) (choices (at + 1 + total g) above h) (omega arith) (omega arith)
      (choices_among (at + 1 + total g) above h))
  choices_among at above (staged_selection v g) =
      each-cons (IsAmong at (at + (total g + 1))) record { node = at; variable = v; step = above } (choices (at + 1) above g) (omega arith, omega arith)
      (among_more (at + 1) (at + 1 + total g) at (at + (total g + 1)) (choices (at + 1) above g) (omega arith) (omega arith) (choices_among (at + 1) above g))
  choices_among at above (staged_expansion p bs) =
      among_more (at + 1) (at + 1 + branch_total bs) at (at + (branch_total bs + 1)) (branch_choices (at + 1) above bs) (omega arith) (omega arith) (branch_choices_among (at + 1) above bs)

  branch_choices_among : (at above : ℕ) (bs : StagedBranches) → Each (IsAmong at (at + branch_total bs)) (branch_choices at above bs)
  branch_choices_among at above none_staged = each-nil (IsAmong at (at + 0))
  branch_choices_among at above (branch_staged u step g bs) =
      each-append (IsAmong at (at + (total g + branch_total bs))) (choices at step g) (branch_choices (at + total g) above bs)
      (among_more at (at + total g) at (at + (total g + branch_total bs)) (choices at step g) (omega arith) (omega arith) (choices_among at step g))
      (among_more (at + total g) (at + total g + branch_total bs) at (at + (total g + branch_total bs)) (branch_choices (at + total g) above bs) (omega arith) (omega arith)
      (branch_choices_among (at + total g) above bs))

-- where steps rise inwards

-- the step of the branch around is less
abbrev pub Rises : Place → Type 0
Rises q = q.above < q.step

-- the step of a choice is no less than that of each branch around it
abbrev pub IsInside : ℕ → List Place → Choice → Type 0
IsInside above qs c = (above ≤ c.step) × Each (λ q. IsNodeOf c.node (occurrence_there q) → q.step ≤ c.step) qs

-- no branch of a list is around a choice outside of its nodes
apart_before : (low middle high above : ℕ) (qs rs : List Place) (c : Choice) → IsAmong low middle c → Each (Spans middle high) rs → IsInside above qs c → IsInside above (qs ++ rs) c
apart_before low middle high above qs rs c among spans h =
    (h.0, each-append (λ q. IsNodeOf c.node (occurrence_there q) → q.step ≤ c.step) qs rs h.1 (λ q there has. let s = spans q there in absurd (omega (arith, s, has, among))))

apart_behind : (low middle high above : ℕ) (qs rs : List Place) (c : Choice) → Each (Spans low middle) qs → IsAmong middle high c → IsInside above rs c → IsInside above (qs ++ rs) c
apart_behind low middle high above qs rs c spans among h =
    (h.0, each-append (λ q. IsNodeOf c.node (occurrence_there q) → q.step ≤ c.step) qs rs (λ q there has. let s = spans q there in absurd (omega (arith, s, has, among))) h.1)

inside_both : (low middle high above : ℕ) (qs rs : List Place) (cs ds : List Choice) → Each (Spans low middle) qs → Each (Spans middle high) rs → Each (IsAmong low middle) cs → Each (IsAmong middle high) ds
    → Each (IsInside above qs) cs → Each (IsInside above rs) ds → Each (IsInside above (qs ++ rs)) (cs ++ ds)
inside_both low middle high above qs rs cs ds spans_qs spans_rs among_cs among_ds h k =
    each-append (IsInside above (qs ++ rs)) cs ds
    (λ c there. apart_before low middle high above qs rs c (among_cs c there) spans_rs (h c there))
    (λ c there. apart_behind low middle high above qs rs c spans_qs (among_ds c there) (k c there))

rises_left : (qs rs : List Place) → Each Rises (qs ++ rs) → Each Rises qs
rises_left qs rs h q there = h q (Contains-append_left qs rs q there)

rises_right : (qs rs : List Place) → Each Rises (qs ++ rs) → Each Rises rs
rises_right qs rs h q there = h q (Contains-append_right qs rs q there)

-- the choices of one branch
one_branch_inside : (at above : ℕ) (u : Term) (step : ℕ) (g : StagedTree) → Each Rises (place_of_branch at above u step g ∷ places at step g)
    → (Each Rises (places at step g) → Each (IsInside step (places at step g)) (choices at step g)) → Each (IsInside above (place_of_branch at above u step g ∷ places at step g)) (choices at step g)
one_branch_inside at above u step g h within c there =
    let up : above < step = h (place_of_branch at above u step g) (Contains-first (place_of_branch at above u step g) (places at step g)) in
    let rest = within (λ q among. h q (Contains-later (place_of_branch at above u step g) (places at step g) q among)) c there in (
      omega (arith, up, rest.0),
      each-cons (λ q. IsNodeOf c.node (occurrence_there q) → q.step ≤ c.step) (place_of_branch at above u step g) (places at step g) (λ has. rest.0) rest.1,
    )

mutual
  pub choices_inside : (at above : ℕ) (g : StagedTree) → Each Rises (places at above g) → Each (IsInside above (places at above g)) (choices at above g)
  choices_inside at above (staged_leaf p a) h = each-nil (IsInside above [])
  choices_inside at above (staged_constant p v) h = each-nil (IsInside above [])
  choices_inside at above (staged_negation g) h = choices_inside (at + 1) above g h
  choices_inside at above (staged_connective op p g k) h =
      inside_both (at + 1) (at + 1 + total g) (at + 1 + total g + total k) above (places (at + 1) above g) (places (at + 1 + total g) above k) (choices (at + 1) above g) (choices (at + 1 + total g) above k)
      (spans_more (at + 1 + 1) (at + 1 + total g) (at + 1) (at + 1 + total g) (places (at + 1) above g) (omega arith) (omega arith) (places_span (at + 1) above g))
      (spans_more (at + 1 + total g + 1) (at + 1 + total g + total k) (at + 1 + total g) (at + 1 + total g + total k) (places (at + 1 + total g) above k) (omega arith) (omega arith)
      (places_span (at + 1 + total g) above k))
      (choices_among (at + 1) above g) (choices_among (at + 1 + total g) above k)
      (choices_inside (at + 1) above g (rises_left (places (at + 1) above g) (places (at + 1 + total g) above k) h))
      (choices_inside (at + 1 + total g) above k (rises_right (places (at + 1) above g) (places (at + 1 + total g) above k) h))
  choices_inside at above (staged_selection v g) h =
      let qs : List Place = places (at + 1) above g in
      each-cons (IsInside above qs) record { node = at; variable = v; step = above } (choices (at + 1) above g)
      (omega arith, (λ q there has. let s = places_span (at + 1) above g q there in absurd (omega (arith, s, has))))
      (choices_inside (at + 1) above g h)
  choices_inside at above (staged_expansion p bs) h = branch_choices_inside (at + 1) above bs h

  branch_choices_inside : (at above : ℕ) (bs : StagedBranches) → Each Rises (branch_places at above bs) → Each (IsInside above (branch_places at above bs)) (branch_choices at above bs)
  branch_choices_inside at above none_staged h = each-nil (IsInside above [])
  branch_choices_inside at above (branch_staged u step g bs) h =
      let qs : List Place = place_of_branch at above u step g ∷ places at step g in
      let rs : List Place = branch_places (at + total g) above bs in
      inside_both at (at + total g) (at + total g + branch_total bs) above qs rs (choices at step g) (branch_choices (at + total g) above bs) (branch_spans at above u step g (places_span at step g))
      (branch_places_span (at + total g) above bs) (choices_among at step g) (branch_choices_among (at + total g) above bs)
      (one_branch_inside at above u step g (rises_left qs rs h) (choices_inside at step g))
      (branch_choices_inside (at + total g) above bs (rises_right qs rs h))
