-- The innermost branch around a branch and around a selected variable of a staged tree.
use Rattle.std.proofs.Common.{◌≡◌, ◌+◌, ◌<◌, ◌≤◌, ℕ, List, [], ◌∷◌, ◌++◌, Contains, refl, sym, arith, inl, inr, ◌⊎◌}
use Rattle.std.proofs.lemmas.List.Elements.{Contains-append_left, Contains-append_right}
use Rattle.hol_terms.specs.Terms.{Term}
use Rattle.dependency.specs.Dependencies.{IsNodeOf}
use Rattle.dependency.specs.Stages.{StagedTree, staged_leaf, staged_constant, staged_negation, staged_connective, staged_selection, staged_expansion, StagedBranches, none_staged, branch_staged}
use Rattle.dependency.proofs.Elements.{Contains-first, Contains-later, Each, each-append, each-cons, each-nil}
use Rattle.dependency.proofs.Placed.{Place, Choice, occurrence_there, total, place_of_branch, places, branch_places, choices, branch_choices}
use Rattle.dependency.proofs.Around.{choices_among, IsAmong, places_span, Spans}

-- the step of a choice is that above, or that of a branch around it
abbrev pub HasBranch : ℕ → List Place → Choice → Type 0
HasBranch above qs c = (c.step ≡ above) ⊎ ((q : Place) × Contains qs q × IsNodeOf c.node (occurrence_there q) × (q.step ≡ c.step))

-- the step around a branch is that above, or that of another branch around it
abbrev pub HasOuter : ℕ → List Place → Place → Type 0
HasOuter above qs q = (q.above ≡ above) ⊎ ((r : Place) × Contains qs r × (r.first < q.first) × (q.last ≤ r.last) × (r.step ≡ q.above))

branch_left : (above : ℕ) (qs rs : List Place) (c : Choice) → HasBranch above qs c → HasBranch above (qs ++ rs) c
branch_left above qs rs c (inl top) = inl top
branch_left above qs rs c (inr h) = inr (h.0, Contains-append_left qs rs h.0 h.1, h.2, h.3)

branch_right : (above : ℕ) (qs rs : List Place) (c : Choice) → HasBranch above rs c → HasBranch above (qs ++ rs) c
branch_right above qs rs c (inl top) = inl top
branch_right above qs rs c (inr h) = inr (h.0, Contains-append_right qs rs h.0 h.1, h.2, h.3)

branch_both : (above : ℕ) (qs rs : List Place) (cs ds : List Choice) → Each (HasBranch above qs) cs → Each (HasBranch above rs) ds → Each (HasBranch above (qs ++ rs)) (cs ++ ds)
branch_both above qs rs cs ds h k = each-append (HasBranch above (qs ++ rs)) cs ds (λ c there. branch_left above qs rs c (h c there)) (λ c there. branch_right above qs rs c (k c there))

-- what has the step above in a branch's tree has that branch around it
branch_around : (at above : ℕ) (u : Term) (step : ℕ) (g : StagedTree) (c : Choice) → IsAmong at (at + total g) c → HasBranch step (places at step g) c
    → HasBranch above (place_of_branch at above u step g ∷ places at step g) c
branch_around at above u step g c among (inl top) =
    inr (place_of_branch at above u step g, Contains-first (place_of_branch at above u step g) (places at step g), (among.0, omega (arith, among)), sym top)
branch_around at above u step g c among (inr h) = inr (h.0, Contains-later (place_of_branch at above u step g) (places at step g) h.0 h.1, h.2, h.3)

mutual
  pub choices_innermost : (at above : ℕ) (g : StagedTree) → Each (HasBranch above (places at above g)) (choices at above g)
  choices_innermost at above (staged_leaf p a) = each-nil (HasBranch above [])
  choices_innermost at above (staged_constant p v) = each-nil (HasBranch above [])
  choices_innermost at above (staged_negation g) = choices_innermost (at + 1) above g
  choices_innermost at above (staged_connective op p g h) =
      branch_both above (places (at + 1) above g) (places (at + 1 + total g) above h) (choices (at + 1) above g) (choices (at + 1 + total g) above h)
      (choices_innermost (at + 1) above g) (choices_innermost (at + 1 + total g) above h)
  choices_innermost at above (staged_selection v g) =
      each-cons (HasBranch above (places (at + 1) above g)) record { node = at; variable = v; step = above } (choices (at + 1) above g) (inl refl) (choices_innermost (at + 1) above g)
  choices_innermost at above (staged_expansion p bs) = branch_choices_innermost (at + 1) above bs

  branch_choices_innermost : (at above : ℕ) (bs : StagedBranches) → Each (HasBranch above (branch_places at above bs)) (branch_choices at above bs)
  branch_choices_innermost at above none_staged = each-nil (HasBranch above [])
  branch_choices_innermost at above (branch_staged u step g bs) =
      branch_both above (place_of_branch at above u step g ∷ places at step g) (branch_places (at + total g) above bs) (choices at step g) (branch_choices (at + total g) above bs)
      (λ c there. branch_around at above u step g c (choices_among at step g c there) (choices_innermost at step g c there))
      (branch_choices_innermost (at + total g) above bs)

outer_left : (above : ℕ) (qs rs : List Place) (q : Place) → HasOuter above qs q → HasOuter above (qs ++ rs) q
outer_left above qs rs q (inl top) = inl top
outer_left above qs rs q (inr h) = inr (h.0, Contains-append_left qs rs h.0 h.1, h.2, h.3, h.4)

outer_right : (above : ℕ) (qs rs : List Place) (q : Place) → HasOuter above rs q → HasOuter above (qs ++ rs) q
outer_right above qs rs q (inl top) = inl top
outer_right above qs rs q (inr h) = inr (h.0, Contains-append_right qs rs h.0 h.1, h.2, h.3, h.4)

outer_both : (above : ℕ) (qs rs : List Place) → Each (HasOuter above qs) qs → Each (HasOuter above rs) rs → Each (HasOuter above (qs ++ rs)) (qs ++ rs)
outer_both above qs rs h k = each-append (HasOuter above (qs ++ rs)) qs rs (λ q there. outer_left above qs rs q (h q there)) (λ q there. outer_right above qs rs q (k q there))

outer_around : (at above : ℕ) (u : Term) (step : ℕ) (g : StagedTree) (q : Place) → Spans (at + 1) (at + total g) q → HasOuter step (places at step g) q
    → HasOuter above (place_of_branch at above u step g ∷ places at step g) q
outer_around at above u step g q spans (inl top) =
    inr (place_of_branch at above u step g, Contains-first (place_of_branch at above u step g) (places at step g), omega (arith, spans), omega (arith, spans), sym top)
outer_around at above u step g q spans (inr h) = inr (h.0, Contains-later (place_of_branch at above u step g) (places at step g) h.0 h.1, h.2, h.3, h.4)

mutual
  pub places_innermost : (at above : ℕ) (g : StagedTree) → Each (HasOuter above (places at above g)) (places at above g)
  places_innermost at above (staged_leaf p a) = each-nil (HasOuter above [])
  places_innermost at above (staged_constant p v) = each-nil (HasOuter above [])
  places_innermost at above (staged_negation g) = places_innermost (at + 1) above g
  places_innermost at above (staged_connective op p g h) =
      outer_both above (places (at + 1) above g) (places (at + 1 + total g) above h) (places_innermost (at + 1) above g) (places_innermost (at + 1 + total g) above h)
  places_innermost at above (staged_selection v g) = places_innermost (at + 1) above g
  places_innermost at above (staged_expansion p bs) = branch_places_innermost (at + 1) above bs

  branch_places_innermost : (at above : ℕ) (bs : StagedBranches) → Each (HasOuter above (branch_places at above bs)) (branch_places at above bs)
  branch_places_innermost at above none_staged = each-nil (HasOuter above [])
  branch_places_innermost at above (branch_staged u step g bs) =
      let q : Place = place_of_branch at above u step g in
      outer_both above (q ∷ places at step g) (branch_places (at + total g) above bs)
      (each-cons (HasOuter above (q ∷ places at step g)) q (places at step g) (inl refl)
      (λ r there. outer_around at above u step g r (places_span at step g r there) (places_innermost at step g r there)))
      (branch_places_innermost (at + total g) above bs)
