-- Where the branches of a tree are added in order, no occurrences are directly before one another in a closed chain.
use Rattle.std.proofs.Common.{◌≡◌, ◌-◌, ◌<◌, ◌≤◌, ℕ, zero, suc, List, [], ◌∷◌, Bool, Contains, map, slice_get, Some, sym, ◌∙◌, ap, arith}
use Rattle.std.specs.Prelude.{slice_index}
use Rattle.hol_terms.specs.Terms.{Term}
use Rattle.hol_terms.specs.FreeVariables.{IsFree}
use Rattle.expansion_tree.specs.Trees.{ExpansionTree}
use Rattle.expansion_tree.specs.Occurrences.{occurrences_of}
use Rattle.expansion_tree.specs.Standing.{Standing, Stands, selections}
use Rattle.dependency.specs.Graphs.{IsClosedChain, last_behind, Leads}
use Rattle.dependency.specs.Dependencies.{Before, IsAcyclic, IsNodeOf}
use Rattle.dependency.specs.Stages.{StagedTree, standing_of, staged_variables, stages, IsInOrder}
use Rattle.dependency.proofs.Elements.{Contains-image, Contains_there, Each, image_at, image_of}
use Rattle.dependency.proofs.Placed.{Place, Choice, occurrence_there, stage_there, selection_there, staged_there, places, choices, occurrences_in, occurrences_standing, places-occurrences, places-stages, choices-selections, choices-staged}
use Rattle.dependency.proofs.Around.{choices_inside, IsInside}
use Rattle.dependency.proofs.Preorder.{place_is}

-- a relation along which a number rises has no closed chain

leads_up : (R : ℕ → ℕ → Type 0) (rank : ℕ → ℕ) → ((x y : ℕ) → R x y → rank x < rank y) → (x : ℕ) (ys : List ℕ) → Leads R x ys → rank x ≤ rank (last_behind x ys)
leads_up R rank up x [] leads = omega arith
leads_up R rank up x (y ∷ ys) leads = let step = up x y leads.0 in let rest = leads_up R rank up y ys leads.1 in omega (arith, step, rest)

no_chain : (R : ℕ → ℕ → Type 0) (rank : ℕ → ℕ) → ((x y : ℕ) → R x y → rank x < rank y) → (chain : List ℕ) → IsClosedChain R chain → ⊥
no_chain R rank up [] closed = closed
no_chain R rank up (x ∷ xs) closed = let rest = leads_up R rank up x xs closed.0 in let back = up (last_behind x xs) x closed.1 in omega (arith, rest, back)

-- the step of an occurrence

abbrev step_at : List Place → ℕ → ℕ
step_at qs e = slice_index (map (λ (q : Place). q.step) qs) (e - 1)

step_there : (qs : List Place) (k : ℕ) (q : Place) → slice_get qs k ≡ Some q → slice_index (map (λ (q : Place). q.step) qs) k ≡ q.step
step_there [] k q e = absurd (cc)
step_there (r ∷ qs) zero q e = let same : r ≡ q = cc in ap (λ (q : Place). q.step) same
step_there (r ∷ qs) (suc k) q e = step_there qs k q e

-- the step rises from an occurrence to those that it is directly before
before_rises : (qs : List Place) (cs : List Choice) → Each (IsInside 0 qs) cs
    → ((q : Place) (c : Choice) → Contains qs q → Contains cs c → IsFree c.variable.0 c.variable.1 q.term → c.step < q.step)
    → (e f : ℕ) → Before (map occurrence_there qs) (map selection_there cs) e f → step_at qs e < step_at qs f
before_rises qs cs inside used e f b =
    let upper = image_at occurrence_there qs (e - 1) b.upper (place_is (map occurrence_there qs) e b.upper b.is_upper).1 in
    let later = image_at occurrence_there qs (f - 1) b.later (place_is (map occurrence_there qs) f b.later b.is_later).1 in
    let chosen = image_of selection_there cs b.selection b.selected in
    let has : IsNodeOf chosen.0.node (occurrence_there upper.0) = rw (← chosen.2, ← upper.2) at b.below in
    let least = (inside chosen.0 chosen.1).1 upper.0 (Contains_there qs (e - 1) upper.0 upper.1) has in
    let free : IsFree chosen.0.variable.0 chosen.0.variable.1 later.0.term = rw (← chosen.2, ← later.2) at b.used in
    let more = used later.0 chosen.0 (Contains_there qs (f - 1) later.0 later.1) chosen.1 free in
    rw (step_there qs (e - 1) upper.0 upper.1, step_there qs (f - 1) later.0 later.1) (omega (arith, least, more))

-- the law
pub staged_acyclic : (p : Bool) (a : Term) (t : ExpansionTree) (s : Standing) (g : StagedTree) → Stands p a t s → standing_of g ≡ s → IsInOrder g → IsAcyclic (occurrences_of t) (selections s)
staged_acyclic p a t s g stands same ordered =
    let qs : List Place = places 1 0 g in
    let cs : List Choice = choices 1 0 g in
    let listed : occurrences_of t ≡ map occurrence_there qs = occurrences_standing t p a s stands ∙ ap (occurrences_in 1) (sym same) ∙ sym (places-occurrences 1 0 g) in
    let selected : selections s ≡ map selection_there cs = ap selections (sym same) ∙ sym (choices-selections 1 0 g) in
    let stage_of : (q : Place) → Contains qs q → Contains (stages 0 g) (stage_there q) = λ q there. rw (← places-stages 1 0 g) (Contains-image stage_there qs q there) in
    let staged : (c : Choice) → Contains cs c → Contains (staged_variables 0 g) (c.variable, c.step) = λ c there. rw (← choices-staged 1 0 g) (Contains-image staged_there cs c there) in
    let inside : Each (IsInside 0 qs) cs = choices_inside 1 0 g (λ q there. ordered.inside (stage_there q) (stage_of q there)) in
    rw (listed, selected)
    (no_chain (Before (map occurrence_there qs) (map selection_there cs)) (step_at qs)
    (before_rises qs cs inside (λ q c there among free. ordered.used (stage_there q) c.variable c.step (stage_of q there) (staged c among) free)))
