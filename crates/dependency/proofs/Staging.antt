-- Where the occurrences of a tree have an order, its branches are added in that order.
use Rattle.std.proofs.Common.{◌≡◌, ◌+◌, ◌-◌, ◌<◌, ◌≤◌, ℕ, zero, suc, List, [], ◌∷◌, Bool, true, false, cond, Contains, get_or, length, map, nat_eq, slice_get, Option, Some, None, refl, sym, ◌∙◌, ap, ap₂, subst, arith, inl, inr}
use Rattle.std.specs.List.{IsDistinct}
use Rattle.std.proofs.lemmas.Bool.{eqb-true}
use Rattle.std.proofs.lemmas.Bool.Decides.{leb_tells, eqb_tells}
use Rattle.std.proofs.lemmas.List.Elements.{All-contains, All-from_get_or, Contains-get_or}
use Rattle.std.proofs.lemmas.Simd.{map-map}
use Rattle.std.proofs.lemmas.Option.{slice_get-get_or, slice_get_within}
use Rattle.hol_terms.specs.Terms.{Term, Variable}
use Rattle.hol_terms.specs.FreeVariables.{IsFree}
use Rattle.expansion_tree.specs.Trees.{ExpansionTree}
use Rattle.expansion_tree.specs.Occurrences.{Occurrence, occurrences_of}
use Rattle.expansion_tree.specs.Standing.{Standing, at_leaf, at_constant, at_negation, at_connective, at_selection, at_expansion, StandingBranches, none_standing, branch_standing, Stands, node_total, Selection, selections}
use Rattle.dependency.specs.Walks.{is_in}
use Rattle.dependency.specs.Dependencies.{Before, Below, IsAcyclic, IsOrder, occurrence_at}
use Rattle.dependency.specs.Nesting.{AreNested}
use Rattle.dependency.specs.Stages.{StagedTree, staged_leaf, staged_constant, staged_negation, staged_connective, staged_selection, staged_expansion, StagedBranches, none_staged, branch_staged, standing_of, standing_branches_of, Stage, steps_of, IsInOrder, HasEachStep}
use Rattle.dependency.proofs.Climbing.{occurrence_seen}
use Rattle.dependency.proofs.Cycles.{place_of, same_place}
use Rattle.dependency.proofs.Elements.{at_image, Contains-image, Contains_there, Each, each-append, each-cons, each-nil, image_at, image_of, where_contained}
use Rattle.dependency.proofs.Innermost.{choices_innermost, HasBranch, HasOuter, places_innermost}
use Rattle.dependency.proofs.Lists.{Contains_from_is_in, distinct-cons, distinct-nil, distinct-tail, nat_eq_same}
use Rattle.dependency.proofs.Nested.{occurrence_there as occurrence_at_number, occurrence_within}
use Rattle.dependency.proofs.Ordering.{order_length}
use Rattle.dependency.proofs.Placed.{Place, Choice, occurrence_there, stage_there, selection_there, staged_there, total, place_of_branch, places, branch_places, choices, occurrences_in, occurrences_standing, places-occurrences, places-stages, choices-selections, choices-staged}
use Rattle.dependency.proofs.Preorder.{occurrences_nest, place_is}
use Rattle.dependency.proofs.Reaching.{acyclic_order}

-- a tree whose branches have the steps that are given to the first nodes of their trees

abbrev mutual
  staged : (ℕ → ℕ) → ℕ → Standing → StagedTree
  staged number at (at_leaf p a) = staged_leaf p a
  staged number at (at_constant p v) = staged_constant p v
  staged number at (at_negation n) = staged_negation (staged number (at + 1) n)
  staged number at (at_connective op p m n) = staged_connective op p (staged number (at + 1) m) (staged number (at + 1 + node_total m) n)
  staged number at (at_selection v n) = staged_selection v (staged number (at + 1) n)
  staged number at (at_expansion p ns) = staged_expansion p (branches_staged number (at + 1) ns)

  branches_staged : (ℕ → ℕ) → ℕ → StandingBranches → StagedBranches
  branches_staged number at none_standing = none_staged
  branches_staged number at (branch_standing u n ns) = branch_staged u (number at) (staged number at n) (branches_staged number (at + node_total n) ns)

mutual
  staged-standing : (number : ℕ → ℕ) (at : ℕ) (s : Standing) → standing_of (staged number at s) ≡ s
  staged-standing number at (at_leaf p a) = refl
  staged-standing number at (at_constant p v) = refl
  staged-standing number at (at_negation n) = ap at_negation (staged-standing number (at + 1) n)
  staged-standing number at (at_connective op p m n) = ap₂ (at_connective op p) (staged-standing number (at + 1) m) (staged-standing number (at + 1 + node_total m) n)
  staged-standing number at (at_selection v n) = ap (at_selection v) (staged-standing number (at + 1) n)
  staged-standing number at (at_expansion p ns) = ap (at_expansion p) (branches_staged-standing number (at + 1) ns)

  branches_staged-standing : (number : ℕ → ℕ) (at : ℕ) (ns : StandingBranches) → standing_branches_of (branches_staged number at ns) ≡ ns
  branches_staged-standing number at none_standing = refl
  branches_staged-standing number at (branch_standing u n ns) = ap₂ (branch_standing u) (staged-standing number at n) (branches_staged-standing number (at + node_total n) ns)

-- each branch has the step of its first node
abbrev IsNumbered : (ℕ → ℕ) → Place → Type 0
IsNumbered number q = q.step ≡ number q.first

mutual
  staged-numbered : (number : ℕ → ℕ) (at above : ℕ) (s : Standing) → Each (IsNumbered number) (places at above (staged number at s))
  staged-numbered number at above (at_leaf p a) = each-nil (IsNumbered number)
  staged-numbered number at above (at_constant p v) = each-nil (IsNumbered number)
  staged-numbered number at above (at_negation n) = staged-numbered number (at + 1) above n
  staged-numbered number at above (at_connective op p m n) =
      let h : StagedTree = staged number (at + 1 + node_total m) n in
      let same : node_total m ≡ total (staged number (at + 1) m) = ap node_total (sym (staged-standing number (at + 1) m)) in
      each-append (IsNumbered number) (places (at + 1) above (staged number (at + 1) m)) (places (at + 1 + total (staged number (at + 1) m)) above h)
      (staged-numbered number (at + 1) above m)
      (subst (λ (k : ℕ). Each (IsNumbered number) (places (at + 1 + k) above h)) same (staged-numbered number (at + 1 + node_total m) above n))
  staged-numbered number at above (at_selection v n) = staged-numbered number (at + 1) above n
  staged-numbered number at above (at_expansion p ns) = branches_staged-numbered number (at + 1) above ns

  branches_staged-numbered : (number : ℕ → ℕ) (at above : ℕ) (ns : StandingBranches) → Each (IsNumbered number) (branch_places at above (branches_staged number at ns))
  branches_staged-numbered number at above none_standing = each-nil (IsNumbered number)
  branches_staged-numbered number at above (branch_standing u n ns) =
      let g : StagedTree = staged number at n in
      let bs : StagedBranches = branches_staged number (at + node_total n) ns in
      let same : node_total n ≡ total g = ap node_total (sym (staged-standing number at n)) in
      each-append (IsNumbered number) (place_of_branch at above u (number at) g ∷ places at (number at) g) (branch_places (at + total g) above bs)
      (each-cons (IsNumbered number) (place_of_branch at above u (number at) g) (places at (number at) g) refl (staged-numbered number at (number at) n))
      (subst (λ (k : ℕ). Each (IsNumbered number) (branch_places (at + k) above bs)) same (branches_staged-numbered number (at + node_total n) above ns))

-- the step of an occurrence in an order, from 1, by its first node

abbrev begins_at : Option Occurrence → ℕ → Bool
begins_at None node = false
begins_at (Some o) node = nat_eq node o.first

abbrev step_in : List Occurrence → List ℕ → ℕ → ℕ
step_in occurrences [] node = 1
step_in occurrences (e ∷ order) node = cond (begins_at (occurrence_at occurrences e) node) 1 (suc (step_in occurrences order node))

-- occurrences with one first node are one
same_first : (occurrences : List Occurrence) (e f : ℕ) (o p : Occurrence) → AreNested occurrences → occurrence_at occurrences e ≡ Some o → occurrence_at occurrences f ≡ Some p → o.first ≡ p.first → e ≡ f
same_first occurrences e f o p nested is_o is_p same = elim (eqb_tells e f) [
  | inl one ↦ one.1
  | inr other ↦ (elim (leb_tells e f) [
    | inl t ↦ absurd (let less = nested.rising e f o p is_o is_p (omega (arith, t.1, other.1)) in omega (arith, less, same))
    | inr t ↦ absurd (let less = nested.rising f e p o is_p is_o t.1 in omega (arith, less, same))
  ])
]

begins_only : (occurrences : List Occurrence) (x e : ℕ) (o : Occurrence) (a : Option Occurrence) → AreNested occurrences → occurrence_at occurrences e ≡ Some o → occurrence_at occurrences x ≡ a
    → begins_at a o.first ≡ true → x ≡ e
begins_only occurrences x e o None nested is_o is_a h = absurd (cc)
begins_only occurrences x e o (Some p) nested is_o is_a h = same_first occurrences x e p o nested is_a is_o (sym (eqb-true o.first p.first h))

step_is : (occurrences : List Occurrence) (order : List ℕ) (k e : ℕ) (o : Occurrence) → AreNested occurrences → IsDistinct nat_eq order → slice_get order k ≡ Some e → occurrence_at occurrences e ≡ Some o
    → step_in occurrences order o.first ≡ suc k
step_is occurrences [] k e o nested once at is_o = absurd (cc)
step_is occurrences (x ∷ order) zero e o nested once at is_o =
    let one : x ≡ e = cc in
    rw (one, is_o, nat_eq_same o.first) refl
step_is occurrences (x ∷ order) (suc k) e o nested once at is_o =
    go (begins_at (occurrence_at occurrences x) o.first) refl (step_is occurrences order k e o nested (distinct-tail x order once) at is_o)
  where
    go : (b : Bool) → begins_at (occurrence_at occurrences x) o.first ≡ b → step_in occurrences order o.first ≡ suc k → cond b 1 (suc (step_in occurrences order o.first)) ≡ suc (suc k)
    go true begins rest =
        let one : x ≡ e = begins_only occurrences x e o (occurrence_at occurrences x) nested is_o refl begins in
        let place = same_place (x ∷ order) 0 (suc k) e once (ap (λ z. Some z) one) at in
        absurd (omega (arith, place))
    go false begins rest = ap suc rest

-- the branches have the steps of their occurrences in an order
abbrev AreNumbered : List ℕ → List Place → Type 0
AreNumbered order qs = (k : ℕ) (q : Place) → slice_get qs k ≡ Some q → (j : ℕ) × (slice_get order j ≡ Some (suc k)) × (q.step ≡ suc j)

occurrence_here : (qs : List Place) (k : ℕ) (q : Place) → slice_get qs k ≡ Some q → occurrence_at (map occurrence_there qs) (suc k) ≡ Some (occurrence_there q)
occurrence_here qs k q at =
    let place : k ≡ suc k - 1 = omega arith in
    occurrence_seen (map occurrence_there qs) (suc k) (occurrence_there q) (omega arith)
    (subst (λ (i : ℕ). slice_get (map occurrence_there qs) i ≡ Some (occurrence_there q)) place (at_image occurrence_there qs k q at))

numbered_in : (ss : List Selection) (order : List ℕ) (qs : List Place) → AreNested (map occurrence_there qs) → IsOrder (map occurrence_there qs) ss order
    → Each (IsNumbered (step_in (map occurrence_there qs) order)) qs → AreNumbered order qs
numbered_in ss order qs nested h numbered k q at =
    let here = occurrence_here qs k q at in
    let number = occurrence_within (map occurrence_there qs) (suc k) (occurrence_there q) here in
    let place = place_of order (suc k) (h.all (suc k) number.0 number.1) in
    (place.0, place.2, numbered q (Contains_there qs k q at) ∙ step_is (map occurrence_there qs) order place.0 (suc k) (occurrence_there q) nested h.once place.2 here)

-- the step of a branch is more than that of each branch around it
numbered_inside : (ss : List Selection) (order : List ℕ) (qs : List Place) → IsOrder (map occurrence_there qs) ss order → AreNumbered order qs → (q : Place) → Contains qs q → HasOuter 0 qs q → q.above < q.step
numbered_inside ss order qs h numbered q there outer =
    let at = where_contained qs q there in
    let own = numbered at.0 q at.1 in
    elim outer [
      | inl top ↦ omega (arith, top, own.2)
      | inr around ↦ (let up = where_contained qs around.0 around.1 in
          let other = numbered up.0 around.0 up.1 in
          let below : Below (map occurrence_there qs) (suc up.0) (suc at.0) = record {
            upper = occurrence_there around.0;
            is_upper = occurrence_here qs up.0 around.0 up.1;
            inner = occurrence_there q;
            is_inner = occurrence_here qs at.0 q at.1;
            starts = around.2;
            ends = around.3;
          } in
          let less = h.below other.0 own.0 (suc up.0) (suc at.0) other.1 own.1 below in
          omega (arith, less, other.2, own.2, around.4))
    ]

-- and more than that of each branch whose variables its term uses
numbered_used : (order : List ℕ) (qs : List Place) (cs : List Choice) → IsOrder (map occurrence_there qs) (map selection_there cs) order → AreNumbered order qs → (q : Place) (c : Choice) → Contains qs q
    → Contains cs c → HasBranch 0 qs c → IsFree c.variable.0 c.variable.1 q.term → c.step < q.step
numbered_used order qs cs h numbered q c there among branch used =
    let at = where_contained qs q there in
    let own = numbered at.0 q at.1 in
    elim branch [
      | inl top ↦ omega (arith, top, own.2)
      | inr around ↦ (let up = where_contained qs around.0 around.1 in
          let other = numbered up.0 around.0 up.1 in
          let before : Before (map occurrence_there qs) (map selection_there cs) (suc up.0) (suc at.0) = record {
            upper = occurrence_there around.0;
            is_upper = occurrence_here qs up.0 around.0 up.1;
            later = occurrence_there q;
            is_later = occurrence_here qs at.0 q at.1;
            selection = selection_there c;
            selected = Contains-image selection_there cs c among;
            below = around.2;
            used = used;
          } in
          let less = h.before other.0 own.0 (suc up.0) (suc at.0) other.1 own.1 before in
          omega (arith, less, other.2, own.2, around.3))
    ]

numbered_order : (order : List ℕ) (g : StagedTree) → IsOrder (map occurrence_there (places 1 0 g)) (map selection_there (choices 1 0 g)) order → AreNumbered order (places 1 0 g) → IsInOrder g
numbered_order order g h numbered = record {
  inside = λ x there.
      let q = image_of stage_there (places 1 0 g) x (rw (places-stages 1 0 g) there) in
      subst (λ (x : Stage). x.above < x.step) q.2 (numbered_inside (map selection_there (choices 1 0 g)) order (places 1 0 g) h numbered q.0 q.1 (places_innermost 1 0 g q.0 q.1));
  used = λ x v step there among.
      let q = image_of stage_there (places 1 0 g) x (rw (places-stages 1 0 g) there) in
      let c = image_of staged_there (choices 1 0 g) (v, step) (rw (choices-staged 1 0 g) among) in
      let less : IsFree c.0.variable.0 c.0.variable.1 q.0.term → c.0.step < q.0.step = numbered_used order (places 1 0 g) (choices 1 0 g) h numbered q.0 c.0 q.1 c.1 (choices_innermost 1 0 g c.0 c.1) in
      let variable_is : c.0.variable ≡ v = ap (λ (w : Variable × ℕ). w.0) c.2 in
      let step_at : c.0.step ≡ step = ap (λ (w : Variable × ℕ). w.1) c.2 in
      let at_stage : IsFree c.0.variable.0 c.0.variable.1 x.term → c.0.step < x.step = subst (λ (x : Stage). IsFree c.0.variable.0 c.0.variable.1 x.term → c.0.step < x.step) q.2 less in
      let at_step : IsFree c.0.variable.0 c.0.variable.1 x.term → step < x.step = subst (λ (k : ℕ). IsFree c.0.variable.0 c.0.variable.1 x.term → k < x.step) step_at at_stage in
      subst (λ (v : Variable). IsFree v.0 v.1 x.term → step < x.step) variable_is at_step;
}

-- each step once

abbrev step_there : Place → ℕ
step_there q = q.step

distinct_by_place : (xs : List ℕ) → ((i j x : ℕ) → slice_get xs i ≡ Some x → slice_get xs j ≡ Some x → i ≡ j) → IsDistinct nat_eq xs
distinct_by_place [] h = distinct-nil
distinct_by_place (x ∷ xs) h =
    distinct-cons x xs (go (is_in xs x) refl) (distinct_by_place xs (λ i j y e f. let same = h (suc i) (suc j) y e f in omega (arith, same)))
  where
    go : (b : Bool) → is_in xs x ≡ b → is_in xs x ≡ false
    go false e = e
    go true e =
        let place = where_contained xs x (Contains_from_is_in xs x e) in
        let same = h 0 (suc place.0) x refl place.1 in
        absurd (omega (arith, same))

same_number : (a : Option ℕ) (i j : ℕ) → a ≡ Some (suc i) → a ≡ Some (suc j) → i ≡ j
same_number a i j e f = cc

steps_once : (order : List ℕ) (qs : List Place) → AreNumbered order qs → IsDistinct nat_eq (map step_there qs)
steps_once order qs numbered = distinct_by_place (map step_there qs) (λ i j x e f.
    let q = image_at step_there qs i x e in
    let r = image_at step_there qs j x f in
    let first = numbered i q.0 q.1 in
    let second = numbered j r.0 r.1 in
    let place : first.0 ≡ second.0 = omega (arith, first.2, second.2, q.2, r.2) in
    same_number (slice_get order second.0) i j (rw place at first.1) second.1)

steps_within : (ss : List Selection) (order : List ℕ) (qs : List Place) → IsOrder (map occurrence_there qs) ss order → AreNumbered order qs
    → Each (λ step. (1 ≤ step) × (step ≤ length (map occurrence_there qs))) (map step_there qs)
steps_within ss order qs h numbered step there =
    let q = image_of step_there qs step there in
    let at = where_contained qs q.0 q.1 in
    let own = numbered at.0 q.0 at.1 in
    let less = slice_get_within order own.0 (suc at.0) own.1 in
    let many = order_length (map occurrence_there qs) ss order h in
    (omega (arith, own.2, q.2), omega (arith, own.2, q.2, less, many))

steps_all : (ss : List Selection) (order : List ℕ) (qs : List Place) → IsOrder (map occurrence_there qs) ss order → AreNumbered order qs → (step : ℕ) → 1 ≤ step
    → step ≤ length (map occurrence_there qs) → Contains (map step_there qs) step
steps_all ss order qs h numbered zero low high = absurd (omega (arith, low))
steps_all ss order qs h numbered (suc j) low high =
    let many = order_length (map occurrence_there qs) ss order h in
    let within : j < length order = omega (arith, many, high) in
    let e : ℕ = get_or order j 0 in
    let at : slice_get order j ≡ Some e = slice_get-get_or order j 0 within in
    let number = All-contains (λ e. (1 ≤ e) × (e ≤ length (map occurrence_there qs))) order e h.numbers (Contains-get_or order j 0 within) in
    let there = occurrence_at_number (map occurrence_there qs) e number.0 number.1 in
    let q = image_at occurrence_there qs (e - 1) there.0 (place_is (map occurrence_there qs) e there.0 there.1).1 in
    let own = numbered (e - 1) q.0 q.1 in
    let same : suc (e - 1) ≡ e = omega (arith, number.0) in
    let place = same_place order own.0 j e h.once (own.1 ∙ ap (λ z. Some z) same) at in
    let step : q.0.step ≡ suc j = omega (arith, own.2, place) in
    subst (λ z. Contains (map step_there qs) z) step (Contains-image step_there qs q.0 (Contains_there qs (e - 1) q.0 q.1))

steps_are : (g : StagedTree) → map step_there (places 1 0 g) ≡ steps_of g
steps_are g = sym (map-map (λ (x : Stage). x.step) stage_there (places 1 0 g)) ∙ ap (λ (l : List Stage). map (λ (x : Stage). x.step) l) (places-stages 1 0 g)

numbered_steps : (ss : List Selection) (order : List ℕ) (g : StagedTree) → IsOrder (map occurrence_there (places 1 0 g)) ss order → AreNumbered order (places 1 0 g)
    → HasEachStep (length (map occurrence_there (places 1 0 g))) g
numbered_steps ss order g h numbered =
    let qs : List Place = places 1 0 g in
    let within : Each (λ step. (1 ≤ step) × (step ≤ length (map occurrence_there qs))) (steps_of g) = subst (λ (l : List ℕ). Each (λ step. (1 ≤ step) × (step ≤ length (map occurrence_there qs))) l) (steps_are g) (steps_within ss order qs h numbered) in
    record {
      numbers = All-from_get_or (λ step. (1 ≤ step) × (step ≤ length (map occurrence_there qs))) (steps_of g) 0 (λ k less. within (get_or (steps_of g) k 0) (Contains-get_or (steps_of g) k 0 less));
      all = λ step low high. subst (λ (l : List ℕ). Contains l step) (steps_are g) (steps_all ss order qs h numbered step low high);
      once = subst (λ (l : List ℕ). IsDistinct nat_eq l) (steps_are g) (steps_once order qs numbered);
    }

-- a tree whose branches have the steps of an order is in that order
in_order : (occurrences : List Occurrence) (ss : List Selection) (order : List ℕ) (g : StagedTree) → occurrences ≡ map occurrence_there (places 1 0 g) → ss ≡ map selection_there (choices 1 0 g)
    → AreNested occurrences → IsOrder occurrences ss order → Each (IsNumbered (step_in occurrences order)) (places 1 0 g) → IsInOrder g × HasEachStep (length occurrences) g
in_order occurrences ss order g listed selected nested h numbered =
    let qs : List Place = places 1 0 g in
    let cs : List Choice = choices 1 0 g in
    let nests : AreNested (map occurrence_there qs) = subst AreNested listed nested in
    let orders : IsOrder (map occurrence_there qs) ss order = subst (λ (os : List Occurrence). IsOrder os ss order) listed h in
    let all : IsOrder (map occurrence_there qs) (map selection_there cs) order = subst (λ (l : List Selection). IsOrder (map occurrence_there qs) l order) selected orders in
    let each : Each (IsNumbered (step_in (map occurrence_there qs) order)) qs = subst (λ (os : List Occurrence). Each (IsNumbered (step_in os order)) qs) listed numbered in
    let steps = numbered_in ss order qs nests orders each in
    (numbered_order order g all steps, subst (λ (os : List Occurrence). HasEachStep (length os) g) (sym listed) (numbered_steps ss order g orders steps))

-- the law
pub acyclic_staged : (p : Bool) (a : Term) (t : ExpansionTree) (s : Standing) → Stands p a t s → IsAcyclic (occurrences_of t) (selections s)
    → (g : StagedTree) × (standing_of g ≡ s) × IsInOrder g × HasEachStep (length (occurrences_of t)) g
acyclic_staged p a t s stands acyclic =
    let order = acyclic_order t (selections s) acyclic in
    let number : ℕ → ℕ = step_in (occurrences_of t) order.0 in
    let g : StagedTree = staged number 1 s in
    let same : standing_of g ≡ s = staged-standing number 1 s in
    let listed : occurrences_of t ≡ map occurrence_there (places 1 0 g) = occurrences_standing t p a s stands ∙ ap (occurrences_in 1) (sym same) ∙ sym (places-occurrences 1 0 g) in
    let selected : selections s ≡ map selection_there (choices 1 0 g) = ap selections (sym same) ∙ sym (choices-selections 1 0 g) in
    let both = in_order (occurrences_of t) (selections s) order.0 g listed selected (occurrences_nest t) order.1 (staged-numbered number 1 0 s) in
    (g, same, both.0, both.1)
