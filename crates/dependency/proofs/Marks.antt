-- How the steps of a walk keep what its marks say.
use Rattle.std.proofs.Common.{◌≡◌, ℕ, ◌+◌, ◌<◌, ◌≤◌, List, [], ◌∷◌, ◌++◌, Bool, true, false, ◌||◌, cond, nat_eq, length, reverse, replicate, get_or, set, take, refl, sym, ◌∙◌, ap, subst, arith, inl, inr, slice_index}
use Rattle.std.specs.List.{IsDistinct}
use Rattle.std.proofs.lemmas.List.{get_or-set_same, get_or-set_other, length-set, get_or_past, get_or-replicate, length-replicate, take-append-le, take_all, get_or_append_left, get_or_push, length_push}
use Rattle.std.proofs.lemmas.List.Elements.{All-weaker, All-more, All-nil}
use Rattle.std.proofs.lemmas.Bool.{eq-eqb, eqb-true}
use Rattle.std.proofs.lemmas.Bool.Decides.{eqb_tells, leb_tells}
use Rattle.dependency.specs.declared.graphs.Mark.{Mark}
use Rattle.dependency.specs.declared.graphs.Mark.TheVariants.{Unseen, Waiting, Placed}
use Rattle.dependency.specs.Graphs.{Leads, IsEdge, predecessors}
use Rattle.dependency.specs.Walks.{AllIn, AreMarked, IsLinked, is_in, is_placed, is_waiting, mark_of}
use Rattle.dependency.proofs.Lists.{reverse-push, is_in-push, is_in-reverse, distinct-cons, distinct-head, distinct-tail, distinct-nil, distinct-push}

-- the marks after one is changed
pub mark_of-set : (marks : List Mark) (v : ℕ) (m : Mark) (w : ℕ) → v < length marks → mark_of (set marks v m) w ≡ cond (nat_eq w v) m (mark_of marks w)
mark_of-set marks v m w within =
    elim (eqb_tells w v) [
      | inl t ↦ rw (t.1, eq-eqb v v refl) (get_or-set_same marks v m Unseen within)
      | inr t ↦ rw (t.0) (get_or-set_other marks v w m Unseen t.1)
    ]

mark_of-none : (n v : ℕ) → mark_of (replicate n Unseen) v ≡ Unseen
mark_of-none n v = elim (leb_tells n v) [
  | inl t ↦ get_or_past (replicate n Unseen) v Unseen (rw (length-replicate n Unseen) t.1)
  | inr t ↦ get_or-replicate n v Unseen Unseen t.1
]

-- at the beginning
pub unseen_all : (graph : List (List ℕ)) (n : ℕ) → length graph ≡ n → AreMarked graph (replicate n Unseen) [] []
unseen_all graph n many = record {
  many = length-replicate n Unseen ∙ sym many;
  waits = λ v. sym (ap is_waiting (mark_of-none n v));
  stands = λ v. sym (ap is_placed (mark_of-none n v));
  looked = λ v k e. absurd (let u = mark_of-none n v in cc);
  linked = tt;
  waits_once = distinct-nil;
  placed_once = distinct-nil;
  behind = λ i h. absurd (omega (arith, h));
}

-- more is placed
AllIn-more : (placed vs : List ℕ) (v : ℕ) → AllIn placed vs → AllIn (placed ++ v ∷ []) vs
AllIn-more placed vs v h = All-weaker (λ u. is_in placed u ≡ true) (λ u. is_in (placed ++ v ∷ []) u ≡ true) (λ u e. is_in-push placed v u ∙ rw e (or_true (nat_eq u v))) vs h
  where
    or_true : (b : Bool) → (b || true) ≡ true
    or_true true = refl
    or_true false = refl

new_waits : (b : Bool) (m : Mark) (c : Bool) → c ≡ is_waiting m → (b || c) ≡ is_waiting (cond b (Waiting 0) m)
new_waits true m c e = refl
new_waits false m c e = e

new_stands : (b : Bool) (m : Mark) (c : Bool) → (b ≡ true → m ≡ Unseen) → c ≡ is_placed m → c ≡ is_placed (cond b (Waiting 0) m)
new_stands true m c u e = rw (u refl) at e
new_stands false m c u e = e

new_looked : (graph : List (List ℕ)) (placed : List ℕ) (w k : ℕ) (b : Bool) (m : Mark) → cond b (Waiting 0) m ≡ Waiting k
    → (m ≡ Waiting k → (k ≤ length (predecessors graph w)) × AllIn placed (take k (predecessors graph w)))
    → (k ≤ length (predecessors graph w)) × AllIn placed (take k (predecessors graph w))
new_looked graph placed w k true m e h =
    let zero : 0 ≡ k = cc in
    subst (λ k. (k ≤ length (predecessors graph w)) × AllIn placed (take k (predecessors graph w))) zero (omega arith, All-nil (λ u. is_in placed u ≡ true))
new_looked graph placed w k false m e h = h e

-- an unseen vertex comes to wait
pub marked-enter : (graph : List (List ℕ)) (marks : List Mark) (waiting placed : List ℕ) (v : ℕ) → v < length marks → mark_of marks v ≡ Unseen
    → Leads (IsEdge graph) v (reverse waiting) → AreMarked graph marks waiting placed → AreMarked graph (set marks v (Waiting 0)) (waiting ++ v ∷ []) placed
marked-enter graph marks waiting placed v within unseen leads h = record {
  many = length-set marks v (Waiting 0) ∙ h.many;
  waits = λ w. is_in-push waiting v w ∙ rw (mark_of-set marks v (Waiting 0) w within) (new_waits (nat_eq w v) (mark_of marks w) (is_in waiting w) (h.waits w));
  stands = λ w. rw (mark_of-set marks v (Waiting 0) w within) (new_stands (nat_eq w v) (mark_of marks w) (is_in placed w) (is_v w) (h.stands w));
  looked = λ w k e. new_looked graph placed w k (nat_eq w v) (mark_of marks w) (sym (mark_of-set marks v (Waiting 0) w within) ∙ e) (h.looked w k);
  linked = rw (reverse-push waiting v) leads;
  waits_once = rw (reverse-push waiting v) (distinct-cons v (reverse waiting) (is_in-reverse waiting v ∙ h.waits v ∙ ap is_waiting unseen) h.waits_once);
  placed_once = h.placed_once;
  behind = h.behind;
}
  where
    is_v : (w : ℕ) → nat_eq w v ≡ true → mark_of marks w ≡ Unseen
    is_v w e = elim (eqb_tells w v) [ inl t ↦ rw t.1 unseen | inr t ↦ absurd (let f = t.0 in cc) ]

-- which vertices aren't placed: those that the other lists say
placed_waits : (b : Bool) (m : Mark) (c : Bool) → (b ≡ true → c ≡ false) → (b || c) ≡ is_waiting m → c ≡ is_waiting (cond b Placed m)
placed_waits true m c u e = u refl
placed_waits false m c u e = e

placed_stands : (b : Bool) (m : Mark) (c : Bool) → c ≡ is_placed m → (b || c) ≡ is_placed (cond b Placed m)
placed_stands true m c e = refl
placed_stands false m c e = e

placed_looked : (graph : List (List ℕ)) (placed : List ℕ) (w k : ℕ) (b : Bool) (m : Mark) → cond b Placed m ≡ Waiting k
    → (m ≡ Waiting k → (k ≤ length (predecessors graph w)) × AllIn placed (take k (predecessors graph w)))
    → (k ≤ length (predecessors graph w)) × AllIn placed (take k (predecessors graph w))
placed_looked graph placed w k true m e h = cc
placed_looked graph placed w k false m e h = h e

-- a vertex whose predecessors are placed is placed after them
behind-push : (graph : List (List ℕ)) (placed : List ℕ) (v : ℕ) → AllIn placed (predecessors graph v)
    → ((i : ℕ) → i < length placed → AllIn (take i placed) (predecessors graph (slice_index placed i)))
    → (i : ℕ) → i < length (placed ++ v ∷ []) → AllIn (take i (placed ++ v ∷ [])) (predecessors graph (slice_index (placed ++ v ∷ []) i))
behind-push graph placed v all h i within =
    elim (leb_tells (length placed) i) [
      | inr t ↦ rw (take-append-le i placed (v ∷ []) (omega (arith, t.1)), get_or_append_left placed (v ∷ []) 0 i t.1) (h i t.1)
      | inl t ↦ (let last : i ≡ length placed = omega (arith, within, length_push placed v, t.1) in
          rw (last, take-append-le (length placed) placed (v ∷ []) (omega arith), take_all (length placed) placed (omega arith), get_or_push placed v 0 (length placed) refl) all)
    ]

-- the newest vertex is placed
pub marked-place : (graph : List (List ℕ)) (marks : List Mark) (waiting placed : List ℕ) (v k : ℕ) → v < length marks → mark_of marks v ≡ Waiting k
    → length (predecessors graph v) ≤ k → AreMarked graph marks (waiting ++ v ∷ []) placed → AreMarked graph (set marks v Placed) waiting (placed ++ v ∷ [])
marked-place graph marks waiting placed v k within mark many h =
    let once : IsDistinct nat_eq (v ∷ reverse waiting) = rw (reverse-push waiting v) at h.waits_once in
    let last : is_in waiting v ≡ false = sym (is_in-reverse waiting v) ∙ distinct-head v (reverse waiting) once in
    let looked = h.looked v k mark in
    let all : AllIn placed (predecessors graph v) = rw (take_all k (predecessors graph v) many) at looked.1 in
    let linked : IsLinked (IsEdge graph) (v ∷ reverse waiting) = rw (reverse-push waiting v) at h.linked in
    record {
      many = length-set marks v Placed ∙ h.many;
      waits = λ w. rw (mark_of-set marks v Placed w within)
          (placed_waits (nat_eq w v) (mark_of marks w) (is_in waiting w) (λ e. rw (same w e) last) (sym (is_in-push waiting v w) ∙ h.waits w));
      stands = λ w. is_in-push placed v w ∙ rw (mark_of-set marks v Placed w within) (placed_stands (nat_eq w v) (mark_of marks w) (is_in placed w) (h.stands w));
      looked = λ w j e. let old = placed_looked graph placed w j (nat_eq w v) (mark_of marks w) (sym (mark_of-set marks v Placed w within) ∙ e) (h.looked w j) in
          (old.0, AllIn-more placed (take j (predecessors graph w)) v old.1);
      linked = linked_rest v (reverse waiting) linked;
      waits_once = distinct-tail v (reverse waiting) once;
      placed_once = distinct-push placed v (h.stands v ∙ ap is_placed mark) h.placed_once;
      behind = behind-push graph placed v all h.behind;
    }
  where
    same : (w : ℕ) → nat_eq w v ≡ true → w ≡ v
    same w e = eqb-true w v e

    linked_rest : (x : ℕ) (xs : List ℕ) → IsLinked (IsEdge graph) (x ∷ xs) → IsLinked (IsEdge graph) xs
    linked_rest x [] l = tt
    linked_rest x (y ∷ ys) l = l.1

counted_waits : (b : Bool) (m : Mark) (k : ℕ) (c : Bool) → (b ≡ true → is_waiting m ≡ true) → c ≡ is_waiting m → c ≡ is_waiting (cond b (Waiting k) m)
counted_waits true m k c w e = e ∙ w refl
counted_waits false m k c w e = e

counted_stands : (b : Bool) (m : Mark) (k : ℕ) (c : Bool) → (b ≡ true → is_placed m ≡ false) → c ≡ is_placed m → c ≡ is_placed (cond b (Waiting k) m)
counted_stands true m k c w e = e ∙ w refl
counted_stands false m k c w e = e

counted_looked : (graph : List (List ℕ)) (placed : List ℕ) (w n k : ℕ) (b : Bool) (m : Mark) → cond b (Waiting n) m ≡ Waiting k
    → (b ≡ true → (n ≤ length (predecessors graph w)) × AllIn placed (take n (predecessors graph w)))
    → (m ≡ Waiting k → (k ≤ length (predecessors graph w)) × AllIn placed (take k (predecessors graph w)))
    → (k ≤ length (predecessors graph w)) × AllIn placed (take k (predecessors graph w))
counted_looked graph placed w n k true m e new h =
    let same : n ≡ k = cc in
    subst (λ k. (k ≤ length (predecessors graph w)) × AllIn placed (take k (predecessors graph w))) same (new refl)
counted_looked graph placed w n k false m e new h = h e

-- one more predecessor of a vertex that waits is seen to be placed
pub marked-count : (graph : List (List ℕ)) (marks : List Mark) (waiting placed : List ℕ) (v k u : ℕ) → v < length marks → mark_of marks v ≡ Waiting k
    → k < length (predecessors graph v) → get_or (predecessors graph v) k 0 ≡ u → mark_of marks u ≡ Placed → AreMarked graph marks waiting placed
    → AreMarked graph (set marks v (Waiting (k + 1))) waiting placed
marked-count graph marks waiting placed v k u within mark more is_u stands h = record {
  many = length-set marks v (Waiting (k + 1)) ∙ h.many;
  waits = λ w. rw (mark_of-set marks v (Waiting (k + 1)) w within) (counted_waits (nat_eq w v) (mark_of marks w) (k + 1) (is_in waiting w) (λ e. ap is_waiting (at_v w e)) (h.waits w));
  stands = λ w. rw (mark_of-set marks v (Waiting (k + 1)) w within) (counted_stands (nat_eq w v) (mark_of marks w) (k + 1) (is_in placed w) (λ e. ap is_placed (at_v w e)) (h.stands w));
  looked = λ w j e. counted_looked graph placed w (k + 1) j (nat_eq w v) (mark_of marks w) (sym (mark_of-set marks v (Waiting (k + 1)) w within) ∙ e)
      (λ same. rw (eqb-true w v same) more_looked) (h.looked w j);
  linked = h.linked;
  waits_once = h.waits_once;
  placed_once = h.placed_once;
  behind = h.behind;
}
  where
    at_v : (w : ℕ) → nat_eq w v ≡ true → mark_of marks w ≡ Waiting k
    at_v w e = rw (eqb-true w v e) mark

    more_looked : (k + 1 ≤ length (predecessors graph v)) × AllIn placed (take (k + 1) (predecessors graph v))
    more_looked = (
      omega (arith, more),
      All-more (λ u. is_in placed u ≡ true) (predecessors graph v) k 0 more (h.looked v k mark).1 (rw is_u (h.stands u ∙ ap is_placed stands)),
    )
