-- What a walk has found where it ends: a topological order, or a cycle.
use Rattle.std.proofs.Common.{◌≡◌, ℕ, ◌<◌, List, [], ◌∷◌, Bool, true, false, ◌||◌, cond, nat_eq, length, reverse, get_or, take, refl, sym, ◌∙◌, ap, arith, zero, suc, slice_get, Some, Contains}
use Rattle.std.specs.List.{IsDistinct}
use Rattle.std.proofs.lemmas.List.Elements.{All-from_get_or, All-contains, Contains-get_or}
use Rattle.std.proofs.lemmas.Bool.{eqb-true}
use Rattle.dependency.specs.declared.graphs.Mark.{Mark}
use Rattle.dependency.specs.declared.graphs.Mark.TheVariants.{Unseen, Waiting, Placed}
use Rattle.dependency.specs.Graphs.{IsClosedChain, IsCycle, IsEdge, IsTopological, last_behind, Leads, predecessors}
use Rattle.dependency.specs.Walks.{AllIn, AreMarked, is_in, is_placed, is_unseen, is_waiting, IsLinked, mark_of, up_to}
use Rattle.dependency.proofs.Lists.{both_false, Contains_from_is_in, distinct-cons, distinct-head, distinct-nil, distinct-tail, is_in_from_Contains, is_in-reverse}
use Rattle.dependency.proofs.Steps.{Contains_at, get_or_at_place}

-- a prefix of a list up to a number that is in it

leads-up_to : (R : ℕ → ℕ → Type 0) (v x : ℕ) (xs : List ℕ) → Leads R x xs → Leads R x (up_to v xs)
leads-up_to R v x [] h = tt
leads-up_to R v x (y ∷ ys) h = go (nat_eq v y) (leads-up_to R v y ys h.1)
  where
    go : (b : Bool) → Leads R y (up_to v ys) → Leads R x (cond b (y ∷ []) (y ∷ up_to v ys))
    go true rest = (h.0, tt)
    go false rest = (h.0, rest)

last-up_to : (v x : ℕ) (xs : List ℕ) → is_in xs v ≡ true → last_behind x (up_to v xs) ≡ v
last-up_to v x [] h = absurd (cc)
last-up_to v x (y ∷ ys) h = go (nat_eq v y) refl h (last-up_to v y ys)
  where
    go : (b : Bool) → nat_eq v y ≡ b → (b || is_in ys v) ≡ true → (is_in ys v ≡ true → last_behind y (up_to v ys) ≡ v) → last_behind x (cond b (y ∷ []) (y ∷ up_to v ys)) ≡ v
    go true e h rest = sym (eqb-true v y e)
    go false e h rest = rest h

not_in-up_to : (v w : ℕ) (xs : List ℕ) → is_in xs w ≡ false → is_in (up_to v xs) w ≡ false
not_in-up_to v w [] h = refl
not_in-up_to v w (y ∷ ys) h = let p = both_false (nat_eq w y) (is_in ys w) h in go (nat_eq v y) p.0 (not_in-up_to v w ys p.1)
  where
    go : (b : Bool) → nat_eq w y ≡ false → is_in (up_to v ys) w ≡ false → is_in (cond b (y ∷ []) (y ∷ up_to v ys)) w ≡ false
    go true other rest = rw other refl
    go false other rest = rw other rest

distinct-up_to : (v : ℕ) (xs : List ℕ) → IsDistinct nat_eq xs → IsDistinct nat_eq (up_to v xs)
distinct-up_to v [] h = distinct-nil
distinct-up_to v (y ∷ ys) h = go (nat_eq v y) (distinct-up_to v ys (distinct-tail y ys h)) (not_in-up_to v y ys (distinct-head y ys h))
  where
    go : (b : Bool) → IsDistinct nat_eq (up_to v ys) → is_in (up_to v ys) y ≡ false → IsDistinct nat_eq (cond b (y ∷ []) (y ∷ up_to v ys))
    go true rest new = distinct-cons y [] refl distinct-nil
    go false rest new = distinct-cons y (up_to v ys) new rest

closed-up_to : (R : ℕ → ℕ → Type 0) (v : ℕ) (xs : List ℕ) → is_in xs v ≡ true → IsLinked R xs → Leads R v xs → IsClosedChain R (up_to v xs)
closed-up_to R v [] h linked leads = absurd (cc)
closed-up_to R v (x ∷ xs) h linked leads = go (nat_eq v x) refl h
  where
    go : (b : Bool) → nat_eq v x ≡ b → (b || is_in xs v) ≡ true → IsClosedChain R (cond b (x ∷ []) (x ∷ up_to v xs))
    go true e h = (tt, rw (eqb-true v x e) at leads.0)
    go false e h = (leads-up_to R v x xs linked, rw (last-up_to v x xs h) leads.0)

-- a vertex that is met again closes a cycle
pub met_again : (graph : List (List ℕ)) (marks : List Mark) (waiting placed : List ℕ) (v : ℕ) → AreMarked graph marks waiting placed → is_in waiting v ≡ true
    → Leads (IsEdge graph) v (reverse waiting) → IsCycle graph (up_to v (reverse waiting))
met_again graph marks waiting placed v h met leads =
    (closed-up_to (IsEdge graph) v (reverse waiting) (is_in-reverse waiting v ∙ met) h.linked leads, distinct-up_to v (reverse waiting) h.waits_once)

-- where nothing waits and all was seen

apart : (y : ℕ) (ys : List ℕ) (j : ℕ) → is_in ys y ≡ false → slice_get ys j ≡ Some y → ⊥
apart y ys j new e = let there = is_in_from_Contains ys y (Contains_at ys j y e) in cc

pub same_place : (xs : List ℕ) (i j x : ℕ) → IsDistinct nat_eq xs → slice_get xs i ≡ Some x → slice_get xs j ≡ Some x → i ≡ j
same_place [] i j x d e f = absurd (cc)
same_place (y ∷ ys) zero zero x d e f = refl
same_place (y ∷ ys) zero (suc j) x d e f = absurd (apart y ys j (distinct-head y ys d) (let s : x ≡ y = cc in f ∙ ap (λ (n : ℕ). Some n) s))
same_place (y ∷ ys) (suc i) zero x d e f = absurd (apart y ys i (distinct-head y ys d) (let s : x ≡ y = cc in e ∙ ap (λ (n : ℕ). Some n) s))
same_place (y ∷ ys) (suc i) (suc j) x d e f = ap suc (same_place ys i j x (distinct-tail y ys d) e f)

placed_where_seen : (m : Mark) → is_unseen m ≡ false → is_waiting m ≡ false → is_placed m ≡ true
placed_where_seen Unseen s w = cc
placed_where_seen (Waiting k) s w = cc
placed_where_seen Placed s w = refl

placed_within : (marks : List Mark) (v : ℕ) → is_placed (mark_of marks v) ≡ true → v < length marks
placed_within [] v e = cc
placed_within (m ∷ marks) zero e = omega arith
placed_within (m ∷ marks) (suc v) e = let less = placed_within marks v e in omega (arith, less)

pub place_of : (xs : List ℕ) (x : ℕ) → Contains xs x → (k : ℕ) × (k < length xs) × (slice_get xs k ≡ Some x)
place_of [] x h = absurd (omega (arith, h.1))
place_of (y ∷ ys) x (zero, less, e) = (0, less, ap (λ (n : ℕ). Some n) e)
place_of (y ∷ ys) x (suc k, less, e) = let p = place_of ys x (k, omega (arith, less), e) in (suc p.0, omega (arith, p.1), p.2)

place_in_front : (n : ℕ) (xs : List ℕ) (x : ℕ) → Contains (take n xs) x → (k : ℕ) × (k < n) × (slice_get xs k ≡ Some x)
place_in_front zero xs x h = absurd (omega (arith, h.1))
place_in_front (suc n) [] x h = absurd (omega (arith, h.1))
place_in_front (suc n) (y ∷ ys) x (zero, less, e) = (0, omega arith, ap (λ (n : ℕ). Some n) e)
place_in_front (suc n) (y ∷ ys) x (suc k, less, e) = let p = place_in_front n ys x (k, omega (arith, less), e) in (suc p.0, omega (arith, p.1), p.2)

-- a walk that is at its end has a topological order
pub all_placed : (graph : List (List ℕ)) (marks : List Mark) (waiting placed : List ℕ) → AreMarked graph marks waiting placed → waiting ≡ []
    → ((v : ℕ) → v < length graph → is_unseen (mark_of marks v) ≡ false) → IsTopological graph placed
all_placed graph marks waiting placed h none seen = record {
  vertices = All-from_get_or (λ v. v < length graph) placed 0 (λ i within. each (get_or placed i 0) (is_in_from_Contains placed (get_or placed i 0) (Contains-get_or placed i 0 within)));
  all = λ v vertex. Contains_from_is_in placed v (h.stands v ∙ placed_where_seen (mark_of marks v) (seen v vertex) (sym (h.waits v) ∙ ap (λ l. is_in l v) none));
  once = h.placed_once;
  behind = λ i j x y at_i at_j edge.
      let second = get_or_at_place placed j y at_j in
      let before : AllIn (take j placed) (predecessors graph y) = rw second.1 at (h.behind j second.0) in
      let first = place_in_front j placed x (Contains_from_is_in (take j placed) x (All-contains (λ u. is_in (take j placed) u ≡ true) (predecessors graph y) x before edge)) in
      let same = same_place placed first.0 i x h.placed_once first.2 at_i in
      omega (arith, first.1, same);
}
  where
    each : (v : ℕ) → is_in placed v ≡ true → v < length graph
    each v there = let less = placed_within marks v (sym (h.stands v) ∙ there) in omega (arith, less, h.many)
