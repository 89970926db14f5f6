-- The steps that a walk still has to take, and the newest vertex that waits.
use Rattle.std.proofs.Common.{◌≡◌, ℕ, ◌+◌, ◌-◌, ◌<◌, ◌≤◌, List, [], ◌∷◌, ◌++◌, Bool, true, false, nat_eq, length, reverse, get_or, set, take, refl, sym, ◌∙◌, ap, arith, zero, suc, slice_get, Some, None, Contains, cond}
use Rattle.std.proofs.lemmas.List.{take_more, take_all}
use Rattle.dependency.specs.declared.graphs.Mark.{Mark}
use Rattle.dependency.specs.Graphs.{Leads, IsEdge, predecessors}
use Rattle.dependency.specs.Walks.{AreMarked, IsNewest, is_in, is_unseen, is_waiting, mark_of, steps_at, steps_left}
use Rattle.dependency.proofs.Lists.{reverse-push, is_in-push, nat_eq_same}
use Rattle.dependency.proofs.Marks.{mark_of-set}

steps_left-set : (graph : List (List ℕ)) (marks : List Mark) (v : ℕ) (m : Mark) → v < length graph → length marks ≡ length graph
    → steps_left graph (set marks v m) + steps_at (predecessors graph v) (mark_of marks v) ≡ steps_left graph marks + steps_at (predecessors graph v) m
steps_left-set [] marks v m within many = absurd (omega arith)
steps_left-set (row ∷ rows) [] v m within many = absurd (omega (arith, many))
steps_left-set (row ∷ rows) (mark ∷ marks) zero m within many = omega arith
steps_left-set (row ∷ rows) (mark ∷ marks) (suc v) m within many =
    let rest = steps_left-set rows marks v m (omega (arith, within)) (omega (arith, many)) in
    omega (arith, rest)

-- a vertex that is left with fewer steps leaves fewer in all
pub fewer_left : (graph : List (List ℕ)) (marks : List Mark) (v : ℕ) (old new : Mark) → v < length graph → length marks ≡ length graph → mark_of marks v ≡ old
    → steps_at (predecessors graph v) new < steps_at (predecessors graph v) old → steps_left graph (set marks v new) < steps_left graph marks
fewer_left graph marks v old new within many is_old less =
    let e = steps_left-set graph marks v new within many in
    let less' : steps_at (predecessors graph v) new < steps_at (predecessors graph v) (mark_of marks v) = rw is_old less in
    omega (arith, e, less')

-- the newest vertex
pub newest_last : (waiting : List ℕ) (v : ℕ) → 0 < length waiting → v ≡ get_or waiting (length waiting - 1) v → waiting ≡ take (length waiting - 1) waiting ++ v ∷ []
newest_last waiting v some e =
    let k : ℕ = length waiting - 1 in
    let less : k < length waiting = omega arith in
    let more : length waiting ≤ k + 1 = omega arith in
    sym (take_all (k + 1) waiting more) ∙ take_more waiting k v less ∙ ap (λ (u : ℕ). take k waiting ++ u ∷ []) (sym e)

-- it waits
pub newest_waits : (graph : List (List ℕ)) (marks : List Mark) (waiting placed front : List ℕ) (v : ℕ) → waiting ≡ front ++ v ∷ [] → AreMarked graph marks waiting placed
    → is_waiting (mark_of marks v) ≡ true
newest_waits graph marks waiting placed front v split h = sym (h.waits v) ∙ ap (λ (l : List ℕ). is_in l v) split ∙ is_in-push front v v ∙ rw (nat_eq_same v) refl

-- what waits is a vertex
pub waits_within : (graph : List (List ℕ)) (marks : List Mark) (waiting placed : List ℕ) (v : ℕ) → AreMarked graph marks waiting placed → is_waiting (mark_of marks v) ≡ true → v < length marks
waits_within graph marks waiting placed v h waits = go marks v waits
  where
    go : (marks : List Mark) (v : ℕ) → is_waiting (mark_of marks v) ≡ true → v < length marks
    go [] v e = cc
    go (m ∷ marks) zero e = omega arith
    go (m ∷ marks) (suc v) e = let less = go marks v e in omega (arith, less)

-- a predecessor stands directly before
pub Contains_at : (xs : List ℕ) (k v : ℕ) → slice_get xs k ≡ Some v → Contains xs v
Contains_at [] k v e = absurd (cc)
Contains_at (x ∷ xs) zero v e = (0, omega arith, cc)
Contains_at (x ∷ xs) (suc k) v e = let h = Contains_at xs k v e in (suc h.0, omega (arith, h.1), h.2)

pub get_or_at_place : (xs : List ℕ) (k v : ℕ) → slice_get xs k ≡ Some v → (k < length xs) × (get_or xs k 0 ≡ v)
get_or_at_place [] k v e = absurd (cc)
get_or_at_place (x ∷ xs) zero v e = (omega arith, cc)
get_or_at_place (x ∷ xs) (suc k) v e = let h = get_or_at_place xs k v e in (omega (arith, h.0), h.1)

pub past_place : (xs : List ℕ) (k : ℕ) → slice_get xs k ≡ None → length xs ≤ k
past_place [] k e = omega arith
past_place (x ∷ xs) zero e = absurd (cc)
past_place (x ∷ xs) (suc k) e = let h = past_place xs k e in omega (arith, h)

-- a vertex that was seen stays so
pub seen_stays : (marks : List Mark) (v : ℕ) (m : Mark) → v < length marks → is_unseen m ≡ false → (w : ℕ) → is_unseen (mark_of marks w) ≡ false → is_unseen (mark_of (set marks v m) w) ≡ false
seen_stays marks v m within seen w h = ap is_unseen (mark_of-set marks v m w within) ∙ go (nat_eq w v) (mark_of marks w) h
  where
    go : (b : Bool) (n : Mark) → is_unseen n ≡ false → is_unseen (cond b m n) ≡ false
    go true n e = seen
    go false n e = e

-- the newest vertex, as a walk finds it
pub newest_is : (graph : List (List ℕ)) (marks : List Mark) (waiting placed : List ℕ) (v n : ℕ) → AreMarked graph marks waiting placed → 0 < n → n ≡ length waiting
    → v ≡ get_or waiting (n - 1) v → IsNewest graph marks waiting v
newest_is graph marks waiting placed v n h some many e =
    let place : n - 1 ≡ length waiting - 1 = omega (arith, many) in
    let last = newest_last waiting v (omega (arith, some, many)) (e ∙ ap (λ (k : ℕ). get_or waiting k v) place) in
    let front : List ℕ = take (length waiting - 1) waiting in
    let waits = newest_waits graph marks waiting placed front v last h in
    let within = waits_within graph marks waiting placed v h waits in
    let turned : reverse waiting ≡ v ∷ reverse front = ap (λ (l : List ℕ). reverse l) last ∙ reverse-push front v in
    let linked : Leads (IsEdge graph) v (reverse front) = rw turned at h.linked in
    record {
      last = last;
      waits = waits;
      within = within;
      vertex = omega (arith, within, h.many);
      leads = λ u edge. rw turned (edge, linked);
    }
