-- A topological order of the dependency graph orders the occurrences, and then no closed chain exists.
use Rattle.std.proofs.Common.{◌≡◌, ◌+◌, ◌-◌, ◌<◌, ◌≤◌, ℕ, zero, suc, List, [], ◌∷◌, Bool, true, false, Contains, length, nat_eq, get_or, slice_get, Some, refl, sym, subst, arith, inl, inr, ◌⊎◌}
use Rattle.std.specs.List.{IsDistinct, remove}
use Rattle.std.proofs.lemmas.Bool.Decides.{leb_tells, eqb_tells}
use Rattle.std.proofs.lemmas.List.Elements.{All-contains, All-head, All-tail, All-from_get_or, Contains-get_or}
use Rattle.std.proofs.lemmas.Map.Steps.{length-le_from_distinct_below, le-length_from_below}
use Rattle.expansion_tree.specs.Occurrences.{Occurrence}
use Rattle.expansion_tree.specs.Standing.{Selection}
use Rattle.dependency.specs.Graphs.{IsEdge, IsTopological, last_behind, Leads}
use Rattle.dependency.specs.Walks.{is_in}
use Rattle.dependency.specs.Dependencies.{Before, Below, IsAcyclic, IsNodeOf, IsOrder, occurrence_at}
use Rattle.dependency.specs.Nesting.{AreNested, IsDependencyGraph, IsInnermost, IsOwner}
use Rattle.dependency.proofs.Lists.{Contains-cons, Contains_from_is_in, distinct-cons, distinct-head, distinct-tail, is_in_from_Contains}
use Rattle.dependency.proofs.Cycles.{place_of, same_place}
use Rattle.dependency.proofs.Chains.{head_or_tail}
use Rattle.dependency.proofs.Nested.{occurrence_there, occurrence_within, same_occurrence}

-- occurrences in their order rise with their first nodes
below_rises : (occurrences : List Occurrence) (e f : ℕ) → AreNested occurrences → Below occurrences e f → e < f
below_rises occurrences e f nested b = elim (leb_tells f e) [
  | inr t ↦ t.1
  | inl t ↦ (elim (eqb_tells e f) [
    | inl same ↦ (let one : b.upper ≡ b.inner = same_occurrence (occurrence_at occurrences f) b.upper b.inner (rw same.1 at b.is_upper) b.is_inner in
        let less : b.inner.first < b.inner.first = rw one at b.starts in absurd (omega (arith, less)))
    | inr other ↦ (let back = nested.rising f e b.inner b.upper b.is_inner b.is_upper (omega (arith, t.1, other.1)) in absurd (omega (arith, back, b.starts)))
  ])
]

-- an occurrence around the one right above f is that one or around it
below_parent : (occurrences : List Occurrence) (e f p : ℕ) → AreNested occurrences → (b : Below occurrences e f) → IsInnermost occurrences (f - 1) b.inner.first p → (e ≡ p) ⊎ Below occurrences e p
below_parent occurrences e f p nested b h =
    let rises = below_rises occurrences e f nested b in
    let some = nested.some f b.inner b.is_inner in
    elim (leb_tells e p) [
      | inr t ↦ (let ends = h.past e b.upper t.1 (omega (arith, rises)) b.is_upper in absurd (omega (arith, ends, some, b.ends)))
      | inl t ↦ (elim (eqb_tells e p) [
        | inl same ↦ inl same.1
        | inr other ↦ (let less : e < p = omega (arith, t.1, other.1) in
            let number = occurrence_within occurrences f b.inner b.is_inner in
            let there = occurrence_there occurrences p (omega (arith, less)) (omega (arith, h.within, number)) in
            let up = nested.rising e p b.upper there.0 b.is_upper there.1 less in
            let on = nested.rising p f there.0 b.inner there.1 b.is_inner (omega (arith, h.within, rises)) in
            elim (nested.apart e p b.upper there.0 b.is_upper there.1 less) [
              | inl away ↦ absurd (omega (arith, away, on, some, b.ends))
              | inr ends ↦ inr (record { upper = b.upper; is_upper = b.is_upper; inner = there.0; is_inner = there.1; starts = up; ends = ends })
            ])
      ])
    ]

-- where the graph is in order, so are those below
stands_below : (occurrences : List Occurrence) (selections : List Selection) (graph : List (List ℕ)) (list : List ℕ) → AreNested occurrences → IsDependencyGraph occurrences selections graph
    → IsTopological graph list → (n e f i j : ℕ) → f ≤ n → slice_get list i ≡ Some e → slice_get list j ≡ Some f → Below occurrences e f → i < j
stands_below occurrences selections graph list nested h sorted zero e f i j most at_i at_j b =
    let number = occurrence_within occurrences f b.inner b.is_inner in absurd (omega (arith, most, number))
stands_below occurrences selections graph list nested h sorted (suc n) e f i j most at_i at_j b =
    let number = occurrence_within occurrences f b.inner b.is_inner in
    let row = h.rows f b.inner b.is_inner in
    let edge : IsEdge graph row.parent f = rw row.row_is (0, omega arith, refl) in
    let vertex : row.parent < length graph = omega (arith, row.is_parent.within, number, h.many) in
    let place = place_of list row.parent (sorted.all row.parent vertex) in
    let step = sorted.behind place.0 j row.parent f place.2 at_j edge in
    elim (below_parent occurrences e f row.parent nested b row.is_parent) [
      | inl same ↦ sorted.behind i j e f at_i at_j (subst (λ (u : ℕ). IsEdge graph u f) (sym same) edge)
      | inr up ↦ (let first = stands_below occurrences selections graph list nested h sorted n e row.parent i place.0 (omega (arith, row.is_parent.within, most, number)) at_i place.2 up in
          omega (arith, first, step))
    ]

-- an occurrence whose branch has a node is the last such one or around it
around_owner : (occurrences : List Occurrence) (node e u : ℕ) (o : Occurrence) → AreNested occurrences → occurrence_at occurrences e ≡ Some o → IsNodeOf node o → IsOwner occurrences node u
    → (e ≡ u) ⊎ Below occurrences e u
around_owner occurrences node e u o nested is_o has owner = elim (leb_tells e u) [
  | inr t ↦ absurd (owner.past e o t.1 is_o has)
  | inl t ↦ (elim (eqb_tells e u) [
    | inl same ↦ inl same.1
    | inr other ↦ (let less : e < u = omega (arith, t.1, other.1) in
        let there = occurrence_there occurrences u (omega (arith, less)) owner.within in
        let around = owner.around there.0 there.1 in
        let starts = nested.rising e u o there.0 is_o there.1 less in
        elim (nested.apart e u o there.0 is_o there.1 less) [
          | inl away ↦ absurd (omega (arith, away, around, has))
          | inr ends ↦ inr (record { upper = o; is_upper = is_o; inner = there.0; is_inner = there.1; starts = starts; ends = ends })
        ])
  ])
]

-- where the graph is in order, an occurrence stands before those that it is directly before
stands_before : (occurrences : List Occurrence) (selections : List Selection) (graph : List (List ℕ)) (list : List ℕ) → AreNested occurrences → IsDependencyGraph occurrences selections graph
    → IsTopological graph list → (i j e f : ℕ) → slice_get list i ≡ Some e → slice_get list j ≡ Some f → Before occurrences selections e f → i < j
stands_before occurrences selections graph list nested h sorted i j e f at_i at_j b =
    let number = occurrence_within occurrences f b.later b.is_later in
    let row = h.rows f b.later b.is_later in
    let found = row.complete b.selection b.selected b.used in
    let edge : IsEdge graph found.0 f = rw row.row_is (Contains-cons row.parent row.uses found.0 found.1) in
    let vertex : found.0 < length graph = omega (arith, found.2.within, h.many) in
    let place = place_of list found.0 (sorted.all found.0 vertex) in
    let step = sorted.behind place.0 j found.0 f place.2 at_j edge in
    elim (around_owner occurrences b.selection.node e found.0 b.upper nested b.is_upper b.below found.2) [
      | inl same ↦ sorted.behind i j e f at_i at_j (subst (λ (u : ℕ). IsEdge graph u f) (sym same) edge)
      | inr up ↦ (let first = stands_below occurrences selections graph list nested h sorted found.0 e found.0 i place.0 (omega arith) at_i place.2 up in
          omega (arith, first, step))
    ]

-- the whole tree stands first
root_first : (occurrences : List Occurrence) (selections : List Selection) (graph : List (List ℕ)) (x : ℕ) (xs : List ℕ) → IsDependencyGraph occurrences selections graph
    → IsTopological graph (x ∷ xs) → x ≡ 0
root_first occurrences selections graph zero xs h sorted = refl
root_first occurrences selections graph (suc x) xs h sorted =
    let vertex : suc x < length graph = All-head (λ v. v < length graph) (suc x) xs sorted.vertices in
    let there = occurrence_there occurrences (suc x) (omega arith) (omega (arith, vertex, h.many)) in
    let row = h.rows (suc x) there.0 there.1 in
    let edge : IsEdge graph row.parent (suc x) = rw row.row_is (0, omega arith, refl) in
    let place = place_of (suc x ∷ xs) row.parent (sorted.all row.parent (omega (arith, row.is_parent.within, vertex))) in
    absurd (let less = sorted.behind place.0 0 row.parent (suc x) place.2 refl edge in omega (arith, less))

in_rest : (xs : List ℕ) (v : ℕ) → 1 ≤ v → Contains (0 ∷ xs) v → Contains xs v
in_rest xs v low h = elim (head_or_tail 0 xs v h) [ inl e ↦ absurd (omega (arith, e, low)) | inr there ↦ there ]

not_root : (xs : List ℕ) → IsDistinct nat_eq (0 ∷ xs) → (v : ℕ) → Contains xs v → 1 ≤ v
not_root xs once zero there = absurd (let yes = is_in_from_Contains xs 0 there in let no = distinct-head 0 xs once in cc)
not_root xs once (suc v) there = omega arith

-- what is left without the whole tree is an order of the occurrences
pub order_from_sorted : (occurrences : List Occurrence) (selections : List Selection) (graph : List (List ℕ)) (x : ℕ) (xs : List ℕ) → AreNested occurrences
    → IsDependencyGraph occurrences selections graph → IsTopological graph (x ∷ xs) → IsOrder occurrences selections xs
order_from_sorted occurrences selections graph x xs nested h sorted =
    let root = root_first occurrences selections graph x xs h sorted in
    let all : IsTopological graph (0 ∷ xs) = rw root at sorted in
    record {
      numbers = All-from_get_or (λ e. (1 ≤ e) × (e ≤ length occurrences)) xs 0 (λ k within. (
        not_root xs all.once (get_or xs k 0) (Contains-get_or xs k 0 within),
        (let less : get_or xs k 0 < length graph = All-contains (λ v. v < length graph) xs (get_or xs k 0) (All-tail (λ v. v < length graph) 0 xs all.vertices) (Contains-get_or xs k 0 within) in omega (arith, less, h.many)),
      ));
      all = λ e low high. in_rest xs e low (all.all e (omega (arith, high, h.many)));
      once = distinct-tail 0 xs all.once;
      before = λ i j e f at_i at_j b. (let less = stands_before occurrences selections graph (0 ∷ xs) nested h all (suc i) (suc j) e f at_i at_j b in omega (arith, less));
      below = λ i j e f at_i at_j b. (let less = stands_below occurrences selections graph (0 ∷ xs) nested h all f e f (suc i) (suc j) (omega arith) at_i at_j b in omega (arith, less));
    }

-- how many there are

number_of : (occurrences : List Occurrence) (selections : List Selection) (order : List ℕ) → IsOrder occurrences selections order → (e : ℕ) → Contains order e
    → (1 ≤ e) × (e ≤ length occurrences)
number_of occurrences selections order h e there = All-contains (λ e. (1 ≤ e) × (e ≤ length occurrences)) order e h.numbers there

root_left_out : (occurrences : List Occurrence) (selections : List Selection) (order : List ℕ) → IsOrder occurrences selections order → is_in order 0 ≡ false
root_left_out occurrences selections order h = go (is_in order 0) refl
  where
    go : (b : Bool) → is_in order 0 ≡ b → is_in order 0 ≡ false
    go false e = e
    go true e = absurd (let low = (number_of occurrences selections order h 0 (Contains_from_is_in order 0 e)).0 in omega (arith, low))

pub order_length : (occurrences : List Occurrence) (selections : List Selection) (order : List ℕ) → IsOrder occurrences selections order → length order ≡ length occurrences
order_length occurrences selections order h =
    let once = distinct-cons 0 order (root_left_out occurrences selections order h) h.once in
    let most = length-le_from_distinct_below (0 ∷ order) (length occurrences + 1) once (λ q there. below q (Contains_from_is_in (0 ∷ order) q there)) in
    let least = le-length_from_below (0 ∷ order) (length occurrences + 1) (λ q less. is_in_from_Contains (0 ∷ order) q (within q less)) in
    omega (arith, most, least)
  where
    below : (q : ℕ) → Contains (0 ∷ order) q → q < length occurrences + 1
    below q there = elim (head_or_tail 0 order q there) [
      | inl e ↦ omega (arith, e)
      | inr rest ↦ (let high = (number_of occurrences selections order h q rest).1 in omega (arith, high))
    ]

    within : (q : ℕ) → q < length occurrences + 1 → Contains (0 ∷ order) q
    within zero less = (0, omega arith, refl)
    within (suc q) less = Contains-cons 0 order (suc q) (h.all (suc q) (omega arith) (omega (arith, less)))

-- along a chain the places rise
places_rise : (occurrences : List Occurrence) (selections : List Selection) (order : List ℕ) → IsOrder occurrences selections order → (x : ℕ) (ys : List ℕ) → Leads (Before occurrences selections) x ys
    → (i j : ℕ) → slice_get order i ≡ Some x → slice_get order j ≡ Some (last_behind x ys) → (i ≡ j) ⊎ (i < j)
places_rise occurrences selections order h x [] leads i j at_i at_j = inl (same_place order i j x h.once at_i at_j)
places_rise occurrences selections order h x (y ∷ ys) leads i j at_i at_j =
    let number = occurrence_within occurrences y leads.0.later leads.0.is_later in
    let place = place_of order y (h.all y number.0 number.1) in
    let step = h.before i place.0 x y at_i place.2 leads.0 in
    elim (places_rise occurrences selections order h y ys leads.1 place.0 j place.2 at_j) [
      | inl same ↦ inr (omega (arith, same, step))
      | inr more ↦ inr (omega (arith, more, step))
    ]

-- an order leaves no closed chain
pub acyclic_from_order : (occurrences : List Occurrence) (selections : List Selection) (order : List ℕ) → IsOrder occurrences selections order → IsAcyclic occurrences selections
acyclic_from_order occurrences selections order h [] closed = closed
acyclic_from_order occurrences selections order h (x ∷ xs) closed =
    let first = occurrence_within occurrences x closed.1.later closed.1.is_later in
    let last = occurrence_within occurrences (last_behind x xs) closed.1.upper closed.1.is_upper in
    let start = place_of order x (h.all x first.0 first.1) in
    let end = place_of order (last_behind x xs) (h.all (last_behind x xs) last.0 last.1) in
    let back = h.before end.0 start.0 (last_behind x xs) x end.2 start.2 closed.1 in
    elim (places_rise occurrences selections order h x xs closed.0 start.0 end.0 start.2 end.2) [
      | inl same ↦ omega (arith, same, back)
      | inr more ↦ omega (arith, more, back)
    ]

-- the order without the whole tree, which stands first
pub order_rest : (occurrences : List Occurrence) (selections : List Selection) (graph : List (List ℕ)) (list : List ℕ) → AreNested occurrences → IsDependencyGraph occurrences selections graph
    → IsTopological graph list → IsOrder occurrences selections (remove list 0)
order_rest occurrences selections graph [] nested h sorted = absurd (let none = sorted.all 0 (omega (arith, h.many)) in omega (arith, none.1))
order_rest occurrences selections graph (x ∷ xs) nested h sorted = order_from_sorted occurrences selections graph x xs nested h sorted
