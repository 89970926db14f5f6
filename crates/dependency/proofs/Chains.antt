-- A cycle of the dependency graph, without what is reached by going down alone, is a closed chain.
use Rattle.std.proofs.Common.{All, ◌≡◌, ◌+◌, ◌-◌, ◌<◌, ◌≤◌, ℕ, zero, suc, List, [], ◌∷◌, Bool, true, false, cond, Contains, length, nat_eq, slice_index, Some, refl, sym, ◌∙◌, ap, subst, arith, inl, inr, ◌⊎◌}
use Rattle.std.specs.List.{IsDistinct}
use Rattle.std.proofs.lemmas.Bool.Decides.{leb_tells}
use Rattle.std.proofs.lemmas.Bool.{eqb-true}
use Rattle.std.proofs.lemmas.List.{get_or_past}
use Rattle.std.proofs.lemmas.List.Elements.{All-cons, All-nil}
use Rattle.expansion_tree.specs.Occurrences.{Occurrence}
use Rattle.expansion_tree.specs.Standing.{Selection}
use Rattle.dependency.specs.Graphs.{IsClosedChain, IsCycle, IsEdge, last_behind, Leads, predecessors}
use Rattle.dependency.specs.Walks.{is_in}
use Rattle.dependency.specs.Dependencies.{Before, occurrence_at}
use Rattle.dependency.specs.Nesting.{AreNested, IsDependencyGraph, IsRow, shortened}
use Rattle.dependency.proofs.Lists.{both_false, distinct-cons, distinct-head, distinct-tail, nat_eq_same}
use Rattle.dependency.proofs.Nested.{before_around, Covers, covers_on, covers_same, occurrence_there, occurrence_within, parent_covers, use_before}

-- where an edge leads there is an occurrence
pub edge_to : (occurrences : List Occurrence) (selections : List Selection) (graph : List (List ℕ)) (u v : ℕ) → IsDependencyGraph occurrences selections graph → IsEdge graph u v
    → (o : Occurrence) × (occurrence_at occurrences v ≡ Some o)
edge_to occurrences selections graph u zero h edge = absurd (let none : Contains [] u = rw h.root at edge in omega (arith, none.1))
edge_to occurrences selections graph u (suc v) h edge = elim (leb_tells (length graph) (suc v)) [
  | inl t ↦ absurd (let none : Contains [] u = rw (get_or_past graph (suc v) [] t.1) at edge in omega (arith, none.1))
  | inr t ↦ occurrence_there occurrences (suc v) (omega arith) (omega (arith, t.1, h.many))
]

pub head_or_tail : (x : ℕ) (xs : List ℕ) (v : ℕ) → Contains (x ∷ xs) v → (v ≡ x) ⊎ Contains xs v
head_or_tail x xs v (zero, less, e) = inl (sym e)
head_or_tail x xs v (suc k, less, e) = inr (k, omega (arith, less), e)

-- an edge, by how it was made
pub record IsStep (occurrences : List Occurrence) (selections : List Selection) (graph : List (List ℕ)) (x y : ℕ) : Type 0 where
  pub target : Occurrence
  pub is_target : occurrence_at occurrences y ≡ Some target
  pub row : IsRow occurrences selections y target (predecessors graph y)
  pub top : slice_index (predecessors graph y) 0 ≡ row.parent
  pub way : (x ≡ row.parent) ⊎ Contains row.uses x

pub edge_is : (occurrences : List Occurrence) (selections : List Selection) (graph : List (List ℕ)) (x y : ℕ) → IsDependencyGraph occurrences selections graph → IsEdge graph x y
    → IsStep occurrences selections graph x y
edge_is occurrences selections graph x y h edge =
    let there = edge_to occurrences selections graph x y h edge in
    let row = h.rows y there.0 there.1 in
    let among : Contains (row.parent ∷ row.uses) x = rw row.row_is at edge in
    record {
      target = there.0;
      is_target = there.1;
      row = row;
      top = ap (λ (l : List ℕ). slice_index l 0) row.row_is;
      way = head_or_tail row.parent row.uses x among;
    }

-- what is left leads on by direct steps
pub shortened_leads : (occurrences : List Occurrence) (selections : List Selection) (graph : List (List ℕ)) (z x : ℕ) (ys : List ℕ) → AreNested occurrences → IsDependencyGraph occurrences selections graph
    → Covers occurrences z x → Leads (IsEdge graph) x ys
    → Leads (Before occurrences selections) z (shortened graph x ys) × Covers occurrences (last_behind z (shortened graph x ys)) (last_behind x ys)
shortened_leads occurrences selections graph z x [] nested h covers leads = (tt, covers)
shortened_leads occurrences selections graph z x (y ∷ ys) nested h covers leads =
    let step = edge_is occurrences selections graph x y h leads.0 in
    go step (nat_eq x (slice_index (predecessors graph y) 0)) refl
    (λ c. shortened_leads occurrences selections graph z y ys nested h c leads.1)
    (shortened_leads occurrences selections graph y y ys nested h (covers_same occurrences y step.target step.is_target) leads.1)
  where
    down : (step : IsStep occurrences selections graph x y) → x ≡ step.row.parent → Covers occurrences z y
    down step e =
        let number = occurrence_within occurrences x covers.inner covers.is_inner in
        covers_on occurrences z x y covers
        (subst (λ (u : ℕ). Covers occurrences u y) (sym e)
        (parent_covers occurrences y step.target step.row.parent nested step.is_target step.row.is_parent (rw (← e) number.0)))

    direct : (step : IsStep occurrences selections graph x y) → Contains step.row.uses x → Before occurrences selections z y
    direct step among =
        let number = occurrence_within occurrences x covers.inner covers.is_inner in
        before_around occurrences selections z x y covers (use_before occurrences selections y step.target x step.is_target (step.row.sound x among) number.0)

    go : (step : IsStep occurrences selections graph x y) (b : Bool) → nat_eq x (slice_index (predecessors graph y) 0) ≡ b
        → (Covers occurrences z y → Leads (Before occurrences selections) z (shortened graph y ys) × Covers occurrences (last_behind z (shortened graph y ys)) (last_behind y ys))
        → Leads (Before occurrences selections) y (shortened graph y ys) × Covers occurrences (last_behind y (shortened graph y ys)) (last_behind y ys)
        → Leads (Before occurrences selections) z (cond b (shortened graph y ys) (y ∷ shortened graph y ys))
        × Covers occurrences (last_behind z (cond b (shortened graph y ys) (y ∷ shortened graph y ys))) (last_behind y ys)
    go step true e rest fresh = rest (down step (eqb-true x (slice_index (predecessors graph y) 0) e ∙ step.top))
    go step false e rest fresh = elim step.way [
      | inl same ↦ absurd (let yes : nat_eq x (slice_index (predecessors graph y) 0) ≡ true = rw (step.top, ← same) (nat_eq_same x) in cc)
      | inr among ↦ ((direct step among, fresh.0), fresh.1)
    ]

-- by going down alone the numbers rise
down_rises : (occurrences : List Occurrence) (selections : List Selection) (graph : List (List ℕ)) (x : ℕ) (ys : List ℕ) → IsDependencyGraph occurrences selections graph
    → Leads (IsEdge graph) x ys → shortened graph x ys ≡ [] → x + length ys ≤ last_behind x ys
down_rises occurrences selections graph x [] h leads none = omega arith
down_rises occurrences selections graph x (y ∷ ys) h leads none =
    go (edge_is occurrences selections graph x y h leads.0) (nat_eq x (slice_index (predecessors graph y) 0)) refl none (down_rises occurrences selections graph y ys h leads.1)
  where
    go : (step : IsStep occurrences selections graph x y) (b : Bool) → nat_eq x (slice_index (predecessors graph y) 0) ≡ b → cond b (shortened graph y ys) (y ∷ shortened graph y ys) ≡ []
        → (shortened graph y ys ≡ [] → y + length ys ≤ last_behind y ys) → x + suc (length ys) ≤ last_behind y ys
    go step true e none rest =
        let same : x ≡ step.row.parent = eqb-true x (slice_index (predecessors graph y) 0) e ∙ step.top in
        let number = occurrence_within occurrences y step.target step.is_target in
        let less : x ≤ y - 1 = rw same step.row.is_parent.within in
        omega (arith, rest none, less, number)
    go step false e none rest = cc

not_in-shortened : (graph : List (List ℕ)) (x : ℕ) (ys : List ℕ) (w : ℕ) → is_in ys w ≡ false → is_in (shortened graph x ys) w ≡ false
not_in-shortened graph x [] w h = refl
not_in-shortened graph x (y ∷ ys) w h =
    let p = both_false (nat_eq w y) (is_in ys w) h in
    go (nat_eq x (slice_index (predecessors graph y) 0)) p.0 (not_in-shortened graph y ys w p.1)
  where
    go : (b : Bool) → nat_eq w y ≡ false → is_in (shortened graph y ys) w ≡ false → is_in (cond b (shortened graph y ys) (y ∷ shortened graph y ys)) w ≡ false
    go true other rest = rest
    go false other rest = rw other rest

distinct-shortened : (graph : List (List ℕ)) (x : ℕ) (ys : List ℕ) → IsDistinct nat_eq ys → IsDistinct nat_eq (shortened graph x ys)
distinct-shortened graph x [] h = h
distinct-shortened graph x (y ∷ ys) h =
    go (nat_eq x (slice_index (predecessors graph y) 0)) (distinct-shortened graph y ys (distinct-tail y ys h)) (not_in-shortened graph y ys y (distinct-head y ys h))
  where
    go : (b : Bool) → IsDistinct nat_eq (shortened graph y ys) → is_in (shortened graph y ys) y ≡ false → IsDistinct nat_eq (cond b (shortened graph y ys) (y ∷ shortened graph y ys))
    go true rest new = rest
    go false rest new = distinct-cons y (shortened graph y ys) new rest

last_occurrence : (occurrences : List Occurrence) (selections : List Selection) (graph : List (List ℕ)) (u x : ℕ) (xs : List ℕ) → IsDependencyGraph occurrences selections graph
    → IsEdge graph u x → Leads (IsEdge graph) x xs → (o : Occurrence) × (occurrence_at occurrences (last_behind x xs) ≡ Some o)
last_occurrence occurrences selections graph u x [] h edge leads = edge_to occurrences selections graph u x h edge
last_occurrence occurrences selections graph u x (y ∷ ys) h edge leads = last_occurrence occurrences selections graph x y ys h leads.0 leads.1

closed : (occurrences : List Occurrence) (selections : List Selection) (graph : List (List ℕ)) (l x : ℕ) (xs chain : List ℕ) → IsDependencyGraph occurrences selections graph
    → last_behind x xs ≡ l → Leads (IsEdge graph) l (x ∷ xs) → shortened graph l (x ∷ xs) ≡ chain
    → Leads (Before occurrences selections) l chain × Covers occurrences (last_behind l chain) l → IsClosedChain (Before occurrences selections) chain
closed occurrences selections graph l x xs [] h end leads e both = absurd (omega (arith, down_rises occurrences selections graph l (x ∷ xs) h leads e, end))
closed occurrences selections graph l x xs (k ∷ ks) h end leads e both = (both.0.1, before_around occurrences selections (last_behind k ks) l k both.1 both.0.0)

-- a cycle of the graph gives a closed chain
pub chain_from_cycle : (occurrences : List Occurrence) (selections : List Selection) (graph : List (List ℕ)) (x : ℕ) (xs : List ℕ) → AreNested occurrences → IsDependencyGraph occurrences selections graph
    → IsCycle graph (x ∷ xs)
    → IsClosedChain (Before occurrences selections) (shortened graph (last_behind x xs) (x ∷ xs)) × IsDistinct nat_eq (shortened graph (last_behind x xs) (x ∷ xs))
chain_from_cycle occurrences selections graph x xs nested h cycle =
    let l : ℕ = last_behind x xs in
    let leads : Leads (IsEdge graph) l (x ∷ xs) = (cycle.0.1, cycle.0.0) in
    let there = last_occurrence occurrences selections graph l x xs h cycle.0.1 cycle.0.0 in
    let both = shortened_leads occurrences selections graph l l (x ∷ xs) nested h (covers_same occurrences l there.0 there.1) leads in
    (closed occurrences selections graph l x xs (shortened graph l (x ∷ xs)) h refl leads refl both, distinct-shortened graph l (x ∷ xs) cycle.1)

last_at : (x : ℕ) (xs : List ℕ) → slice_index (x ∷ xs) (length xs) ≡ last_behind x xs
last_at x [] = refl
last_at x (y ∷ ys) = last_at y ys

last_is : (x : ℕ) (xs : List ℕ) → slice_index (x ∷ xs) (length (x ∷ xs) - 1) ≡ last_behind x xs
last_is x xs = let place : length (x ∷ xs) - 1 ≡ length xs = omega arith in ap (slice_index (x ∷ xs)) place ∙ last_at x xs

-- the chain that a cycle gives
pub chain_is : (occurrences : List Occurrence) (selections : List Selection) (graph : List (List ℕ)) (cycle chain : List ℕ) → AreNested occurrences → IsDependencyGraph occurrences selections graph
    → IsCycle graph cycle → chain ≡ shortened graph (slice_index cycle (length cycle - 1)) cycle → IsClosedChain (Before occurrences selections) chain × IsDistinct nat_eq chain
chain_is occurrences selections graph [] chain nested h cycle e = absurd cycle.0
chain_is occurrences selections graph (x ∷ xs) chain nested h cycle e =
    let same : chain ≡ shortened graph (last_behind x xs) (x ∷ xs) = e ∙ ap (λ (l : ℕ). shortened graph l (x ∷ xs)) (last_is x xs) in
    subst (λ (chain : List ℕ). IsClosedChain (Before occurrences selections) chain × IsDistinct nat_eq chain) (sym same) (chain_from_cycle occurrences selections graph x xs nested h cycle)

leads_within : (occurrences : List Occurrence) (selections : List Selection) (graph : List (List ℕ)) (x : ℕ) (ys : List ℕ) → IsDependencyGraph occurrences selections graph → Leads (IsEdge graph) x ys
    → All (λ v. v < length graph) ys
leads_within occurrences selections graph x [] h leads = All-nil (λ v. v < length graph)
leads_within occurrences selections graph x (y ∷ ys) h leads =
    let there = edge_to occurrences selections graph x y h leads.0 in
    let number = occurrence_within occurrences y there.0 there.1 in
    All-cons (λ v. v < length graph) y ys (omega (arith, number, h.many)) (leads_within occurrences selections graph y ys h leads.1)

-- a cycle goes through vertices
pub cycle_within : (occurrences : List Occurrence) (selections : List Selection) (graph : List (List ℕ)) (cycle : List ℕ) → IsDependencyGraph occurrences selections graph → IsCycle graph cycle
    → All (λ v. v < length graph) cycle
cycle_within occurrences selections graph [] h cycle = absurd cycle.0
cycle_within occurrences selections graph (x ∷ xs) h cycle = leads_within occurrences selections graph (last_behind x xs) (x ∷ xs) h (cycle.0.1, cycle.0.0)
