-- A walk through a graph against its edges: which vertices wait for others, and which are placed.
use Rattle.std.specs.Prelude.{◌≡◌, ◌+◌, ◌-◌, ◌<◌, ◌≤◌, ℕ, if◌then◌else◌, Bool, true, false, List, [], ◌∷◌, ◌++◌, All, length, nat_eq, reverse, slice_index, slice_index_or, take}
use Rattle.std.specs.List.{IsDistinct, list_any}
use Rattle.dependency.specs.declared.graphs.Mark.{Mark}
use Rattle.dependency.specs.declared.graphs.Mark.TheVariants.{Unseen, Waiting, Placed}
use Rattle.dependency.specs.declared.graphs.Walk.{Walk}
use Rattle.dependency.specs.declared.graphs.Sorting.{Sorting}
use Rattle.dependency.specs.declared.graphs.Sorting.TheVariants.{Order, Cycle}
use Rattle.dependency.specs.Graphs.{predecessors, IsEdge, Leads, IsCycle, IsTopological}

-- the number is in the list
abbrev pub is_in : List ℕ → ℕ → Bool
is_in list v = list_any (nat_eq v) list

-- the mark of a vertex
abbrev pub mark_of : List Mark → ℕ → Mark
mark_of marks v = slice_index_or marks v Unseen

abbrev pub is_unseen : Mark → Bool
is_unseen Unseen = true
is_unseen (Waiting k) = false
is_unseen Placed = false

abbrev pub is_waiting : Mark → Bool
is_waiting Unseen = false
is_waiting (Waiting k) = true
is_waiting Placed = false

abbrev pub is_placed : Mark → Bool
is_placed Unseen = false
is_placed (Waiting k) = false
is_placed Placed = true

-- each of the list is related to the next
abbrev pub IsLinked : (ℕ → ℕ → Type 0) → List ℕ → Type 0
IsLinked R [] = Unit {0}
IsLinked R (x ∷ xs) = Leads R x xs

-- all numbers of the second list are in the first
abbrev pub AllIn : List ℕ → List ℕ → Type 0
AllIn list vs = All (λ v. is_in list v ≡ true) vs

-- marks of vertices with the lists of those that wait, the newest last, and of those that are placed
pub record AreMarked (graph : List (List ℕ)) (marks : List Mark) (waiting placed : List ℕ) : Type 0 where
  pub many : length marks ≡ length graph
  pub waits : (v : ℕ) → is_in waiting v ≡ is_waiting (mark_of marks v)
  pub stands : (v : ℕ) → is_in placed v ≡ is_placed (mark_of marks v)
  -- a vertex waits for the next of its predecessors: those before it are placed
  pub looked : (v k : ℕ) → mark_of marks v ≡ Waiting k → (k ≤ length (predecessors graph v)) × AllIn placed (take k (predecessors graph v))
  -- each is a predecessor of the one that waits for it
  pub linked : IsLinked (IsEdge graph) (reverse waiting)
  pub waits_once : IsDistinct nat_eq (reverse waiting)
  pub placed_once : IsDistinct nat_eq placed
  -- the predecessors of what is placed were placed before
  pub behind : (i : ℕ) → i < length placed → AllIn (take i placed) (predecessors graph (slice_index placed i))

abbrev pub IsWalk : List (List ℕ) → Walk → Type 0
IsWalk graph walk = AreMarked graph walk.marks.items walk.waiting.items walk.placed.items

-- the newest vertex that waits; a predecessor of it is linked to it
pub record IsNewest (graph : List (List ℕ)) (marks : List Mark) (waiting : List ℕ) (v : ℕ) : Type 0 where
  pub last : waiting ≡ take (length waiting - 1) waiting ++ v ∷ []
  pub waits : is_waiting (mark_of marks v) ≡ true
  pub within : v < length marks
  pub vertex : v < length graph
  pub leads : (u : ℕ) → IsEdge graph u v → Leads (IsEdge graph) u (reverse waiting)

-- how many steps a vertex takes at most: one to come to it, one for each predecessor that isn't placed yet, and one to be placed
abbrev pub steps_at : List ℕ → Mark → ℕ
steps_at row Unseen = length row + 2
steps_at row (Waiting k) = length row + 1 - k
steps_at row Placed = 0

-- how many steps are left at most
abbrev pub steps_left : List (List ℕ) → List Mark → ℕ
steps_left [] marks = 0
steps_left (row ∷ rows) [] = steps_at row Unseen + steps_left rows []
steps_left (row ∷ rows) (mark ∷ marks) = steps_at row mark + steps_left rows marks

-- a topological order, or a cycle
abbrev pub IsSortingOf : List (List ℕ) → Sorting → Type 0
IsSortingOf graph (Order list) = IsTopological graph list.items
IsSortingOf graph (Cycle list) = IsCycle graph list.items

-- a prefix of a list that ends with the first v
abbrev pub up_to : ℕ → List ℕ → List ℕ
up_to v [] = []
up_to v (x ∷ xs) = if nat_eq v x then x ∷ [] else x ∷ up_to v xs

-- the vertex waits, and is a predecessor of the newest one that waits
abbrev pub Meets : List (List ℕ) → Walk → ℕ → Type 0
Meets graph walk v = Leads (IsEdge graph) v (reverse walk.waiting.items) × (is_in walk.waiting.items v ≡ true)
