-- Finite graphs with vertices counted from 0, as the lists of predecessors of each vertex; topological orders and cycles.
use Rattle.std.specs.Prelude.{◌≡◌, ◌<◌, ℕ, List, [], ◌∷◌, All, Contains, length, map, nat_eq, slice_get, slice_index_or, Some, Vec}
use Rattle.std.specs.List.{IsDistinct}
use Rattle.std.specs.declared.alloc.Global.{Global}

-- the rows of a table, as lists
abbrev pub row_lists : List (Vec ℕ Global) → List (List ℕ)
row_lists rows = map (λ (row : Vec ℕ Global). row.items) rows

-- the predecessors of a vertex
abbrev pub predecessors : List (List ℕ) → ℕ → List ℕ
predecessors graph v = slice_index_or graph v []

-- an edge leads from u to v: u is a predecessor of v
abbrev pub IsEdge : List (List ℕ) → ℕ → ℕ → Type 0
IsEdge graph u v = Contains (predecessors graph v) u

-- each predecessor is a vertex
abbrev pub IsGraph : List (List ℕ) → Type 0
IsGraph graph = (u v : ℕ) → IsEdge graph u v → u < length graph

-- x is related to the first of the list, and each of the list to the next
abbrev pub Leads : (ℕ → ℕ → Type 0) → ℕ → List ℕ → Type 0
Leads R x [] = Unit {0}
Leads R x (y ∷ ys) = R x y × Leads R y ys

-- the last of the list, and x where it is empty
abbrev pub last_behind : ℕ → List ℕ → ℕ
last_behind x [] = x
last_behind x (y ∷ ys) = last_behind y ys

-- a nonempty list, each of which is related to the next and the last to the first
abbrev pub IsClosedChain : (ℕ → ℕ → Type 0) → List ℕ → Type 0
IsClosedChain R [] = ⊥
IsClosedChain R (x ∷ xs) = Leads R x xs × R (last_behind x xs) x

-- a closed chain of edges in which no vertex stands twice
abbrev pub IsCycle : List (List ℕ) → List ℕ → Type 0
IsCycle graph list = IsClosedChain (IsEdge graph) list × IsDistinct nat_eq list

-- where x is related to y, its place in the list is before that of y
abbrev pub StandsInOrder : (ℕ → ℕ → Type 0) → List ℕ → Type 0
StandsInOrder R list = (i j x y : ℕ) → slice_get list i ≡ Some x → slice_get list j ≡ Some y → R x y → i < j

-- all vertices, each once, and each after its predecessors
pub record IsTopological (graph : List (List ℕ)) (list : List ℕ) : Type 0 where
  pub vertices : All (λ v. v < length graph) list
  pub all : (v : ℕ) → v < length graph → Contains list v
  pub once : IsDistinct nat_eq list
  pub behind : StandsInOrder (IsEdge graph) list
