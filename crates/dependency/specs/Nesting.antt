-- How the branches of occurrences nest, and the graph of the dependency relation.
use Rattle.std.specs.Prelude.{◌≡◌, ◌+◌, ◌-◌, ◌<◌, ◌≤◌, ◌⊎◌, ℕ, List, [], ◌∷◌, Contains, length, nat_eq, Some, slice_get, slice_index, if◌then◌else◌}
use Rattle.hol_terms.specs.FreeVariables.{IsFree}
use Rattle.expansion_tree.specs.Occurrences.{Occurrence}
use Rattle.expansion_tree.specs.Standing.{Selection}
use Rattle.dependency.specs.Graphs.{predecessors}
use Rattle.dependency.specs.Dependencies.{occurrence_at, IsNodeOf}

-- occurrences come in the order of their first nodes, and the branches of two of them are apart or one stands in the other
pub record AreNested (occurrences : List Occurrence) : Type 0 where
  pub some : (e : ℕ) (o : Occurrence) → occurrence_at occurrences e ≡ Some o → o.first ≤ o.last
  pub rising : (e f : ℕ) (o p : Occurrence) → occurrence_at occurrences e ≡ Some o → occurrence_at occurrences f ≡ Some p → e < f → o.first < p.first
  pub apart : (e f : ℕ) (o p : Occurrence) → occurrence_at occurrences e ≡ Some o → occurrence_at occurrences f ≡ Some p → e < f → (o.last < p.first) ⊎ (p.last ≤ o.last)

-- up to a bound the last occurrence whose branch doesn't end before the node, or 0 where there is none
pub record IsInnermost (occurrences : List Occurrence) (bound node e : ℕ) : Type 0 where
  pub within : e ≤ bound
  pub reaches : (o : Occurrence) → occurrence_at occurrences e ≡ Some o → node ≤ o.last
  pub past : (f : ℕ) (o : Occurrence) → e < f → f ≤ bound → occurrence_at occurrences f ≡ Some o → o.last < node

-- the last occurrence whose branch has the node, or 0 where there is none
pub record IsOwner (occurrences : List Occurrence) (node e : ℕ) : Type 0 where
  pub within : e ≤ length occurrences
  pub around : (o : Occurrence) → occurrence_at occurrences e ≡ Some o → IsNodeOf node o
  pub past : (f : ℕ) (o : Occurrence) → e < f → occurrence_at occurrences f ≡ Some o → IsNodeOf node o → ⊥

-- a selected variable that is free in the term of an occurrence has its node in branch e, and in none within
pub record IsUse (occurrences : List Occurrence) (selections : List Selection) (p : Occurrence) (e : ℕ) : Type 0 where
  pub selection : Selection
  pub selected : Contains selections selection
  pub used : IsFree selection.variable.0 selection.variable.1 p.term
  pub owner : IsOwner occurrences selection.node e

-- the predecessors of an occurrence: the one right above it, and those in whose branches stand the variables of its term
pub record IsRow (occurrences : List Occurrence) (selections : List Selection) (f : ℕ) (p : Occurrence) (row : List ℕ) : Type 0 where
  pub parent : ℕ
  pub uses : List ℕ
  pub row_is : row ≡ parent ∷ uses
  pub is_parent : IsInnermost occurrences (f - 1) p.first parent
  pub sound : (e : ℕ) → Contains uses e → IsUse occurrences selections p e
  pub complete : (s : Selection) → Contains selections s → IsFree s.variable.0 s.variable.1 p.term → (e : ℕ) × Contains uses e × IsOwner occurrences s.node e

-- the graph of the occurrences, where 0 stands for the whole tree, which is above all of them
pub record IsDependencyGraph (occurrences : List Occurrence) (selections : List Selection) (graph : List (List ℕ)) : Type 0 where
  pub many : length graph ≡ length occurrences + 1
  pub root : predecessors graph 0 ≡ []
  pub rows : (f : ℕ) (p : Occurrence) → occurrence_at occurrences f ≡ Some p → IsRow occurrences selections f p (predecessors graph f)

-- those of the list that aren't reached from the one before them, the first of them from x, by going down to an occurrence right below
abbrev pub shortened : List (List ℕ) → ℕ → List ℕ → List ℕ
shortened graph x [] = []
shortened graph x (y ∷ ys) = if nat_eq x (slice_index (predecessors graph y) 0) then shortened graph y ys else y ∷ shortened graph y ys

-- none of the occurrences after e, up to a bound, reaches the node
abbrev pub IsPast : List Occurrence → ℕ → ℕ → ℕ → Type 0
IsPast occurrences e bound node = (f : ℕ) (o : Occurrence) → e < f → f ≤ bound → occurrence_at occurrences f ≡ Some o → o.last < node

-- at each number the occurrence right above, or 0
abbrev pub AreParents : List Occurrence → List ℕ → Type 0
AreParents occurrences parents = (e : ℕ) (o : Occurrence) → e < length parents → occurrence_at occurrences e ≡ Some o → IsInnermost occurrences (e - 1) o.first (slice_index parents e)

-- selected variables come in the order of their nodes, and each is selected once
pub record AreSelections (selections : List Selection) : Type 0 where
  pub rising : (i j : ℕ) (s t : Selection) → slice_get selections i ≡ Some s → slice_get selections j ≡ Some t → i < j → s.node ≤ t.node
  pub once : (i j : ℕ) (s t : Selection) → slice_get selections i ≡ Some s → slice_get selections j ≡ Some t → s.variable ≡ t.variable → i ≡ j

-- of the occurrences that begin up to the node, so many were opened, and none after the innermost of them reaches it
pub record IsScanned (occurrences : List Occurrence) (opened innermost node : ℕ) : Type 0 where
  pub within : opened ≤ length occurrences
  pub among : innermost ≤ opened
  pub started : (f : ℕ) (o : Occurrence) → f ≤ opened → occurrence_at occurrences f ≡ Some o → o.first ≤ node
  pub past : IsPast occurrences innermost opened node

-- at each place the owner of the selected variable there
abbrev pub AreOwners : List Occurrence → List Selection → List ℕ → Type 0
AreOwners occurrences selections owners = (k : ℕ) (s : Selection) → k < length owners → slice_get selections k ≡ Some s → IsOwner occurrences s.node (slice_index owners k)
