-- Cells in an order in which parts come before wholes: their shapes.
use Rattle.std.specs.Prelude.{ℕ, ◌+◌, ◌<◌, List, [], ◌∷◌, length, get_or, set, ◌≡◌, ◌⊎◌}
use Rattle.hol_terms.specs.Terms.{SimpleType, base_type, function_type}
use Rattle.type_infer.specs.declared.cells.Cell.{Cell}
use Rattle.type_infer.specs.declared.cells.Cell.TheVariants.{Open, Same, Base, Function}
use Rattle.type_infer.specs.declared.ordering.Mark.{Mark}
use Rattle.type_infer.specs.declared.ordering.Mark.TheVariants.{New, Waiting, Done}
use Rattle.type_infer.specs.Cells.{HoldsAt, cell_at, Models}

abbrev pub mark_at : List Mark → ℕ → Mark
mark_at marks i = get_or marks i New

abbrev pub IsDone : Mark → Type 0
IsDone New = ⊥
IsDone Waiting = ⊥
IsDone (Done k) = Unit {0}

abbrev pub IsWaiting : Mark → Type 0
IsWaiting New = ⊥
IsWaiting Waiting = Unit {0}
IsWaiting (Done k) = ⊥

abbrev pub IsSeen : Mark → Type 0
IsSeen New = ⊥
IsSeen Waiting = Unit {0}
IsSeen (Done k) = Unit {0}

-- the number of the shape
abbrev pub number_of : Mark → ℕ
number_of New = 0
number_of Waiting = 0
number_of (Done k) = k

-- the types of cells by those of shapes
abbrev pub placed : (ℕ → SimpleType) → List Mark → ℕ → SimpleType
placed types marks i = types (number_of (mark_at marks i))

-- shape k has its parts before it, and isn't that of another number
abbrev pub IsShape : ℕ → Cell → Type 0
IsShape k Open = Unit {0}
IsShape k (Same j) = ⊥
IsShape k (Base letter) = Unit {0}
IsShape k (Function i j) = (i < k) × (j < k)

abbrev pub AreShapes : List Cell → Type 0
AreShapes shapes = (k : ℕ) → IsShape k (cell_at shapes k)

-- number i is that of a part of the cell
abbrev pub IsPart : ℕ → Cell → Type 0
IsPart i Open = ⊥
IsPart i (Same j) = i ≡ j
IsPart i (Base letter) = ⊥
IsPart i (Function j k) = (i ≡ j) ⊎ (i ≡ k)

-- the parts of the cell have shapes
abbrev pub ArePartsDone : List Mark → Cell → Type 0
ArePartsDone marks Open = Unit {0}
ArePartsDone marks (Same j) = IsDone (mark_at marks j)
ArePartsDone marks (Base letter) = Unit {0}
ArePartsDone marks (Function j k) = IsDone (mark_at marks j) × IsDone (mark_at marks k)

-- the shapes say of the cells that are done what the cells say, and no more
pub record IsOrdered (cells : List Cell) (marks : List Mark) (shapes : List Cell) : Type 0 where
  pub as_long : length marks ≡ length cells
  pub are_shapes : AreShapes shapes
  pub inside : (i : ℕ) → IsDone (mark_at marks i) → number_of (mark_at marks i) < length shapes
  pub parts : (i : ℕ) → IsDone (mark_at marks i) → ArePartsDone marks (cell_at cells i)
  pub keeps : (types : ℕ → SimpleType) → Models types shapes → (i : ℕ) → IsDone (mark_at marks i) → HoldsAt (placed types marks) i (cell_at cells i)
  pub goes_on : (types : ℕ → SimpleType) → Models types cells
      → (others : ℕ → SimpleType) × Models others shapes × ((i : ℕ) → IsDone (mark_at marks i) → types i ≡ placed others marks i)

-- all cells are done
pub record Orders (cells : List Cell) (marks : List Mark) (shapes : List Cell) : Type 0 where
  pub ordered : IsOrdered cells marks shapes
  pub all : (i : ℕ) → i < length cells → IsDone (mark_at marks i)

abbrev pub IsIn : ℕ → List ℕ → Type 0
IsIn i [] = ⊥
IsIn i (j ∷ path) = (i ≡ j) ⊎ IsIn i path

abbrev pub IsOnce : List ℕ → Type 0
IsOnce [] = Unit {0}
IsOnce (i ∷ path) = (IsIn i path → ⊥) × IsOnce path

abbrev pub size_of : SimpleType → ℕ
size_of (base_type l) = 1
size_of (function_type r s) = size_of r + size_of s + 1

-- a smaller type, or one as large at a lower number
abbrev pub IsLower : (ℕ → SimpleType) → ℕ → ℕ → Type 0
IsLower types i j = (size_of (types i) < size_of (types j)) ⊎ ((size_of (types i) ≡ size_of (types j)) × (i < j))

abbrev pub Falls : (ℕ → SimpleType) → List ℕ → Type 0
Falls types [] = Unit {0}
Falls types (i ∷ path) = ((j : ℕ) → IsIn j path → IsLower types i j) × Falls types path

-- the cells that wait for parts, the last one first: each is below those that wait for it
pub record IsPath (cells : List Cell) (marks : List Mark) (path : List ℕ) : Type 0 where
  pub waits : (i : ℕ) → IsWaiting (mark_at marks i) → IsIn i path
  pub marked : (i : ℕ) → IsIn i path → IsWaiting (mark_at marks i)
  pub once : IsOnce path
  pub falls : (types : ℕ → SimpleType) → Models types cells → Falls types path

-- the cell is done, and nothing else has changed
pub record Finishes (old new : List Mark) (i : ℕ) : Type 0 where
  pub number : ℕ
  pub finished : new ≡ set old i (Done number)

-- how much is left to do
abbrev pub mark_weight : Mark → ℕ
mark_weight New = 2
mark_weight Waiting = 1
mark_weight (Done k) = 0

abbrev pub marks_weight : List Mark → ℕ
marks_weight [] = 0
marks_weight (mark ∷ marks) = mark_weight mark + marks_weight marks

-- what was done stays so, and the number is seen
pub record GoesOn (old new : List Mark) (start : ℕ) : Type 0 where
  pub still : (i : ℕ) → IsDone (mark_at old i) → IsDone (mark_at new i)
  pub seen : IsSeen (mark_at new start)

-- the parts of the cell are among n cells
abbrev pub ArePartsInside : ℕ → Cell → Type 0
ArePartsInside n Open = Unit {0}
ArePartsInside n (Same j) = Unit {0}
ArePartsInside n (Base letter) = Unit {0}
ArePartsInside n (Function j k) = (j < n) × (k < n)

-- the shape of a cell, from those of its parts
abbrev pub shape_of : List Mark → Cell → Cell
shape_of marks Open = Open
shape_of marks (Same j) = Same j
shape_of marks (Base letter) = Base letter
shape_of marks (Function j k) = Function (number_of (mark_at marks j)) (number_of (mark_at marks k))
