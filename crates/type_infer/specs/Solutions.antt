-- The types that meet conditions, as those of shapes whose open ones may have any type.
use Rattle.std.specs.Prelude.{ℕ, zero, suc, List}
use Rattle.hol_terms.specs.Terms.{SimpleType, base_type, function_type}
use Rattle.type_infer.specs.declared.cells.Cell.{Cell}
use Rattle.type_infer.specs.declared.cells.Cell.TheVariants.{Open, Same, Base, Function}
use Rattle.type_infer.specs.declared.ordering.Mark.{Mark}
use Rattle.type_infer.specs.Cells.{cell_at, Models, AgreeBelow}
use Rattle.type_infer.specs.Conditions.{PlainCondition, MeetsAll}
use Rattle.type_infer.specs.Ordering.{AreShapes, placed}

-- what meets the conditions is what the shapes give to the numbers
pub record Solves (count : ℕ) (conditions : List PlainCondition) (marks : List Mark) (shapes : List Cell) : Type 0 where
  pub are_shapes : AreShapes shapes
  pub keeps : (types : ℕ → SimpleType) → Models types shapes → (names : List ℕ → SimpleType) × MeetsAll names (placed types marks) conditions
  pub goes_on : (names : List ℕ → SimpleType) (types : ℕ → SimpleType) → MeetsAll names types conditions
      → (others : ℕ → SimpleType) × Models others shapes × AgreeBelow count types (placed others marks)

-- the type of a shape from those of its parts, where the open ones are a letter
abbrev pub type_of_cell : ℕ → (ℕ → SimpleType) → Cell → SimpleType
type_of_cell letter types Open = base_type letter
type_of_cell letter types (Same j) = base_type letter
type_of_cell letter types (Base other) = base_type other.byte
type_of_cell letter types (Function j k) = function_type (types j) (types k)

-- the same by steps, of which shape k needs k + 1
abbrev pub type_by : ℕ → List Cell → ℕ → ℕ → SimpleType
type_by letter shapes zero k = base_type letter
type_by letter shapes (suc steps) k = type_of_cell letter (type_by letter shapes steps) (cell_at shapes k)

-- the types of shapes whose open ones are the letter
abbrev pub filled : ℕ → List Cell → ℕ → SimpleType
filled letter shapes k = type_by letter shapes (suc k) k

-- the types of numbers by such shapes
abbrev pub filled_types : ℕ → List Mark → List Cell → ℕ → SimpleType
filled_types letter marks shapes = placed (filled letter shapes) marks
