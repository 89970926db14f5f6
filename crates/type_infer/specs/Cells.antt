-- Numbered cells as what they say of an assignment of types to their numbers.
use Rattle.std.specs.Prelude.{ℕ, ◌<◌, ◌≤◌, List, length, get_or, ◌≡◌}
use Rattle.hol_terms.specs.Terms.{SimpleType, base_type, function_type}
use Rattle.type_infer.specs.declared.cells.Cell.{Cell}
use Rattle.type_infer.specs.declared.cells.Cell.TheVariants.{Open, Same, Base, Function}

-- cell i says this of the types
abbrev pub HoldsAt : (ℕ → SimpleType) → ℕ → Cell → Type 0
HoldsAt types i Open = Unit {0}
HoldsAt types i (Same j) = types i ≡ types j
HoldsAt types i (Base letter) = types i ≡ base_type letter.byte
HoldsAt types i (Function j k) = types i ≡ function_type (types j) (types k)

-- past the end the cells say nothing
abbrev pub cell_at : List Cell → ℕ → Cell
cell_at cells i = get_or cells i Open

-- the types are as all cells say
abbrev pub Models : (ℕ → SimpleType) → List Cell → Type 0
Models types cells = (i : ℕ) → HoldsAt types i (cell_at cells i)

-- cell i, among n cells, has its parts among them, and goes back where it is the same as another one
abbrev pub IsCell : ℕ → ℕ → Cell → Type 0
IsCell n i Open = Unit {0}
IsCell n i (Same j) = j < i
IsCell n i (Base letter) = Unit {0}
IsCell n i (Function j k) = (j < n) × (k < n)

abbrev pub IsStore : List Cell → Type 0
IsStore cells = (i : ℕ) → IsCell (length cells) i (cell_at cells i)

-- the two give the same type to each number below n
abbrev pub AgreeBelow : ℕ → (ℕ → SimpleType) → (ℕ → SimpleType) → Type 0
AgreeBelow n types others = (i : ℕ) → i < n → types i ≡ others i

-- the second cells say no more than the first of the numbers of the first
pub record Extends (old new : List Cell) : Type 0 where
  pub longer : length old ≤ length new
  pub keeps : (types : ℕ → SimpleType) → Models types new → Models types old
  pub goes_on : (types : ℕ → SimpleType) → Models types old → (others : ℕ → SimpleType) × AgreeBelow (length old) others types × Models others new

-- number i has the type, whatever types are as the new cells say
pub record AddsType (old new : List Cell) (s : SimpleType) (i : ℕ) : Type 0 where
  pub extends : Extends old new
  pub store : IsStore new
  pub inside : i < length new
  pub gives : (types : ℕ → SimpleType) → Models types new → types i ≡ s
