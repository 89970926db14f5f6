-- Cells that are merged until numbers which are to be the same are the same.
use Rattle.std.specs.Prelude.{ℕ, ◌+◌, ◌*◌, ◌<◌, List, [], ◌∷◌, length, eqb, cond, Some, None, ◌≡◌}
use Rattle.std.specs.declared.option.Option.{Option}
use Rattle.hol_terms.specs.Terms.{SimpleType}
use Rattle.type_infer.specs.declared.cells.Cell.{Cell}
use Rattle.type_infer.specs.declared.cells.Cell.TheVariants.{Open, Same, Base, Function}
use Rattle.type_infer.specs.Cells.{cell_at, Models, IsStore}

-- both numbers of each pair are below n
abbrev pub AreBelow : ℕ → List (ℕ × ℕ) → Type 0
AreBelow n [] = Unit {0}
AreBelow n (pair ∷ pairs) = (pair.0 < n) × (pair.1 < n) × AreBelow n pairs

-- the numbers of each pair have one type
abbrev pub AllSame : (ℕ → SimpleType) → List (ℕ × ℕ) → Type 0
AllSame types [] = Unit {0}
AllSame types (pair ∷ pairs) = (types pair.0 ≡ types pair.1) × AllSame types pairs

-- the cell isn't that of another number
abbrev pub IsRoot : Cell → Type 0
IsRoot Open = Unit {0}
IsRoot (Same j) = ⊥
IsRoot (Base letter) = Unit {0}
IsRoot (Function j k) = Unit {0}

-- the number stands for the start
pub record StandsFor (cells : List Cell) (start root : ℕ) : Type 0 where
  pub inside : root < length cells
  pub is_root : IsRoot (cell_at cells root)
  pub same : (types : ℕ → SimpleType) → Models types cells → types start ≡ types root

-- what two cells of one type say together, and what is left to be the same; none where they can't be of one type
abbrev pub kept_cell : Cell → Cell → Option Cell
kept_cell Open c = Some c
kept_cell (Same j) c = None
kept_cell (Base letter) Open = Some (Base letter)
kept_cell (Base letter) (Same j) = None
kept_cell (Base letter) (Base other) = cond (eqb letter.byte other.byte) (Some (Base letter)) None
kept_cell (Base letter) (Function j k) = None
kept_cell (Function j k) Open = Some (Function j k)
kept_cell (Function j k) (Same l) = None
kept_cell (Function j k) (Base letter) = None
kept_cell (Function j k) (Function l m) = Some (Function j k)

abbrev pub part_pairs : Cell → Cell → List (ℕ × ℕ)
part_pairs Open c = []
part_pairs (Same j) c = []
part_pairs (Base letter) c = []
part_pairs (Function j k) Open = []
part_pairs (Function j k) (Same l) = []
part_pairs (Function j k) (Base letter) = []
part_pairs (Function j k) (Function l m) = (j, l) ∷ (k, m) ∷ []

-- the new cells with the pairs that are left say what the old ones say with the given pairs
pub record Merges (old new : List Cell) (given left : List (ℕ × ℕ)) : Type 0 where
  pub store : IsStore new
  pub as_long : length new ≡ length old
  pub below : AreBelow (length new) left
  pub keeps : (types : ℕ → SimpleType) → Models types new → AllSame types left → Models types old × AllSame types given
  pub goes_on : (types : ℕ → SimpleType) → Models types old → AllSame types given → Models types new × AllSame types left

-- how many cells aren't those of other numbers
abbrev pub root_weight : Cell → ℕ
root_weight Open = 1
root_weight (Same j) = 0
root_weight (Base letter) = 1
root_weight (Function j k) = 1

abbrev pub roots : List Cell → ℕ
roots [] = 0
roots (cell ∷ cells) = root_weight cell + roots cells

-- what is left to do
abbrev pub weight : List Cell → List (ℕ × ℕ) → ℕ
weight cells pairs = 2 * roots cells + length pairs

-- the new cells say what the old ones say, by shorter ways from number to number
pub record Halves (old new : List Cell) : Type 0 where
  pub store : IsStore new
  pub as_long : length new ≡ length old
  pub keeps : (types : ℕ → SimpleType) → Models types new → Models types old
  pub goes_on : (types : ℕ → SimpleType) → Models types old → Models types new
  pub roots_kept : (i : ℕ) → IsRoot (cell_at old i) → IsRoot (cell_at new i)
  pub as_many : roots new ≡ roots old

-- number j is lower than i, and of the same type
pub record LeadsTo (cells : List Cell) (i j : ℕ) : Type 0 where
  pub lower : j < i
  pub same : (types : ℕ → SimpleType) → Models types cells → types i ≡ types j
