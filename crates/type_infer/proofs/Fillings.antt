-- Shapes whose open ones are a letter.
use Rattle.std.proofs.Common.{ℕ, zero, suc, ◌<◌, List, ◌≡◌, refl, sym, ap, ap₂, ◌∙◌, subst, arith, inl, inr}
use Rattle.hol_terms.specs.Terms.{SimpleType, base_type, function_type}
use Rattle.hol_terms.specs.declared.letters.Letter.{Letter}
use Rattle.type_infer.specs.declared.cells.Cell.{Cell}
use Rattle.type_infer.specs.declared.cells.Cell.TheVariants.{Open, Same, Base, Function}
use Rattle.type_infer.specs.Cells.{HoldsAt, cell_at, Models}
use Rattle.type_infer.specs.Ordering.{IsShape, AreShapes}
use Rattle.type_infer.specs.Solutions.{type_of_cell, type_by, filled}
use Rattle.type_infer.specs.Spans.{TypeSpans}

-- the type of a cell by those of its parts alone
cell_by : (letter k : ℕ) (u v : ℕ → SimpleType) (c : Cell) → IsShape k c → ((i : ℕ) → i < k → u i ≡ v i) → type_of_cell letter u c ≡ type_of_cell letter v c
cell_by letter k u v Open h same = refl
cell_by letter k u v (Same j) h same = refl
cell_by letter k u v (Base other) h same = refl
cell_by letter k u v (Function i j) h same = ap₂ function_type (same i h.0) (same j h.1)

-- the number of steps doesn't matter, where it is large enough
by_steps : (letter : ℕ) (shapes : List Cell) → AreShapes shapes → (m n k : ℕ) → k < m → k < n → type_by letter shapes m k ≡ type_by letter shapes n k
by_steps letter shapes are zero n k l g = absurd (omega arith)
by_steps letter shapes are (suc m) zero k l g = absurd (omega arith)
by_steps letter shapes are (suc m) (suc n) k l g =
    cell_by letter k (type_by letter shapes m) (type_by letter shapes n) (cell_at shapes k) (are k)
    (λ i less. by_steps letter shapes are m n i (omega arith) (omega arith))

-- a filled shape, by its parts
pub filled_by : (letter : ℕ) (shapes : List Cell) (k : ℕ) → AreShapes shapes → filled letter shapes k ≡ type_of_cell letter (filled letter shapes) (cell_at shapes k)
filled_by letter shapes k are =
    cell_by letter k (type_by letter shapes k) (filled letter shapes) (cell_at shapes k) (are k)
    (λ i less. by_steps letter shapes are k (suc i) i less (omega arith))

pub filled_open : (letter : ℕ) (shapes : List Cell) (k : ℕ) → AreShapes shapes → Open ≡ cell_at shapes k → base_type letter ≡ filled letter shapes k
filled_open letter shapes k are e = ap (type_of_cell letter (filled letter shapes)) e ∙ sym (filled_by letter shapes k are)

pub filled_same : (letter : ℕ) (shapes : List Cell) (k j : ℕ) → AreShapes shapes → Same j ≡ cell_at shapes k → base_type letter ≡ filled letter shapes k
filled_same letter shapes k j are e = ap (type_of_cell letter (filled letter shapes)) e ∙ sym (filled_by letter shapes k are)

pub filled_base : (letter : ℕ) (shapes : List Cell) (k : ℕ) (other : Letter) → AreShapes shapes → Base other ≡ cell_at shapes k → base_type other.byte ≡ filled letter shapes k
filled_base letter shapes k other are e = ap (type_of_cell letter (filled letter shapes)) e ∙ sym (filled_by letter shapes k are)

pub filled_function : (letter : ℕ) (shapes : List Cell) (k i j : ℕ) (r s : SimpleType) → AreShapes shapes → Function i j ≡ cell_at shapes k
    → r ≡ filled letter shapes i → s ≡ filled letter shapes j → function_type r s ≡ filled letter shapes k
filled_function letter shapes k i j r s are e er es =
    ap₂ function_type er es ∙ ap (type_of_cell letter (filled letter shapes)) e ∙ sym (filled_by letter shapes k are)

pub parts_before : (shapes : List Cell) (k i j : ℕ) → AreShapes shapes → Function i j ≡ cell_at shapes k → (i < k) × (j < k)
parts_before shapes k i j are e = subst (IsShape k) (sym e) (are k)

-- what holds of a filled shape

holds_filled : (letter k : ℕ) (types : ℕ → SimpleType) (c : Cell) → IsShape k c → types k ≡ type_of_cell letter types c → HoldsAt types k c
holds_filled letter k types Open h e = tt
holds_filled letter k types (Same j) h e = absurd h
holds_filled letter k types (Base other) h e = e
holds_filled letter k types (Function i j) h e = e

pub filled_models : (letter : ℕ) (shapes : List Cell) → AreShapes shapes → Models (filled letter shapes) shapes
filled_models letter shapes are k = holds_filled letter k (filled letter shapes) (cell_at shapes k) (are k) (filled_by letter shapes k are)

-- open shapes are I in one filling and O in another, and anything in a third

spans_cell : (k : ℕ) (u v w : ℕ → SimpleType) (c : Cell) → IsShape k c → HoldsAt w k c → ((i : ℕ) → i < k → TypeSpans (u i) (v i) (w i))
    → TypeSpans (type_of_cell 73 u c) (type_of_cell 79 v c) (w k)
spans_cell k u v w Open h holds parts = inr (refl, refl)
spans_cell k u v w (Same j) h holds parts = absurd h
spans_cell k u v w (Base letter) h holds parts = inl (refl, holds)
spans_cell k u v w (Function i j) h holds parts = (v i, v j, w i, w j, refl, holds, parts i h.0, parts j h.1)

spans_by : (shapes : List Cell) (w : ℕ → SimpleType) → AreShapes shapes → Models w shapes → (n k : ℕ) → k < n → TypeSpans (type_by 73 shapes n k) (type_by 79 shapes n k) (w k)
spans_by shapes w are models zero k l = absurd (omega arith)
spans_by shapes w are models (suc n) k l =
    spans_cell k (type_by 73 shapes n) (type_by 79 shapes n) w (cell_at shapes k) (are k) (models k) (λ i less. spans_by shapes w are models n i (omega arith))

pub filled_spans : (shapes : List Cell) (w : ℕ → SimpleType) → AreShapes shapes → Models w shapes → (k : ℕ) → TypeSpans (filled 73 shapes k) (filled 79 shapes k) (w k)
filled_spans shapes w are models k = spans_by shapes w are models (suc k) k (omega arith)
