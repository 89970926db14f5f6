-- A stack whose cells stay where they are, so that it can be set back.
use Rattle.std.specs.Prelude.{◌≡◌, ℕ, ◌+◌, ◌==◌, ◌≤◌, List, [], ◌∷◌, ◌++◌, length, reverse, if◌then◌else◌}
use Rattle.refutations.specs.declared.nodes.Node.{Node}
use Rattle.refutations.specs.declared.stacks.Cell.{Cell}
use Rattle.refutations.specs.declared.stacks.Stack.{Stack}

-- of cells with the newest first, which are numbered from 1 in the order in which they came: the nodes from the cell of a number on,
-- each naming the cell below it, down to 0
abbrev pub chain_in : List Cell → ℕ → List Node
chain_in [] at = []
chain_in (cell ∷ older) at = if at == length older + 1 then cell.node ∷ chain_in older cell.rest else chain_in older at

-- each names an older one
abbrev pub AreCells : List Cell → Type 0
AreCells [] = Unit {0}
AreCells (cell ∷ older) = (cell.rest ≤ length older) × AreCells older

-- the nodes on the stack, the top first
abbrev pub stacked : Stack → List Node
stacked s = chain_in (reverse s.cells.items) s.top

pub record IsStack (s : Stack) : Type 0 where
  pub cells : AreCells (reverse s.cells.items)
  pub within : s.top ≤ length s.cells.items

-- with further cells
abbrev pub HasMoreCells : Stack → Stack → Type 0
HasMoreCells old new = (more : List Cell) × (new.cells.items ≡ old.cells.items ++ more)
