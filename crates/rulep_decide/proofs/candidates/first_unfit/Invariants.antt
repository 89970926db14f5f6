use Rattle.std.proofs.Common.{ℕ, ◌<◌, ◌≡◌, Some}
use Rattle.rulep_decide.specs.Circuits.{Node, Fits, node_at, nodes_of}
use Rattle.rulep_decide.specs.Searches.{assigned}
use Rattle.rulep_decide.proofs.candidates.first_unfit.Given as goal

abbrev pub invariant-loop-i : goal.invariant-loop-i
invariant-loop-i l = (k : ℕ) (n : Node) → k < l.i → node_at (nodes_of l.circuit) k ≡ Some n → Fits (assigned l.values.items) k n
