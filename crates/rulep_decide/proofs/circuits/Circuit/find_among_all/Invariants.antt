use Rattle.std.proofs.Common.{ℕ, ◌<◌, ◌≢◌, Some}
use Rattle.hol_terms.specs.Terms.{plain_term}
use Rattle.rulep_decide.specs.Circuits.{atom, node_at, nodes_of}
use Rattle.rulep_decide.proofs.circuits.Circuit.find_among_all.Given as goal

abbrev pub invariant-loop-i : goal.invariant-loop-i
invariant-loop-i l = (k : ℕ) → k < l.i → node_at (nodes_of l.self) k ≢ Some (atom (plain_term l.t))
