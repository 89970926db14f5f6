use Rattle.std.proofs.Common.{◌≡◌}
use Rattle.rulep_decide.specs.Circuits.{nodes_of, true_atoms}
use Rattle.rulep_decide.specs.Searches.{assigned}
use Rattle.rulep_decide.proofs.verdicts.true_atoms_of.Given as goal

abbrev pub invariant-loop-i : goal.invariant-loop-i
invariant-loop-i l = l.atoms ≡ true_atoms (assigned l.values.items) (nodes_of l.circuit) l.i
