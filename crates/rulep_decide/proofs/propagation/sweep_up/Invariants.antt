use Rattle.rulep_decide.specs.Circuits.{nodes_of}
use Rattle.rulep_decide.specs.Searches.{Grows}
use Rattle.rulep_decide.proofs.propagation.sweep_up.Given as goal

abbrev pub invariant-loop-i : goal.invariant-loop-i
invariant-loop-i l = Grows (nodes_of l.circuit) l.initial.trail l.trail
