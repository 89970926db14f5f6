use Rattle.std.proofs.Common.{◌-◌, length}
use Rattle.rulep_decide.specs.Circuits.{nodes_of}
use Rattle.rulep_decide.specs.Searches.{Grows}
use Rattle.rulep_decide.proofs.propagation.propagate.Given as goal

abbrev pub decreases-loop-trail : goal.decreases-loop-trail
decreases-loop-trail l = length (nodes_of l.circuit) - l.seen

abbrev pub invariant-loop-trail : goal.invariant-loop-trail
invariant-loop-trail l = Grows (nodes_of l.circuit) l.initial.trail l.trail
