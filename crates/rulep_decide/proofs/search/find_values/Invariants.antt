use Rattle.std.proofs.Common.{length}
use Rattle.rulep_decide.specs.Circuits.{nodes_of}
use Rattle.rulep_decide.specs.Trails.{steps_of, turns_left}
use Rattle.rulep_decide.specs.Searches.{IsGood}
use Rattle.rulep_decide.proofs.search.find_values.Given as goal

abbrev pub decreases-loop-trail : goal.decreases-loop-trail
decreases-loop-trail l = turns_left (length (nodes_of l.circuit)) (steps_of l.trail)

abbrev pub invariant-loop-trail : goal.invariant-loop-trail
invariant-loop-trail l = IsGood (nodes_of l.circuit) l.trail
