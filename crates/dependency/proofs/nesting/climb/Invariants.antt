use Rattle.expansion_tree.specs.Occurrences.{occurrences_of}
use Rattle.dependency.proofs.Climbing.{IsClimb}
use Rattle.dependency.proofs.nesting.climb.Given as goal

abbrev pub invariant-loop-e : goal.invariant-loop-e
invariant-loop-e l = IsClimb (occurrences_of l.fitted.tree) l.from l.node l.e

abbrev pub decreases-loop-e : goal.decreases-loop-e
decreases-loop-e l = l.e
