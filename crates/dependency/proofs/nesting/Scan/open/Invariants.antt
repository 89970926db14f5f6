use Rattle.std.proofs.Common.{◌-◌, length}
use Rattle.expansion_tree.specs.Occurrences.{occurrences_of}
use Rattle.dependency.specs.Nesting.{IsScanned}
use Rattle.dependency.proofs.nesting.Scan.open.Given as goal

abbrev pub invariant-loop-self : goal.invariant-loop-self
invariant-loop-self l = IsScanned (occurrences_of l.fitted.tree) l.self.opened l.self.innermost l.node

abbrev pub decreases-loop-self : goal.decreases-loop-self
decreases-loop-self l = length (occurrences_of l.fitted.tree) - l.self.opened
