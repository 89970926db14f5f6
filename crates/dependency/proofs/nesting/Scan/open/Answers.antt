use Rattle.std.proofs.Common.{arith}
use Rattle.expansion_tree.specs.Occurrences.{occurrences_of}
use Rattle.dependency.proofs.Climbing.{begin_behind, none_behind}
use Rattle.dependency.proofs.nesting.Scan.open.Goals as goal

pub returns-then-occurrence-node-clause-all : goal.returns-then-occurrence-node-clause-all
returns-then-occurrence-node-clause-all c =
    begin_behind (occurrences_of c.args.fitted.now.tree) c.loop-self.self.opened c.args.node _ c.requires.nested c.occurrence.ensures c.if-occurrence-node.true

pub returns-clause-all : goal.returns-clause-all
returns-clause-all c f o less at =
    absurd (none_behind (occurrences_of c.args.fitted.now.tree) c.loop-self.self.opened (omega (arith, c.occurrence_count.ensures, c.loop-self-test.false)) f o less at)
