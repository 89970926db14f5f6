use Rattle.expansion_tree.proofs.Counting.{weight_more}
use Rattle.expansion_tree.proofs.occurrences.weight_of_occurrences.Goals as goal

pub loop-occurrence-preserved : goal.loop-occurrence-preserved
loop-occurrence-preserved c =
    weight_more c.args.occurrences.now c.loop-occurrence.occurrence-index c.occurrence-item.result c.in_ok-weight_of.field-0 c.loop-occurrence.total c.in_ok-total.total
    c.loop-occurrence-test.true c.occurrence-item.is c.loop-occurrence.invariant c.in_ok-weight_of.ensures c.in_ok-total.ensures
