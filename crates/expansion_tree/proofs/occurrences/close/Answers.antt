use Rattle.std.proofs.Common.{◌-◌}
use Rattle.expansion_tree.proofs.Counting.{closed_set}
use Rattle.expansion_tree.proofs.occurrences.close.Goals as goal

pub returns : goal.returns
returns c = closed_set c.args.found.now.items c.args.place (c.args.end - 1) c.index_mut.result.now c.requires.place c.index_mut.ensures.value
