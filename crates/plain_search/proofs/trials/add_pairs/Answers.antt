use Rattle.std.proofs.Common.{◌+◌}
use Rattle.plain_search.proofs.Mated.{pairs_further}
use Rattle.plain_search.proofs.trials.add_pairs.Goals as goal

pub loop-j-preserved : goal.loop-j-preserved
loop-j-preserved c =
    pairs_further c.args.fitted.now.leaf_list c.args.i (c.args.i + 1) (c.loop-j.j + 1) c.args.mating.now c.loop-j.mating c.add_pair.new.mating c.loop-j.invariant c.in_ok-add_pair.ensures
