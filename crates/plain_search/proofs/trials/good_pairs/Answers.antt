use Rattle.std.proofs.Common.{◌≤◌, length, arith}
use Rattle.plain_search.proofs.Mated.{all_good_pairs, pairs_up_to}
use Rattle.plain_search.proofs.trials.good_pairs.Goals as goal

pub loop-i-preserved : goal.loop-i-preserved
loop-i-preserved c = pairs_up_to c.args.fitted.now.leaf_list c.loop-i.i c.loop-i.mating c.add_pairs.new.mating c.loop-i.invariant c.in_ok-add_pairs.ensures

pub returns-clause-all : goal.returns-clause-all
returns-clause-all c =
    let enough : length c.args.fitted.now.leaf_list ≤ c.loop-i.i = omega arith in
    all_good_pairs c.args.fitted.now.leaf_list c.loop-i.i c.loop-i.mating enough c.loop-i.invariant
