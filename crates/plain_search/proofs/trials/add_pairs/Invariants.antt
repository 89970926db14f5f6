use Rattle.std.proofs.Common.{◌+◌}
use Rattle.plain_search.specs.Trials.{HasPairs}
use Rattle.plain_search.proofs.trials.add_pairs.Given as goal

abbrev pub invariant-loop-j : goal.invariant-loop-j
invariant-loop-j l = HasPairs l.fitted.leaf_list l.i (l.i + 1) (l.j + 1) l.fn.mating l.mating
