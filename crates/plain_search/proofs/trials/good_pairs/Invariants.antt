use Rattle.plain_search.proofs.Mated.{HasPairsUpTo}
use Rattle.plain_search.proofs.trials.good_pairs.Given as goal

abbrev pub invariant-loop-i : goal.invariant-loop-i
invariant-loop-i l = HasPairsUpTo l.fitted.leaf_list l.i l.mating
