use Rattle.std.proofs.Common.{◌≡◌, map}
use Rattle.tree_growth.specs.Growths.{plain_growth}
use Rattle.tree_growth.specs.Wrapped.{under_negation}
use Rattle.tree_growth.proofs.growths.all_negated.Given as goal

abbrev pub invariant-loop-growth : goal.invariant-loop-growth
invariant-loop-growth l = map plain_growth l.all.items ≡ map under_negation (map plain_growth l.yielded)
