use Rattle.std.proofs.Common.{◌≡◌, map}
use Rattle.tree_growth.specs.Growths.{plain_branch_growth, plain_growth}
use Rattle.tree_growth.specs.Wrapped.{under_expansion}
use Rattle.tree_growth.proofs.growths.all_expanded.Given as goal

abbrev pub invariant-loop-growth : goal.invariant-loop-growth
invariant-loop-growth l = map plain_growth l.all.items ≡ map under_expansion (map plain_branch_growth l.yielded)
