use Rattle.std.proofs.Common.{◌≡◌, map}
use Rattle.expansion_tree.specs.Trees.{plain_tree}
use Rattle.tree_growth.specs.Growths.{plain_growth}
use Rattle.tree_growth.specs.Wrapped.{right_of}
use Rattle.tree_growth.proofs.growths.all_right_of.Given as goal

abbrev pub invariant-loop-growth : goal.invariant-loop-growth
invariant-loop-growth l = map plain_growth l.all.items ≡ map (right_of l.op (plain_tree l.left)) (map plain_growth l.yielded)
