use Rattle.std.proofs.Common.{◌≡◌, map}
use Rattle.expansion_tree.specs.Trees.{plain_tree}
use Rattle.tree_growth.specs.Growths.{plain_growth}
use Rattle.tree_growth.specs.Wrapped.{left_of}
use Rattle.tree_growth.proofs.growths.all_left_of.Given as goal

abbrev pub invariant-loop-growth : goal.invariant-loop-growth
invariant-loop-growth l = map plain_growth l.all.items ≡ map (left_of l.op (plain_tree l.right)) (map plain_growth l.yielded)
