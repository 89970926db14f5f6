use Rattle.std.proofs.Common.{◌≡◌, map}
use Rattle.hol_terms.specs.Terms.{plain_term}
use Rattle.expansion_tree.specs.Trees.{plain_tree}
use Rattle.tree_growth.specs.Growths.{plain_branch_growth}
use Rattle.tree_growth.specs.Wrapped.{behind_branch}
use Rattle.tree_growth.proofs.growths.all_behind.Given as goal

abbrev pub invariant-loop-growth : goal.invariant-loop-growth
invariant-loop-growth l = map plain_branch_growth l.all.items ≡ map (behind_branch (plain_term l.term) (plain_tree l.tree)) (map plain_branch_growth l.yielded)
