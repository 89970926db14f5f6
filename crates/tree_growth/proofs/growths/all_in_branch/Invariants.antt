use Rattle.std.proofs.Common.{◌≡◌, map}
use Rattle.hol_terms.specs.Terms.{plain_term}
use Rattle.expansion_tree.specs.Trees.{plain_branches}
use Rattle.tree_growth.specs.Growths.{plain_branch_growth, plain_growth}
use Rattle.tree_growth.specs.Wrapped.{in_first_branch}
use Rattle.tree_growth.proofs.growths.all_in_branch.Given as goal

abbrev pub invariant-loop-growth : goal.invariant-loop-growth
invariant-loop-growth l = map plain_branch_growth l.all.items ≡ map (in_first_branch (plain_term l.term) (plain_branches l.rest)) (map plain_growth l.yielded)
