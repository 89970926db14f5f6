use Rattle.std.proofs.Common.{◌+◌, ◌*◌}
use Rattle.expansion_tree.specs.Trees.{branch_node_count, node_count, plain_branches, plain_tree}
use Rattle.tree_growth.proofs.extensions.+extend.Given as goal

-- four times the number of nodes, and more for the parts of a node
abbrev pub decreases-extensions : goal.decreases-extensions
decreases-extensions l = 4 * node_count (plain_tree l.tree.now)

abbrev pub decreases-negation_extensions : goal.decreases-negation_extensions
decreases-negation_extensions l = 4 * node_count (plain_tree l.t.now) + 1

abbrev pub decreases-compound_extensions : goal.decreases-compound_extensions
decreases-compound_extensions l = 4 * (node_count (plain_tree l.t.now) + node_count (plain_tree l.u.now)) + 1

abbrev pub decreases-selection_extensions : goal.decreases-selection_extensions
decreases-selection_extensions l = 4 * node_count (plain_tree l.t.now) + 1

abbrev pub decreases-expansion_extensions : goal.decreases-expansion_extensions
decreases-expansion_extensions l = 4 * branch_node_count (plain_branches l.branches.now) + 3

abbrev pub decreases-branch_extensions : goal.decreases-branch_extensions
decreases-branch_extensions l = 4 * branch_node_count (plain_branches l.branches.now) + 2

abbrev pub decreases-first_extensions : goal.decreases-first_extensions
decreases-first_extensions l = 4 * node_count (plain_tree l.tree.now) + 1
