use Rattle.std.proofs.Common.{◌≡◌, ◌+◌, ◌*◌, ◌++◌, ◌≤◌, map}
use Rattle.expansion_tree.specs.Counted.{plain_occurrence}
use Rattle.expansion_tree.specs.Occurrences.{branch_occurrences_from}
use Rattle.expansion_tree.specs.Trees.{branch_node_count, node_count, plain_branches, plain_tree}
use Rattle.expansion_tree.proofs.occurrences.+occur.Given as goal

-- four times the number of nodes, and more for branches
abbrev pub decreases-add_branch : goal.decreases-add_branch
decreases-add_branch l = 4 * node_count (plain_tree l.tree.now) + 1

abbrev pub decreases-add_branches : goal.decreases-add_branches
decreases-add_branches l = 4 * branch_node_count (plain_branches l.branches.now) + 2

abbrev pub decreases-add_tree : goal.decreases-add_tree
decreases-add_tree l = 4 * node_count (plain_tree l.tree.now)

-- what was found, before what is left
abbrev pub invariant-add_branches-loop-rest : goal.invariant-add_branches-loop-rest
invariant-add_branches-loop-rest l = record {
  list : map plain_occurrence l.found.items ++ branch_occurrences_from l.at (plain_branches l.rest) ≡ map plain_occurrence l.initial.found.items ++ branch_occurrences_from l.first (plain_branches l.branches);
  end : l.at + branch_node_count (plain_branches l.rest) ≡ l.first + branch_node_count (plain_branches l.branches);
  smaller : branch_node_count (plain_branches l.rest) ≤ branch_node_count (plain_branches l.branches);
}
