use Rattle.std.proofs.Common.{◌≡◌, ◌+◌, ◌*◌, ◌≤◌}
use Rattle.expansion_tree.specs.Trees.{branch_node_count, node_count, plain_branches, plain_tree}
use Rattle.refutations.specs.Opens.{branch_leaf_total, branch_occurrence_total}
use Rattle.refutations.proofs.counts.+pass.Given as goal

abbrev pub decreases-pass : goal.decreases-pass
decreases-pass l = 2 * node_count (plain_tree l.tree.now)

abbrev pub decreases-pass_branches : goal.decreases-pass_branches
decreases-pass_branches l = 2 * branch_node_count (plain_branches l.branches.now) + 1

-- what is left of the branches is still to be passed
abbrev pub invariant-pass_branches-loop-rest : goal.invariant-pass_branches-loop-rest
invariant-pass_branches-loop-rest l = record {
  rest : branch_node_count (plain_branches l.rest) ≤ branch_node_count (plain_branches l.branches);
  nodes : l.place.node + branch_node_count (plain_branches l.rest) ≡ l.initial.place.node + branch_node_count (plain_branches l.branches);
  leaves : l.place.leaves + branch_leaf_total (plain_branches l.rest) ≡ l.initial.place.leaves + branch_leaf_total (plain_branches l.branches);
  occurrences : l.place.occurrences + branch_occurrence_total (plain_branches l.rest) ≡ l.initial.place.occurrences + branch_occurrence_total (plain_branches l.branches);
}
