use Rattle.std.proofs.Common.{◌≡◌, ◌++◌, ◌+◌, ◌*◌, ◌≤◌}
use Rattle.core_text.specs.Written.{written_others}
use Rattle.expansion_tree.specs.Trees.{plain_branches, plain_tree, node_count, branch_node_count}
use Rattle.proof_text.specs.Forms.{branch_forms}
use Rattle.proof_text.specs.Texts.{BranchesHaveNames}
use Rattle.proof_text.proofs.writers.+append_tree.Given as goal

-- twice the number of nodes, and one more for branches
abbrev pub decreases-append_tree : goal.decreases-append_tree
decreases-append_tree l = 2 * node_count (plain_tree l.tree.now)

abbrev pub decreases-append_branches : goal.decreases-append_branches
decreases-append_branches l = 2 * branch_node_count (plain_branches l.branches.now) + 1

-- what was written, before the branches that are left; all have names where those have
abbrev pub invariant-append_branches-loop-rest : goal.invariant-append_branches-loop-rest
invariant-append_branches-loop-rest l = record {
  same : l.out ++ written_others (branch_forms (plain_branches l.rest)) ≡ l.fn.out ++ written_others (branch_forms (plain_branches l.branches));
  names : BranchesHaveNames (plain_branches l.rest) → BranchesHaveNames (plain_branches l.branches);
  smaller : branch_node_count (plain_branches l.rest) ≤ branch_node_count (plain_branches l.branches);
}
