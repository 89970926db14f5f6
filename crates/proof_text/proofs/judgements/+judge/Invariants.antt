use Rattle.std.proofs.Common.{◌≡◌, ◌≤◌, ◌+◌, ◌*◌}
use Rattle.core_text.specs.Placed.{placed_all}
use Rattle.expansion_tree.specs.Trees.{plain_branches, plain_tree, node_count, branch_node_count}
use Rattle.proof_text.specs.Reading.{branches_judged}
use Rattle.proof_text.proofs.judgements.+judge.Given as goal

-- twice the number of nodes, and one more for branches
abbrev pub decreases-judge_tree : goal.decreases-judge_tree
decreases-judge_tree l = 2 * node_count (plain_tree l.tree.now)

abbrev pub decreases-judge_branches : goal.decreases-judge_branches
decreases-judge_branches l = 2 * branch_node_count (plain_branches l.branches.now) + 1

-- the branches that are left have the first fault
abbrev pub invariant-judge_branches-loop-rest : goal.invariant-judge_branches-loop-rest
invariant-judge_branches-loop-rest l = record {
  same : branches_judged (plain_branches l.rest) (placed_all l.forms) ≡ branches_judged (plain_branches l.branches) (placed_all l.members);
  smaller : branch_node_count (plain_branches l.rest) ≤ branch_node_count (plain_branches l.branches);
}
