use Rattle.std.proofs.Common.{◌≡◌, ◌≤◌, ◌+◌, ◌*◌}
use Rattle.core_text.specs.Placed.{placed, placed_all}
use Rattle.proof_text.specs.Reading.{branches_at}
use Rattle.proof_text.proofs.Counts.{form_count, all_count}
use Rattle.proof_text.proofs.Steps.{before}
use Rattle.proof_text.proofs.trees.+read_tree.Given as goal

-- four times the number of forms, and some more for the steps on the way to the next of them
abbrev pub decreases-read_tree : goal.decreases-read_tree
decreases-read_tree l = 4 * form_count (placed l.form.now)

abbrev pub decreases-read_node : goal.decreases-read_node
decreases-read_node l = 4 * all_count (placed_all l.members.now) + 3

abbrev pub decreases-read_negation : goal.decreases-read_negation
decreases-read_negation l = 4 * form_count (placed l.below.now) + 1

abbrev pub decreases-read_selection : goal.decreases-read_selection
decreases-read_selection l = 4 * form_count (placed l.below.now) + 1

abbrev pub decreases-read_connective : goal.decreases-read_connective
decreases-read_connective l = 4 * (form_count (placed l.left.now) + form_count (placed l.right.now)) + 1

abbrev pub decreases-read_expansion : goal.decreases-read_expansion
decreases-read_expansion l = 4 * all_count (placed_all l.members.now) + 2

abbrev pub decreases-read_branches : goal.decreases-read_branches
decreases-read_branches l = 4 * all_count (placed_all l.members.now) + 1

abbrev pub decreases-read_branch : goal.decreases-read_branch
decreases-read_branch l = 4 * form_count (placed l.form.now)

-- the branches that were read, and those that are left
abbrev pub invariant-read_branches-loop-rest : goal.invariant-read_branches-loop-rest
invariant-read_branches-loop-rest l = record {
  same : before l.items.items (branches_at (placed_all l.rest)) ≡ branches_at (placed_all l.members);
  smaller : all_count (placed_all l.rest) ≤ all_count (placed_all l.members);
}
