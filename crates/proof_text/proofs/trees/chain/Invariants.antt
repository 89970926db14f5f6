use Rattle.std.proofs.Common.{◌≡◌, length}
use Rattle.expansion_tree.specs.Copies.{branches_from}
use Rattle.expansion_tree.specs.Trees.{plain_branches, no_branch}
use Rattle.proof_text.proofs.trees.chain.Given as goal

-- what is left, before what was made
abbrev pub invariant-loop-term : goal.invariant-loop-term
invariant-loop-term l = branches_from l.rest.items (plain_branches l.branches) ≡ branches_from l.fn.items.items no_branch

abbrev pub decreases-loop-term : goal.decreases-loop-term
decreases-loop-term l = length l.rest.items
