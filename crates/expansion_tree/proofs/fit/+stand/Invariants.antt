use Rattle.std.proofs.Common.{◌+◌, ◌*◌, ◌++◌, ◌≤◌, ℕ, List}
use Rattle.hol_terms.specs.Terms.{plain_term, plain_type}
use Rattle.expansion_tree.specs.declared.matrices.Matrix.{Matrix}
use Rattle.expansion_tree.specs.declared.faults.FitFault.{FitFault}
use Rattle.expansion_tree.specs.Trees.{branch_node_count, node_count, plain_branches, plain_tree}
use Rattle.expansion_tree.specs.Faults.{FirstBranchFault}
use Rattle.expansion_tree.specs.Stood.{Findings, BranchesStood, findings_of}
use Rattle.expansion_tree.proofs.fit.+stand.Given as goal

-- four times the number of nodes, and more for the parts of a node
abbrev pub decreases-stand : goal.decreases-stand
decreases-stand l = 4 * node_count (plain_tree l.tree.now)

abbrev pub decreases-stand_negation : goal.decreases-stand_negation
decreases-stand_negation l = 4 * node_count (plain_tree l.t.now) + 1

abbrev pub decreases-stand_compound : goal.decreases-stand_compound
decreases-stand_compound l = 4 * (node_count (plain_tree l.t.now) + node_count (plain_tree l.u.now)) + 1

abbrev pub decreases-stand_selection : goal.decreases-stand_selection
decreases-stand_selection l = 4 * node_count (plain_tree l.t.now) + 1

abbrev pub decreases-stand_expansion : goal.decreases-stand_expansion
decreases-stand_expansion l = 4 * branch_node_count (plain_branches l.branches.now) + 3

abbrev pub decreases-stand_branches : goal.decreases-stand_branches
decreases-stand_branches l = 4 * branch_node_count (plain_branches l.branches.now) + 2

abbrev pub decreases-stand_branch : goal.decreases-stand_branch
decreases-stand_branch l = 4 * node_count (plain_tree l.tree.now) + 1

-- where the branches that are left are stood, or have a first fault, all are, or have it
abbrev pub invariant-stand_branches-loop-rest : goal.invariant-stand_branches-loop-rest
invariant-stand_branches-loop-rest l = record {
  stood : (new : Findings) (ms : List Matrix) (end : ℕ)
      → BranchesStood l.positive (plain_type l.ty) (plain_term l.body) (plain_branches l.rest) l.at (findings_of l.found) new ms end
      → BranchesStood l.positive (plain_type l.ty) (plain_term l.body) (plain_branches l.branches) l.first (findings_of l.initial.found) new (l.matrices.items ++ ms) end;
  fault : (e : FitFault) → FirstBranchFault l.found.taken l.positive (plain_type l.ty) (plain_term l.body) (plain_branches l.rest) l.at e
      → FirstBranchFault l.initial.found.taken l.positive (plain_type l.ty) (plain_term l.body) (plain_branches l.branches) l.first e;
  smaller : branch_node_count (plain_branches l.rest) ≤ branch_node_count (plain_branches l.branches);
}
