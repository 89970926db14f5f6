use Rattle.std.proofs.Common.{◌≡◌, ◌+◌, ◌*◌, ◌≤◌}
use Rattle.hol_terms.specs.Terms.{Term, plain_term, plain_type}
use Rattle.expansion_tree.specs.Standing.{StandingBranches, BranchesStand, joined_deep}
use Rattle.expansion_tree.specs.Trees.{branch_node_count, node_count, plain_branches, plain_tree}
use Rattle.expansion_tree.proofs.deep.+deep.Given as goal

-- five times the number of nodes, and more for the parts of a node
abbrev pub decreases-deepened : goal.decreases-deepened
decreases-deepened l = 5 * node_count (plain_tree l.tree.now)

abbrev pub decreases-deepened_negation : goal.decreases-deepened_negation
decreases-deepened_negation l = 5 * node_count (plain_tree l.t.now) + 1

abbrev pub decreases-deepened_compound : goal.decreases-deepened_compound
decreases-deepened_compound l = 5 * (node_count (plain_tree l.t.now) + node_count (plain_tree l.u.now)) + 1

abbrev pub decreases-deepened_selection : goal.decreases-deepened_selection
decreases-deepened_selection l = 5 * node_count (plain_tree l.t.now) + 1

abbrev pub decreases-deepened_expansion : goal.decreases-deepened_expansion
decreases-deepened_expansion l = 5 * branch_node_count (plain_branches l.branches.now) + 4

abbrev pub decreases-deepened_branches : goal.decreases-deepened_branches
decreases-deepened_branches l = 5 * branch_node_count (plain_branches l.branches.now) + 3

abbrev pub decreases-deepened_rest : goal.decreases-deepened_rest
decreases-deepened_rest l = 5 * branch_node_count (plain_branches l.branches.now) + 2

abbrev pub decreases-deepened_branch : goal.decreases-deepened_branch
decreases-deepened_branch l = 5 * node_count (plain_tree l.tree.now) + 1

-- what joins what is left with what was joined is all
abbrev pub invariant-deepened_rest-loop-rest : goal.invariant-deepened_rest-loop-rest
invariant-deepened_rest-loop-rest l = record {
  stand : (ns : StandingBranches) × BranchesStand l.positive (plain_type l.ty) (plain_term l.body) (plain_branches l.rest) ns;
  joined : (d : Term)
      → ((ns : StandingBranches) → BranchesStand l.positive (plain_type l.ty) (plain_term l.body) (plain_branches l.rest) ns → d ≡ joined_deep l.positive (plain_term l.deep) ns)
      → (ns : StandingBranches) → BranchesStand l.positive (plain_type l.ty) (plain_term l.body) (plain_branches l.branches) ns → d ≡ joined_deep l.positive (plain_term l.fn.first) ns;
  smaller : branch_node_count (plain_branches l.rest) ≤ branch_node_count (plain_branches l.branches);
}
