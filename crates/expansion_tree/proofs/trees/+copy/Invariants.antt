use Rattle.std.proofs.Common.{◌≡◌, ◌≤◌, ◌+◌, ◌*◌}
use Rattle.expansion_tree.specs.Copies.{branches_from}
use Rattle.expansion_tree.specs.Trees.{plain_branches, plain_tree, node_count, branch_node_count}
use Rattle.expansion_tree.proofs.trees.+copy.Given as goal

-- twice the number of nodes, and one more for a box and for branches
abbrev pub decreases-Tree::copy : goal.decreases-Tree::copy
decreases-Tree::copy l = 2 * node_count (plain_tree l.self.now)

abbrev pub decreases-boxed : goal.decreases-boxed
decreases-boxed l = 2 * node_count (plain_tree l.tree.now) + 1

abbrev pub decreases-Branches::copy : goal.decreases-Branches::copy
decreases-Branches::copy l = 2 * branch_node_count (plain_branches l.self.now) + 1

-- what was copied, before what is left
abbrev pub invariant-Branches::copy-loop-rest : goal.invariant-Branches::copy-loop-rest
invariant-Branches::copy-loop-rest l = record {
  same : branches_from l.items.items (plain_branches l.rest) ≡ plain_branches l.self;
  smaller : branch_node_count (plain_branches l.rest) ≤ branch_node_count (plain_branches l.self);
}
