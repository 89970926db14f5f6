-- Expansion trees as plain trees.
use Rattle.std.specs.Prelude.{ℕ, ◌+◌, List}
use Rattle.hol_terms.specs.Terms.{Term, plain_term}
use Rattle.expansion_tree.specs.declared.trees.Op.{Op}
use Rattle.expansion_tree.specs.declared.trees.Tree.{Tree}
use Rattle.expansion_tree.specs.declared.trees.Tree.TheVariants as tree
use Rattle.expansion_tree.specs.declared.trees.Branches.{Branches}
use Rattle.expansion_tree.specs.declared.trees.Branches.TheVariants as branches

-- an expansion tree (Miller 1987) without its formulas, and the branches of an expansion node, each a term with its tree
mutual
  pub data ExpansionTree : Type 0 where
    leaf_node : ExpansionTree
    constant_node : ExpansionTree
    negation_node : ExpansionTree → ExpansionTree
    connective_node : Op → ExpansionTree → ExpansionTree → ExpansionTree
    selection_node : List ℕ → ExpansionTree → ExpansionTree
    expansion_node : ExpansionBranches → ExpansionTree

  pub data ExpansionBranches : Type 0 where
    no_branch : ExpansionBranches
    branch : Term → ExpansionTree → ExpansionBranches → ExpansionBranches

abbrev mutual
  -- the plain tree of a tree
  pub plain_tree : Tree → ExpansionTree
  plain_tree tree.Leaf = leaf_node
  plain_tree tree.Const = constant_node
  plain_tree (tree.Not' p t) = negation_node (plain_tree t)
  plain_tree (tree.Bin' op p t q u) = connective_node op (plain_tree t) (plain_tree u)
  plain_tree (tree.Sel' name p t) = selection_node name (plain_tree t)
  plain_tree (tree.Exp bs) = expansion_node (plain_branches bs)

  pub plain_branches : Branches → ExpansionBranches
  plain_branches branches.End = no_branch
  plain_branches (branches.More' u p t q bs) = branch (plain_term u) (plain_tree t) (plain_branches bs)

abbrev mutual
  -- how many nodes a tree has
  pub node_count : ExpansionTree → ℕ
  node_count leaf_node = 1
  node_count constant_node = 1
  node_count (negation_node t) = node_count t + 1
  node_count (connective_node op t u) = node_count t + node_count u + 1
  node_count (selection_node name t) = node_count t + 1
  node_count (expansion_node bs) = branch_node_count bs + 1

  pub branch_node_count : ExpansionBranches → ℕ
  branch_node_count no_branch = 0
  branch_node_count (branch u t bs) = node_count t + branch_node_count bs
