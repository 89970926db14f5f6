-- Grown trees put into the trees around them.
use Rattle.std.specs.Prelude.{ℕ, List, ◌∷◌, ◌++◌}
use Rattle.hol_terms.specs.Terms.{Term, Variable}
use Rattle.expansion_tree.specs.Budgets.{variable_head}
use Rattle.expansion_tree.specs.declared.trees.Op.{Op}
use Rattle.expansion_tree.specs.Trees.{ExpansionTree, negation_node, connective_node, selection_node, expansion_node, ExpansionBranches, branch}
use Rattle.tree_growth.specs.Growths.{GrownTree, GrownBranches}

abbrev pub under_negation : GrownTree → GrownTree
under_negation g = (negation_node g.0, g.1)

abbrev pub left_of : Op → ExpansionTree → GrownTree → GrownTree
left_of op u g = (connective_node op g.0 u, g.1)

abbrev pub right_of : Op → ExpansionTree → GrownTree → GrownTree
right_of op t g = (connective_node op t g.0, g.1)

abbrev pub under_selection : List ℕ → GrownTree → GrownTree
under_selection name g = (selection_node name g.0, g.1)

-- a compound of both, the new variables of the left one first
abbrev pub both_sides : Op → GrownTree → GrownTree → GrownTree
both_sides op g h = (connective_node op g.0 h.0, record { selected = g.1.selected ++ h.1.selected; next = h.1.next })

-- under a selection of a new variable, which comes first
abbrev pub under_new_selection : Variable → GrownTree → GrownTree
under_new_selection v g = (selection_node v.0 g.0, record { selected = variable_head v ∷ g.1.selected; next = g.1.next })

abbrev pub under_expansion : GrownBranches → GrownTree
under_expansion g = (expansion_node g.0, g.1)

-- as the tree of the branch of the term u, before other branches
abbrev pub in_first_branch : Term → ExpansionBranches → GrownTree → GrownBranches
in_first_branch u bs g = (branch u g.0 bs, g.1)

-- after the branch of the term u with the tree t
abbrev pub behind_branch : Term → ExpansionTree → GrownBranches → GrownBranches
behind_branch u t g = (branch u t g.0, g.1)
