-- A formula and a tree with what the tree has there, as they are kept.
use Rattle.std.specs.Prelude.{map}
use Rattle.hol_terms.specs.Terms.{Term}
use Rattle.expansion_tree.specs.declared.found.Found.{Found}
use Rattle.expansion_tree.specs.declared.matrices.Matrix.{Matrix}
use Rattle.expansion_tree.specs.Trees.{ExpansionTree}
use Rattle.expansion_tree.specs.Matrices.{matrix_paths}
use Rattle.expansion_tree.specs.Stood.{plain_leaf, plain_selection}
use Rattle.expansion_tree.specs.Fitted.{FittedTree}

-- a formula and a tree with the leaves and the selected variables that were found, and the paths of a matrix
abbrev pub fitted_with : Term → ExpansionTree → Found → Matrix → FittedTree
fitted_with formula tree found matrix = record {
  formula = formula;
  tree = tree;
  leaf_list = map plain_leaf found.leaves.items;
  selection_list = map plain_selection found.selections.items;
  path_list = matrix_paths matrix;
}
