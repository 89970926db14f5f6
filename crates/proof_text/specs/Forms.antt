-- The forms that spell a tree, a mating and a whole proof text.
use Rattle.std.specs.Prelude.{ℕ, List, [], ◌∷◌, codes, encode_utf8_all}
use Rattle.core_text.specs.CoreForms.{pair_form, triple_form, term_form}
use Rattle.core_text.specs.Forms.{Form, word_form, number_form, list_form, Forms, no_forms, more_forms}
use Rattle.expansion_tree.specs.declared.trees.Op.{Op}
use Rattle.expansion_tree.specs.declared.trees.Op.TheVariants.{And, Or, Imp}
use Rattle.expansion_tree.specs.Trees.{ExpansionTree, leaf_node, constant_node, negation_node, connective_node, selection_node, expansion_node, ExpansionBranches, no_branch, branch}

abbrev pub op_word : Op → List ℕ
op_word And = codes "AND"
op_word Or = codes "OR"
op_word Imp = codes "IMPLIES"

abbrev mutual
  -- LEAF, CONST, (NOT T), (AND T U), (OR T U), (IMPLIES T U), (SEL name T), (EXP b1 b2 ..)
  pub tree_form : ExpansionTree → Form
  tree_form leaf_node = word_form (codes "LEAF")
  tree_form constant_node = word_form (codes "CONST")
  tree_form (negation_node t) = pair_form (word_form (codes "NOT")) (tree_form t)
  tree_form (connective_node op t u) = triple_form (word_form (op_word op)) (tree_form t) (tree_form u)
  tree_form (selection_node name t) = triple_form (word_form (codes "SEL")) (word_form (encode_utf8_all name)) (tree_form t)
  tree_form (expansion_node bs) = list_form (more_forms (word_form (codes "EXP")) (branch_forms bs))

  -- the branches, (term T) each
  pub branch_forms : ExpansionBranches → Forms
  branch_forms no_branch = no_forms
  branch_forms (branch u t bs) = more_forms (pair_form (term_form u) (tree_form t)) (branch_forms bs)

-- the pairs (i j) of a mating, one after the other
abbrev pub pair_forms : List (ℕ × ℕ) → Forms
pair_forms [] = no_forms
pair_forms (p ∷ ps) = more_forms (pair_form (number_form p.0) (number_form p.1)) (pair_forms ps)

-- (p1 p2 ..)
abbrev pub mating_form : List (ℕ × ℕ) → Form
mating_form ps = list_form (pair_forms ps)
