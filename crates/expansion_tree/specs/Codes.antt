-- A code of expansion trees, by which a type whose model holds them tells its values apart.
use Rattle.std.specs.Prelude.{ℕ, zero, suc, ◌≡◌, refl}
use mathlib.Core.Path.{ap, ap₂}
use package.base.Stored.{Gv, gnil, gnum, gcons, Coded}
use denote.Struct.Codes.{itself, code_by}
use Rattle.hol_terms.specs.Codes.{name_to, name_from, name_back, term_to, term_from, term_back}
use Rattle.expansion_tree.specs.declared.trees.Op.{Op}
use Rattle.expansion_tree.specs.declared.trees.Op.TheVariants.{And, Or, Imp}
use Rattle.expansion_tree.specs.Trees.{ExpansionTree, leaf_node, constant_node, negation_node, connective_node, selection_node, expansion_node, ExpansionBranches, no_branch, branch}

abbrev op_number : Op → ℕ
op_number And = 1
op_number Or = 2
op_number Imp = 3

abbrev mutual
  pub tree_to : ExpansionTree → Gv
  tree_to leaf_node = gnum 0
  tree_to constant_node = gnum 1
  tree_to (negation_node t) = gcons gnil (tree_to t)
  tree_to (connective_node op t u) = gcons (gnum (op_number op)) (gcons (tree_to t) (tree_to u))
  tree_to (selection_node name t) = gcons (gcons (name_to name) gnil) (tree_to t)
  tree_to (expansion_node bs) = gcons (gnum 0) (branches_to bs)

  pub branches_to : ExpansionBranches → Gv
  branches_to no_branch = gnil
  branches_to (branch u t bs) = gcons (term_to u) (gcons (tree_to t) (branches_to bs))

abbrev op_from : ℕ → Op
op_from zero = And
op_from (suc zero) = And
op_from (suc (suc zero)) = Or
op_from (suc (suc (suc n))) = Imp

abbrev mutual
  pub tree_from : Gv → ExpansionTree
  tree_from gnil = leaf_node
  tree_from (gnum zero) = leaf_node
  tree_from (gnum (suc n)) = constant_node
  tree_from (gcons gnil t) = negation_node (tree_from t)
  tree_from (gcons (gnum zero) bs) = expansion_node (branches_from bs)
  tree_from (gcons (gnum (suc n)) gnil) = leaf_node
  tree_from (gcons (gnum (suc n)) (gnum m)) = leaf_node
  tree_from (gcons (gnum (suc n)) (gcons t u)) = connective_node (op_from (suc n)) (tree_from t) (tree_from u)
  tree_from (gcons (gcons name x) t) = selection_node (name_from name) (tree_from t)

  pub branches_from : Gv → ExpansionBranches
  branches_from gnil = no_branch
  branches_from (gnum n) = no_branch
  branches_from (gcons u gnil) = no_branch
  branches_from (gcons u (gnum n)) = no_branch
  branches_from (gcons u (gcons t bs)) = branch (term_from u) (tree_from t) (branches_from bs)

mutual
  pub tree_back : (t : ExpansionTree) → tree_from (tree_to t) ≡ t
  tree_back leaf_node = refl
  tree_back constant_node = refl
  tree_back (negation_node t) = ap negation_node (tree_back t)
  tree_back (connective_node And t u) = ap₂ (connective_node And) (tree_back t) (tree_back u)
  tree_back (connective_node Or t u) = ap₂ (connective_node Or) (tree_back t) (tree_back u)
  tree_back (connective_node Imp t u) = ap₂ (connective_node Imp) (tree_back t) (tree_back u)
  tree_back (selection_node name t) = ap₂ selection_node (name_back name) (tree_back t)
  tree_back (expansion_node bs) = ap expansion_node (branches_back bs)

  pub branches_back : (bs : ExpansionBranches) → branches_from (branches_to bs) ≡ bs
  branches_back no_branch = refl
  branches_back (branch u t bs) = ap₂ (λ v (r : ExpansionTree × ExpansionBranches). branch v r.0 r.1) (term_back u) (ap₂ (λ a b. (a, b)) (tree_back t) (branches_back bs))

abbrev pub tree_code : Coded ExpansionTree
tree_code = code_by Gv itself tree_to tree_from tree_back
