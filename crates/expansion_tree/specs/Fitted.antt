-- A formula with an expansion tree of it.
use Rattle.std.specs.Prelude.{◌≡◌, ℕ, List, Bool, refl}
use Rattle.std.specs.Coded.{coded_list, coded×, coded_ℕ, coded_bool}
use package.base.Stored.{Coded}
use denote.Struct.Codes.{code_by}
use Rattle.hol_terms.specs.Terms.{Term, Variable}
use Rattle.hol_terms.specs.Codes.{term_code, type_code}
use Rattle.expansion_tree.specs.Trees.{ExpansionTree}
use Rattle.expansion_tree.specs.Codes.{tree_code}
use Rattle.expansion_tree.specs.Standing.{Standing, leaves, paths, Selection, selections}
use Rattle.expansion_tree.specs.Faults.{IsTree}

-- a formula, an expansion tree of it, and the leaves, the selected variables and the paths that the tree has there, leaves and nodes
-- being numbered from 1
pub record FittedTree : Type 0 where
  pub formula : Term
  pub tree : ExpansionTree
  pub leaf_list : List (Bool × Term)
  pub selection_list : List Selection
  pub path_list : List (List ℕ)

-- the tree is an expansion tree of the formula and stands in this way
pub record FitsAs (f : FittedTree) (s : Standing) : Type 0 where
  pub is_tree : IsTree f.formula f.tree s
  pub leaf_list : f.leaf_list ≡ leaves s
  pub selection_list : f.selection_list ≡ selections s
  pub path_list : f.path_list ≡ paths s

-- the tree is an expansion tree of the formula, with these leaves, selected variables and paths
abbrev pub IsFitted : FittedTree → Type 0
IsFitted f = (s : Standing) × FitsAs f s

abbrev selection_code : Coded Selection
selection_code = code_by (ℕ × Variable) (coded× coded_ℕ (coded× (coded_list coded_ℕ) type_code)) (λ s. (s.node, s.variable)) (λ t. record { node = t.0; variable = t.1 }) (λ _. refl)

-- a code of it, as a tuple
abbrev pub fitted_code : Coded FittedTree
fitted_code =
    code_by (Term × (ExpansionTree × (List (Bool × Term) × (List Selection × List (List ℕ)))))
    (coded× term_code (coded× tree_code (coded× (coded_list (coded× coded_bool term_code)) (coded× (coded_list selection_code) (coded_list (coded_list coded_ℕ))))))
    (λ f. (f.formula, (f.tree, (f.leaf_list, (f.selection_list, f.path_list)))))
    (λ t. record { formula = t.0; tree = t.1.0; leaf_list = t.1.1.0; selection_list = t.1.1.1.0; path_list = t.1.1.1.1 })
    (λ _. refl)
