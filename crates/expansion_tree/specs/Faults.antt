-- Which trees are expansion trees of a formula, and what keeps a tree from being one first. After Miller 1987.
use Rattle.std.specs.Prelude.{◌≡◌, ℕ, ◌+◌, List, [], ◌∷◌, ◌++◌, Bool, true, not, Contains, ◌⊎◌}
use Rattle.hol_terms.specs.Terms.{SimpleType, Term, free, Variable}
use Rattle.hol_terms.specs.Indices.{instance_of}
use Rattle.hol_terms.specs.FreeVariables.{free_variables_of}
use Rattle.hol_conv.specs.Conversion.{Long}
use Rattle.expansion_tree.specs.declared.faults.FitFault.{FitFault}
use Rattle.expansion_tree.specs.declared.faults.FitFault.TheVariants.{Misfit, BadTerm, BadVariable}
use Rattle.expansion_tree.specs.Trees.{ExpansionTree, leaf_node, constant_node, negation_node, connective_node, selection_node, expansion_node, ExpansionBranches, no_branch, branch, node_count}
use Rattle.expansion_tree.specs.Standing.{Standing, StandingBranches, Stands, BranchesStand, IsNormalFormula, negation_of, compound_of, truth_value, quantified, selecting, expanding, left_polarity, selected_variables, branch_selected_variables}

-- no variable of the list is taken, and none stands in it twice
abbrev pub AreNew : List Variable → List Variable → Type 0
AreNew taken [] = Unit {0}
AreNew taken (v ∷ vs) = (Contains taken v → ⊥) × AreNew (taken ++ v ∷ []) vs

-- The tree is an expansion tree of the formula and stands in this way: at the formula's long normal form, positive, where no
-- variable is selected that is free in the formula, and none at two nodes.
pub record IsTree (formula : Term) (tree : ExpansionTree) (s : Standing) : Type 0 where
  pub normal : Term
  pub is_normal : IsNormalFormula normal formula
  pub stands : Stands true normal tree s
  pub selected : AreNew (free_variables_of formula) (selected_variables s)

-- the tree stands at the formula, and its selected variables are new beside the taken ones
abbrev pub StandsWithNew : List Variable → Bool → Term → ExpansionTree → Standing → Type 0
StandsWithNew taken p a t s = Stands p a t s × AreNew taken (selected_variables s)

abbrev pub BranchesStandWithNew : List Variable → Bool → SimpleType → Term → ExpansionBranches → StandingBranches → Type 0
BranchesStandWithNew taken p ty b bs ns = BranchesStand p ty b bs ns × AreNew taken (branch_selected_variables ns)

abbrev mutual
  -- The first thing that is wrong with a tree at the formula a, of polarity p, beside variables that are taken: all before it stands.
  -- Nodes are numbered in preorder, the root having the number at. A node misfits where it can't stand at its formula and polarity.
  pub FirstFault : List Variable → Bool → Term → ExpansionTree → ℕ → FitFault → Type 0
  FirstFault taken p a leaf_node at fault = ⊥
  FirstFault taken p a constant_node at fault = (fault ≡ Misfit at) × ((v : Bool) → a ≡ truth_value v → ⊥)
  FirstFault taken p a (negation_node t) at fault =
      ((fault ≡ Misfit at) × ((b : Term) → a ≡ negation_of b → ⊥))
      ⊎ ((b : Term) × (a ≡ negation_of b) × FirstFault taken (not p) b t (at + 1) fault)
  FirstFault taken p a (connective_node op t u) at fault =
      ((fault ≡ Misfit at) × ((b c : Term) → a ≡ compound_of op b c → ⊥))
      ⊎ ((b : Term) × (c : Term) × (a ≡ compound_of op b c)
      × (FirstFault taken (left_polarity op p) b t (at + 1) fault
      ⊎ ((m : Standing) × StandsWithNew taken (left_polarity op p) b t m
      × FirstFault (taken ++ selected_variables m) p c u (at + 1 + node_count t) fault)))
  FirstFault taken p a (selection_node name t) at fault =
      ((fault ≡ Misfit at) × ((ty : SimpleType) (b : Term) → a ≡ quantified (selecting p ty) ty b → ⊥))
      ⊎ ((ty : SimpleType) × (b : Term) × (a ≡ quantified (selecting p ty) ty b)
      × (((fault ≡ BadVariable at) × Contains taken (name, ty))
      ⊎ ((Contains taken (name, ty) → ⊥) × FirstFault (taken ++ (name, ty) ∷ []) p (instance_of b (free name ty)) t (at + 1) fault)))
  FirstFault taken p a (expansion_node bs) at fault =
      ((fault ≡ Misfit at) × ((ty : SimpleType) (b : Term) → a ≡ quantified (expanding p ty) ty b → ⊥))
      ⊎ ((ty : SimpleType) × (b : Term) × (a ≡ quantified (expanding p ty) ty b) × FirstBranchFault taken p ty b bs (at + 1) fault)

  -- The same of branches at the body b over a variable of type ty; a term's fault has the number of its branch's tree.
  pub FirstBranchFault : List Variable → Bool → SimpleType → Term → ExpansionBranches → ℕ → FitFault → Type 0
  FirstBranchFault taken p ty b no_branch at fault = ⊥
  FirstBranchFault taken p ty b (branch u t bs) at fault =
      ((fault ≡ BadTerm at) × (Long [] u ty → ⊥))
      ⊎ (Long [] u ty × (a : Term) × IsNormalFormula a (instance_of b u)
      × (FirstFault taken p a t at fault
      ⊎ ((m : Standing) × StandsWithNew taken p a t m
      × FirstBranchFault (taken ++ selected_variables m) p ty b bs (at + node_count t) fault)))

-- the first thing that keeps the tree from being an expansion tree of the formula, nodes being numbered from 1
abbrev pub IsFirstFault : Term → ExpansionTree → FitFault → Type 0
IsFirstFault formula tree fault = (normal : Term) × IsNormalFormula normal formula × FirstFault (free_variables_of formula) true normal tree 1 fault
