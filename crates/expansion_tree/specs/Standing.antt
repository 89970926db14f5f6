-- When an expansion tree stands at a formula, and what its leaves, its paths, its selected variables and its deep formula then are.
-- After Miller 1987 and Andrews 1981.
use Rattle.std.specs.Prelude.{◌≡◌, ℕ, ◌+◌, List, [], ◌∷◌, ◌++◌, Bool, true, false, not}
use Rattle.hol_terms.specs.Terms.{SimpleType, Term, free, constant, application, abstraction, Constant, negation, conjunction, disjunction, implication, truth, falsehood, forall, exists, truth_type, Variable}
use Rattle.hol_terms.specs.Indices.{instance_of}
use Rattle.hol_conv.specs.Conversion.{Long, IsNormalOf}
use Rattle.expansion_tree.specs.declared.trees.Op.{Op}
use Rattle.expansion_tree.specs.declared.trees.Op.TheVariants.{And, Or, Imp}
use Rattle.expansion_tree.specs.Trees.{ExpansionTree, leaf_node, constant_node, negation_node, connective_node, selection_node, expansion_node, ExpansionBranches, no_branch, branch}
use Rattle.expansion_tree.specs.Matrices.{joined}

abbrev pub connective : Op → Constant
connective And = conjunction
connective Or = disjunction
connective Imp = implication

-- NOT b
abbrev pub negation_of : Term → Term
negation_of b = application (constant negation) b

-- b AND c, b OR c, b IMPLIES c
abbrev pub compound_of : Op → Term → Term → Term
compound_of op b c = application (application (constant (connective op)) b) c

-- TRUTH or FALSEHOOD
abbrev pub truth_value : Bool → Term
truth_value true = constant truth
truth_value false = constant falsehood

-- a quantifier on the abstraction with body b over a variable of type s
abbrev pub quantified : Constant → SimpleType → Term → Term
quantified quantifier s b = application (constant quantifier) (abstraction s b)

-- the quantifier that selects a variable at polarity p: ALL where positive, SOME where negative
abbrev pub selecting : Bool → SimpleType → Constant
selecting true s = forall s
selecting false s = exists s

-- the quantifier that is expanded by terms at polarity p: SOME where positive, ALL where negative
abbrev pub expanding : Bool → SimpleType → Constant
expanding true s = exists s
expanding false s = forall s

-- the polarity of the left side of a compound of polarity p: it turns at the left of IMPLIES
abbrev pub left_polarity : Op → Bool → Bool
left_polarity And p = p
left_polarity Or p = p
left_polarity Imp p = not p

-- An expansion tree as it stands at a formula: a leaf has its polarity (true where positive) and its formula, a constant its
-- polarity and its truth value, a compound its polarity, a selection its variable, an expansion its polarity and its branches, each
-- with its term.
mutual
  pub data Standing : Type 0 where
    at_leaf : Bool → Term → Standing
    at_constant : Bool → Bool → Standing
    at_negation : Standing → Standing
    at_connective : Op → Bool → Standing → Standing → Standing
    at_selection : Variable → Standing → Standing
    at_expansion : Bool → StandingBranches → Standing

  pub data StandingBranches : Type 0 where
    none_standing : StandingBranches
    branch_standing : Term → Standing → StandingBranches → StandingBranches

-- the long normal form of a formula
abbrev pub IsNormalFormula : Term → Term → Type 0
IsNormalFormula n a = IsNormalOf [] truth_type n a

abbrev mutual
  -- The tree stands at the long normal formula a, of polarity p, in this way.
  pub Stands : Bool → Term → ExpansionTree → Standing → Type 0
  Stands p a leaf_node s = s ≡ at_leaf p a
  Stands p a constant_node s = (v : Bool) × (a ≡ truth_value v) × (s ≡ at_constant p v)
  Stands p a (negation_node t) s = (b : Term) × (a ≡ negation_of b) × (n : Standing) × Stands (not p) b t n × (s ≡ at_negation n)
  Stands p a (connective_node op t u) s =
      (b : Term) × (c : Term) × (a ≡ compound_of op b c) × (m : Standing) × Stands (left_polarity op p) b t m
      × (n : Standing) × Stands p c u n × (s ≡ at_connective op p m n)
  Stands p a (selection_node name t) s =
      (ty : SimpleType) × (b : Term) × (a ≡ quantified (selecting p ty) ty b)
      × (n : Standing) × Stands p (instance_of b (free name ty)) t n × (s ≡ at_selection (name, ty) n)
  Stands p a (expansion_node bs) s =
      (ty : SimpleType) × (b : Term) × (a ≡ quantified (expanding p ty) ty b)
      × (ns : StandingBranches) × BranchesStand p ty b bs ns × (s ≡ at_expansion p ns)

  -- Each branch's term u is long of the type and has no loose index, and its tree stands at the long normal form of the instance
  -- of the body b with u.
  pub BranchesStand : Bool → SimpleType → Term → ExpansionBranches → StandingBranches → Type 0
  BranchesStand p ty b no_branch ns = ns ≡ none_standing
  BranchesStand p ty b (branch u t bs) ns =
      Long [] u ty × (a : Term) × IsNormalFormula a (instance_of b u) × (n : Standing) × Stands p a t n
      × (rest : StandingBranches) × BranchesStand p ty b bs rest × (ns ≡ branch_standing u n rest)

abbrev mutual
  -- the leaves from left to right, each with its polarity and its formula
  pub leaves : Standing → List (Bool × Term)
  leaves (at_leaf p a) = (p, a) ∷ []
  leaves (at_constant p v) = []
  leaves (at_negation n) = leaves n
  leaves (at_connective op p m n) = leaves m ++ leaves n
  leaves (at_selection v n) = leaves n
  leaves (at_expansion p ns) = branch_leaves ns

  pub branch_leaves : StandingBranches → List (Bool × Term)
  branch_leaves none_standing = []
  branch_leaves (branch_standing u n ns) = leaves n ++ branch_leaves ns

abbrev mutual
  pub leaf_count : Standing → ℕ
  leaf_count (at_leaf p a) = 1
  leaf_count (at_constant p v) = 0
  leaf_count (at_negation n) = leaf_count n
  leaf_count (at_connective op p m n) = leaf_count m + leaf_count n
  leaf_count (at_selection v n) = leaf_count n
  leaf_count (at_expansion p ns) = branch_leaf_count ns

  pub branch_leaf_count : StandingBranches → ℕ
  branch_leaf_count none_standing = 0
  branch_leaf_count (branch_standing u n ns) = leaf_count n + branch_leaf_count ns

-- a constant that is as its polarity wants it has no path, and any other the one empty path
abbrev pub constant_paths : Bool → Bool → List (List ℕ)
constant_paths true true = []
constant_paths false false = []
constant_paths true false = [] ∷ []
constant_paths false true = [] ∷ []

-- the paths of a compound: those of its two sides one after the other at positive AND, negative OR and negative IMPLIES, and each
-- joined with each elsewhere
abbrev pub compound_paths : Op → Bool → List (List ℕ) → List (List ℕ) → List (List ℕ)
compound_paths And true ps qs = ps ++ qs
compound_paths And false ps qs = joined ps qs
compound_paths Or true ps qs = joined ps qs
compound_paths Or false ps qs = ps ++ qs
compound_paths Imp true ps qs = joined ps qs
compound_paths Imp false ps qs = ps ++ qs

abbrev mutual
  -- the paths, each a list of leaf numbers, where the leftmost leaf has the number first
  pub paths_from : ℕ → Standing → List (List ℕ)
  paths_from first (at_leaf p a) = (first ∷ []) ∷ []
  paths_from first (at_constant p v) = constant_paths p v
  paths_from first (at_negation n) = paths_from first n
  paths_from first (at_connective op p m n) = compound_paths op p (paths_from first m) (paths_from (first + leaf_count m) n)
  paths_from first (at_selection v n) = paths_from first n
  paths_from first (at_expansion p ns) = branch_paths_from first ns

  -- each path of the first branch joined with each of the second and so on; with no branch the one empty path
  pub branch_paths_from : ℕ → StandingBranches → List (List ℕ)
  branch_paths_from first none_standing = [] ∷ []
  branch_paths_from first (branch_standing u n ns) = joined (paths_from first n) (branch_paths_from (first + leaf_count n) ns)

-- the paths, leaves being numbered from 1
abbrev pub paths : Standing → List (List ℕ)
paths s = paths_from 1 s

abbrev mutual
  -- how many nodes the tree has
  pub node_total : Standing → ℕ
  node_total (at_leaf p a) = 1
  node_total (at_constant p v) = 1
  node_total (at_negation n) = node_total n + 1
  node_total (at_connective op p m n) = node_total m + node_total n + 1
  node_total (at_selection v n) = node_total n + 1
  node_total (at_expansion p ns) = branch_node_total ns + 1

  pub branch_node_total : StandingBranches → ℕ
  branch_node_total none_standing = 0
  branch_node_total (branch_standing u n ns) = node_total n + branch_node_total ns

-- a selected variable with the number of its node
pub record Selection : Type 0 where
  pub node : ℕ
  pub variable : Variable

abbrev mutual
  -- the selected variables in the order of their nodes; nodes are numbered in preorder, the root having the number at
  pub selections_from : ℕ → Standing → List Selection
  selections_from at (at_leaf p a) = []
  selections_from at (at_constant p v) = []
  selections_from at (at_negation n) = selections_from (at + 1) n
  selections_from at (at_connective op p m n) = selections_from (at + 1) m ++ selections_from (at + 1 + node_total m) n
  selections_from at (at_selection v n) = record { node = at; variable = v } ∷ selections_from (at + 1) n
  selections_from at (at_expansion p ns) = branch_selections_from (at + 1) ns

  pub branch_selections_from : ℕ → StandingBranches → List Selection
  branch_selections_from at none_standing = []
  branch_selections_from at (branch_standing u n ns) = selections_from at n ++ branch_selections_from (at + node_total n) ns

-- the selected variables, nodes being numbered from 1
abbrev pub selections : Standing → List Selection
selections s = selections_from 1 s

abbrev mutual
  -- the selected variables alone, in the order of their nodes
  pub selected_variables : Standing → List Variable
  selected_variables (at_leaf p a) = []
  selected_variables (at_constant p v) = []
  selected_variables (at_negation n) = selected_variables n
  selected_variables (at_connective op p m n) = selected_variables m ++ selected_variables n
  selected_variables (at_selection v n) = v ∷ selected_variables n
  selected_variables (at_expansion p ns) = branch_selected_variables ns

  pub branch_selected_variables : StandingBranches → List Variable
  branch_selected_variables none_standing = []
  branch_selected_variables (branch_standing u n ns) = selected_variables n ++ branch_selected_variables ns

-- how an expansion of polarity p joins its branches: by AND where negative, by OR where positive
abbrev pub joining : Bool → Op
joining true = Or
joining false = And

abbrev mutual
  -- the deep formula: each leaf's formula, put together as the tree is; an expansion joins its branches from the left, and is TRUTH
  -- (negative) or FALSEHOOD (positive) where it has none
  pub deep_formula : Standing → Term
  deep_formula (at_leaf p a) = a
  deep_formula (at_constant p v) = truth_value v
  deep_formula (at_negation n) = negation_of (deep_formula n)
  deep_formula (at_connective op p m n) = compound_of op (deep_formula m) (deep_formula n)
  deep_formula (at_selection v n) = deep_formula n
  deep_formula (at_expansion p none_standing) = truth_value (not p)
  deep_formula (at_expansion p (branch_standing u n ns)) = joined_deep p (deep_formula n) ns

  -- the formula, joined with the deep formulas of the branches
  pub joined_deep : Bool → Term → StandingBranches → Term
  joined_deep p a none_standing = a
  joined_deep p a (branch_standing u n ns) = joined_deep p (compound_of (joining p) a (deep_formula n)) ns
