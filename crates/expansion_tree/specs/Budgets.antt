-- The heads that a search may put into terms, and the trees that lie within a budget of weight.
use Rattle.std.specs.Prelude.{◌≡◌, ℕ, ◌≤◌, List, [], ◌∷◌, ◌++◌, Contains, All, Bool, codes, ◌⊎◌}
use Rattle.hol_terms.specs.Terms.{SimpleType, base_type, function_type, Constant, negation, conjunction, disjunction, implication, truth, falsehood, forall, exists, Term, free, bound, constant, application, abstraction, Variable}
use Rattle.hol_terms.specs.FreeVariables.{free_variables_of}
use Rattle.expansion_tree.specs.Trees.{ExpansionTree}
use Rattle.expansion_tree.specs.Standing.{Standing, leaves, selected_variables, IsNormalFormula}
use Rattle.expansion_tree.specs.Occurrences.{Occurrence, occurrences_of, tree_weight}

-- a head that isn't bound: a free variable or a constant
pub data Head : Type 0 where
  variable_head : Variable → Head
  constant_head : Constant → Head

-- the heads of a term that aren't bound, at each of their occurrences, from left to right
abbrev pub heads_of : Term → List Head
heads_of (free n s) = variable_head (n, s) ∷ []
heads_of (bound i) = []
heads_of (constant c) = constant_head c ∷ []
heads_of (application f a) = heads_of f ++ heads_of a
heads_of (abstraction s b) = heads_of b

-- a type, and then the parts of its result and of its argument
abbrev pub parts_of_type : SimpleType → List SimpleType
parts_of_type (base_type l) = base_type l ∷ []
parts_of_type (function_type r s) = function_type r s ∷ parts_of_type r ++ parts_of_type s

abbrev pub types_of_constant : Constant → List SimpleType
types_of_constant negation = []
types_of_constant conjunction = []
types_of_constant disjunction = []
types_of_constant implication = []
types_of_constant truth = []
types_of_constant falsehood = []
types_of_constant (forall s) = parts_of_type s
types_of_constant (exists s) = parts_of_type s

-- the types at the free variables, quantifiers and abstractions of a term in preorder, each with its parts
abbrev pub types_in : Term → List SimpleType
types_in (free n s) = parts_of_type s
types_in (bound i) = []
types_in (constant c) = types_of_constant c
types_in (application f a) = types_in f ++ types_in a
types_in (abstraction s b) = parts_of_type s ++ types_in b

-- the variable FILL at a base type
abbrev pub IsFill : Variable → Type 0
IsFill v = (letter : ℕ) × (65 ≤ letter) × (letter ≤ 90) × (v ≡ (codes "FILL", base_type letter))

-- The signature of a formula at a level from 0 to 2, where n is the formula's long normal form: at every level the free variables of
-- the formula and FILL at each base type, from level 1 on the connectives, TRUTH and FALSEHOOD, and at level 2 the quantifiers at each
-- type that stands in n.
abbrev pub HasConstant : Term → ℕ → Constant → Type 0
HasConstant n level negation = 1 ≤ level
HasConstant n level conjunction = 1 ≤ level
HasConstant n level disjunction = 1 ≤ level
HasConstant n level implication = 1 ≤ level
HasConstant n level truth = 1 ≤ level
HasConstant n level falsehood = 1 ≤ level
HasConstant n level (forall s) = (2 ≤ level) × Contains (types_in n) s
HasConstant n level (exists s) = (2 ≤ level) × Contains (types_in n) s

abbrev pub IsInSignature : Term → ℕ → Head → Type 0
IsInSignature formula level (variable_head v) = Contains (free_variables_of formula) v ⊎ IsFill v
IsInSignature formula level (constant_head c) = (n : Term) × IsNormalFormula n formula × HasConstant n level c

-- the head is a free variable that is selected
abbrev pub IsSelected : List Variable → Head → Type 0
IsSelected selected (variable_head v) = Contains selected v
IsSelected selected (constant_head c) = ⊥

-- the term's head is a free variable
abbrev pub HasVariableHead : Term → Type 0
HasVariableHead (free n s) = Unit {0}
HasVariableHead (bound i) = ⊥
HasVariableHead (constant c) = ⊥
HasVariableHead (application f a) = HasVariableHead f
HasVariableHead (abstraction s b) = ⊥

-- The tree, which stands at the formula in the given way, lies within the budget: it weighs at most so much, each leaf carries a
-- formula whose head is a variable, and each head of a term is in the signature, selected in the tree, or bound.
pub record IsInBudget (formula : Term) (weight level : ℕ) (tree : ExpansionTree) (s : Standing) : Type 0 where
  pub light : tree_weight tree ≤ weight
  pub atoms : All (λ (leaf : Bool × Term). HasVariableHead leaf.1) (leaves s)
  pub heads : All (λ (o : Occurrence). All (λ (h : Head). IsInSignature formula level h ⊎ IsSelected (selected_variables s) h) (heads_of o.term)) (occurrences_of tree)
