-- The signature of a formula as a list of heads, and types in the order in which they stand in a term.
use Rattle.std.specs.Prelude.{◌≡◌, ℕ, List, [], ◌∷◌, ◌++◌, not, filter, flat_map, map, cond, nat_le, codes, Some, slice_get}
use Rattle.std.specs.List.{list_any, range_with_len}
use Rattle.hol_terms.specs.Terms.{SimpleType, base_type, Constant, negation, conjunction, disjunction, implication, truth, falsehood, forall, exists, Term, Variable}
use Rattle.hol_terms.specs.Computed.{same_type, same_variable}
use Rattle.hol_terms.specs.FreeVariables.{free_variables_of}
use Rattle.expansion_tree.specs.Budgets.{Head, variable_head, constant_head, types_in}

-- the variable FILL at the base type of a letter
abbrev pub fill_at : ℕ → Variable
fill_at letter = (codes "FILL", base_type letter)

-- the variables FILL at the base types from A to Z
abbrev pub fill_variables : List Variable
fill_variables = map fill_at (range_with_len 65 26)

-- those of the variables that aren't among the known ones
abbrev pub new_variables : List Variable → List Variable → List Variable
new_variables known = filter (λ v. not (list_any (same_variable v) known))

abbrev pub connectives : List Constant
connectives = negation ∷ conjunction ∷ disjunction ∷ implication ∷ truth ∷ falsehood ∷ []

-- the quantifiers at a type
abbrev pub quantifiers_at : SimpleType → List Constant
quantifiers_at s = forall s ∷ exists s ∷ []

-- each type of the list once, where it stands first
abbrev pub first_types : List SimpleType → List SimpleType
first_types [] = []
first_types (s ∷ rest) = s ∷ filter (λ r. not (same_type s r)) (first_types rest)

-- from level 1 on the connectives, TRUTH and FALSEHOOD, and at level 2 the quantifiers at each type that stands in the term
abbrev pub constants_at : ℕ → Term → List Constant
constants_at level n = cond (nat_le 1 level) connectives [] ++ cond (nat_le 2 level) (flat_map quantifiers_at (first_types (types_in n))) []

-- the formula's free variables, FILL at each base type, where it isn't one of these, and then the constants, where n is the
-- formula's long normal form
abbrev pub signature_list : Term → Term → ℕ → List Head
signature_list formula n level =
    let variables = free_variables_of formula in
    map variable_head (variables ++ new_variables variables fill_variables) ++ map constant_head (constants_at level n)

-- no item stands at two places
abbrev pub AreDistinct : List Head → Type 0
AreDistinct heads = (i j : ℕ) (h : Head) → slice_get heads i ≡ Some h → slice_get heads j ≡ Some h → i ≡ j

-- types as they are collected

abbrev pub with_type : List SimpleType → SimpleType → List SimpleType
with_type collected s = cond (list_any (same_type s) collected) collected (collected ++ s ∷ [])

abbrev pub with_types : List SimpleType → List SimpleType → List SimpleType
with_types collected [] = collected
with_types collected (s ∷ rest) = with_types (with_type collected s) rest
