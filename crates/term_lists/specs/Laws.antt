-- Laws of long terms, which the layers above may rest on. Each is a clause of a function of the module `laws`.
use Rattle.std.specs.Prelude.{◌≡◌, ◌↔◌, ◌⊎◌, ◌++◌, ℕ, suc, List, [], All, Contains, map}
use Rattle.hol_terms.specs.Terms.{SimpleType, base_type, Term, Variable}
use Rattle.hol_terms.specs.Splits.{letter_of}
use Rattle.hol_conv.specs.Conversion.{Long}
use Rattle.expansion_tree.specs.Budgets.{Head, variable_head, heads_of, IsInSignature, IsSelected}
use Rattle.expansion_tree.specs.Occurrences.{term_weight}
use Rattle.term_lists.specs.LongTerms.{IsLongTerm}
use Rattle.term_lists.specs.Spines.{types_below, abstraction_over, IsFromHeads, IsFromIndex}

-- a long term of a type is the abstraction, over each argument of the type, of a long term of the type's letter
abbrev pub LongByBody : Type 0
LongByBody =
    (types : List SimpleType) (given : List Head) (s : SimpleType) (weight : ℕ) (t : Term) → IsLongTerm types given s weight t
    ↔ ((b : Term) × IsLongTerm (types_below s types) given (base_type (letter_of s)) weight b × (t ≡ abstraction_over s b))

-- a long term of a letter is a head, one of the given ones or a bound index, with long arguments for all that its type asks for, and
-- weighs one more than these together
abbrev pub LongByHead : Type 0
LongByHead =
    (types : List SimpleType) (given : List Head) (letter left : ℕ) (t : Term) → IsLongTerm types given (base_type letter) (suc left) t
    ↔ (IsFromHeads types given letter left given t ⊎ IsFromIndex types given letter left t)

-- no long term weighs nothing
abbrev pub LongWeighsSome : Type 0
LongWeighsSome = (types : List SimpleType) (given : List Head) (s : SimpleType) (t : Term) → IsLongTerm types given s 0 t → ⊥

-- the long terms over a formula's signature and over selected variables are those that a budget of the level allows
abbrev pub LongInBudget : Type 0
LongInBudget =
    (formula : Term) (level : ℕ) (signature : List Head) (selected : List Variable) (s : SimpleType) (weight : ℕ) (t : Term)
    → ((h : Head) → Contains signature h ↔ IsInSignature formula level h)
    → IsLongTerm [] (signature ++ map variable_head selected) s weight t
    ↔ (Long [] t s × (term_weight t ≡ weight) × All (λ (h : Head). IsInSignature formula level h ⊎ IsSelected selected h) (heads_of t))
