-- Long terms of one type and one weight over given heads.
use Rattle.std.specs.Prelude.{◌≡◌, ◌↔◌, ℕ, List, All, Contains}
use Rattle.hol_terms.specs.Terms.{SimpleType, Term}
use Rattle.hol_conv.specs.Conversion.{Long}
use Rattle.expansion_tree.specs.Budgets.{Head, heads_of}
use Rattle.expansion_tree.specs.Occurrences.{term_weight}

-- The term is long of the type s where its loose indices have the types of the list, it has exactly the weight, and each of its
-- heads that isn't bound is one of the given heads.
pub record IsLongTerm (types : List SimpleType) (given : List Head) (s : SimpleType) (weight : ℕ) (t : Term) : Type 0 where
  pub is_long : Long types t s
  pub weighs : term_weight t ≡ weight
  pub is_over : All (Contains given) (heads_of t)

-- the terms of the list are exactly those
abbrev pub AreLongTerms : List SimpleType → List Head → SimpleType → ℕ → List Term → Type 0
AreLongTerms types given s weight terms = (t : Term) → Contains terms t ↔ IsLongTerm types given s weight t
