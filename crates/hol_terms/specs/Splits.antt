-- The arguments and the result letter of a type.
use Rattle.std.specs.Prelude.{ℕ, List, [], ◌∷◌}
use Rattle.hol_terms.specs.Terms.{SimpleType, base_type, function_type}

-- the types of the arguments, in the order of application
abbrev pub arguments_of : SimpleType → List SimpleType
arguments_of (base_type l) = []
arguments_of (function_type r s) = s ∷ arguments_of r

-- the letter of the type that is left once all arguments are given
abbrev pub letter_of : SimpleType → ℕ
letter_of (base_type l) = l
letter_of (function_type r s) = letter_of r
