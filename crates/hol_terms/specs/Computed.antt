-- Equality of types and names as tests, and the type of a term as it is computed.
use Rattle.std.specs.Prelude.{ℕ, List, [], ◌∷◌, Bool, true, false, ◌&&◌, eqb, cond, slice_get, Some, None}
use Rattle.std.specs.declared.option.Option.{Option}
use Rattle.hol_terms.specs.Terms.{SimpleType, base_type, function_type, Term, free, bound, constant, application, abstraction, Variable}
use Rattle.hol_terms.specs.Typing.{type_of_constant}

abbrev pub same_type : SimpleType → SimpleType → Bool
same_type (base_type a) (base_type b) = eqb a b
same_type (base_type a) (function_type r s) = false
same_type (function_type r s) (base_type b) = false
same_type (function_type r s) (function_type q p) = same_type r q && same_type s p

abbrev pub same_name : List ℕ → List ℕ → Bool
same_name [] [] = true
same_name [] (d ∷ ds) = false
same_name (c ∷ cs) [] = false
same_name (c ∷ cs) (d ∷ ds) = eqb c d && same_name cs ds

abbrev pub same_variable : Variable → Variable → Bool
same_variable v w = same_name v.0 w.0 && same_type v.1 w.1

-- a type was found, and it is this one
abbrev pub is_found : Option SimpleType → SimpleType → Bool
is_found None s = false
is_found (Some r) s = same_type r s

-- the type of an application from those of its parts
abbrev pub applied : Option SimpleType → Option SimpleType → Option SimpleType
applied None a = None
applied (Some (base_type l)) a = None
applied (Some (function_type r s)) a = cond (is_found a s) (Some r) None

-- the type of an abstraction from that of its body
abbrev pub abstracted : SimpleType → Option SimpleType → Option SimpleType
abstracted s None = None
abstracted s (Some r) = Some (function_type r s)

abbrev pub type_in : List SimpleType → Term → Option SimpleType
type_in types (free n s) = Some s
type_in types (bound i) = slice_get types i
type_in types (constant c) = Some (type_of_constant c)
type_in types (application f a) = applied (type_in types f) (type_in types a)
type_in types (abstraction s b) = abstracted s (type_in (s ∷ types) b)
