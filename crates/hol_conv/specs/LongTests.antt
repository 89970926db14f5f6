-- Whether a term is long, as it is computed.
use Rattle.std.specs.Prelude.{List, ◌∷◌, Bool, false, ◌&&◌, cond, slice_get, Some, None}
use Rattle.std.specs.declared.option.Option.{Option}
use Rattle.hol_terms.specs.Terms.{SimpleType, base_type, function_type, Term, free, bound, constant, application, abstraction}
use Rattle.hol_terms.specs.Typing.{type_of_constant}
use Rattle.hol_terms.specs.Computed.{same_type}

-- the type of a head with one more argument, which the type asks for and the test accepts
abbrev pub with_argument : Option SimpleType → (SimpleType → Bool) → Option SimpleType
with_argument None accepts = None
with_argument (Some (base_type l)) accepts = None
with_argument (Some (function_type r s)) accepts = cond (accepts s) (Some r) None

-- the type that was found is this base letter
abbrev pub is_at_base : Option SimpleType → SimpleType → Bool
is_at_base None t = false
is_at_base (Some s) (base_type l) = same_type s (base_type l)
is_at_base (Some s) (function_type r p) = false

abbrev mutual
  -- the type of a neutral term
  pub neutral_type : List SimpleType → Term → Option SimpleType
  neutral_type types (free n s) = Some s
  neutral_type types (bound i) = slice_get types i
  neutral_type types (constant c) = Some (type_of_constant c)
  neutral_type types (application f a) = with_argument (neutral_type types f) (λ s. is_long types a s)
  neutral_type types (abstraction s b) = None

  pub is_long : List SimpleType → Term → SimpleType → Bool
  is_long types (free n s) t = is_at_base (Some s) t
  is_long types (bound i) t = is_at_base (slice_get types i) t
  is_long types (constant c) t = is_at_base (Some (type_of_constant c)) t
  is_long types (application f a) t = is_at_base (with_argument (neutral_type types f) (λ s. is_long types a s)) t
  is_long types (abstraction s b) (base_type l) = false
  is_long types (abstraction s b) (function_type r p) = same_type s p && is_long (s ∷ types) b r
