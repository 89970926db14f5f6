-- A model of conversion in plain functions, from which long normal forms are read back. A value of a base type is a family of
-- terms, by the number of variables around them; a value of a function type is a function of values.
use Rattle.std.specs.Prelude.{ℕ, zero, suc, ◌-◌, List, [], ◌∷◌, length}
use Rattle.hol_terms.specs.Terms.{SimpleType, base_type, function_type, Term, free, bound, constant, application, abstraction}
use Rattle.hol_terms.specs.Typing.{type_of_constant}

abbrev pub Value : SimpleType → Type 0
Value (base_type l) = ℕ → Term
Value (function_type r s) = Value s → Value r

-- a value read back as a long term, and a neutral term, by the variables around it, as a value
abbrev mutual
  pub reify : (t : SimpleType) → Value t → ℕ → Term
  reify (base_type l) v n = v n
  reify (function_type r s) f n = abstraction s (reify r (f (reflect s (λ m. bound (m - suc n)))) (suc n))

  pub reflect : (t : SimpleType) → (ℕ → Term) → Value t
  reflect (base_type l) v = v
  reflect (function_type r s) v = λ x. reflect r (λ n. application (v n) (reify s x n))

-- a value with its type
abbrev pub AnyValue : Type 0
AnyValue = (t : SimpleType) × Value t

-- some value of a type
abbrev pub default : (t : SimpleType) → Value t
default t = reflect t (λ n. bound 0)

-- a value as one of another type
abbrev mutual
  pub cast : (s t : SimpleType) → Value s → Value t
  cast (base_type a) (base_type b) v = v
  cast (base_type a) (function_type r s) v = default (function_type r s)
  cast (function_type r s) (base_type b) v = default (base_type b)
  cast (function_type r s) (function_type r' s') f = λ x. cast r r' (f (back s s' x))

  pub back : (s t : SimpleType) → Value t → Value s
  back (base_type a) (base_type b) v = v
  back (base_type a) (function_type r s) v = default (base_type a)
  back (function_type r s) (base_type b) v = default (function_type r s)
  back (function_type r s) (function_type r' s') f = λ x. back r r' (f (cast s s' x))

-- a function's value applied; another one is kept
abbrev pub apply_value : AnyValue → AnyValue → AnyValue
apply_value f a = elim f.0 as (λ t. Value t → AnyValue) [ base_type l ↦ λ v. (base_type l, v) | function_type r s ↦ λ v. (r, v (cast a.0 s a.1)) ] f.1

-- a function of values, with the type of its results
abbrev pub abstract_value : (s : SimpleType) → (Value s → AnyValue) → AnyValue
abstract_value s g = let r = (g (default s)).0 in (function_type r s, λ x. cast (g x).0 r (g x).1)

-- the values of the loose indices, with one before them
abbrev pub push : AnyValue → (ℕ → AnyValue) → ℕ → AnyValue
push x values zero = x
push x values (suc i) = values i

-- a value of each free variable
abbrev pub Names : Type 0
Names = List ℕ → (s : SimpleType) → Value s

-- each variable for itself
abbrev pub variables : Names
variables n s = reflect s (λ m. free n s)

-- the value of a term, by those of its free variables and of its loose indices
abbrev pub eval : Names → (ℕ → AnyValue) → Term → AnyValue
eval names values (free n s) = (s, names n s)
eval names values (bound i) = values i
eval names values (constant c) = (type_of_constant c, reflect (type_of_constant c) (λ m. constant c))
eval names values (application f a) = apply_value (eval names values f) (eval names values a)
eval names values (abstraction s b) = abstract_value s (λ x. eval names (push (s, x) values) b)

-- the values of the loose indices of a term, each the variable around the term, by the types of its loose indices
abbrev pub around : List SimpleType → ℕ → AnyValue
around [] = λ i. (base_type 0, λ n. bound 0)
around (s ∷ types) = push (s, reflect s (λ m. bound (m - suc (length types)))) (around types)
