-- Long normal forms as they are computed, by hereditary substitution: an argument that is put for an index is at once applied to
-- the arguments that the index had. The calls go down in the type of the index first and then in the term.
use Rattle.std.specs.Prelude.{ℕ, zero, suc, ◌+◌, ◌-◌, List, [], ◌∷◌, eqb, nat_lt, cond}
use Rattle.hol_terms.specs.Terms.{SimpleType, base_type, function_type, Term, free, bound, constant, application, abstraction, truth_type}
use Rattle.hol_terms.specs.Typing.{type_of_constant}
use Rattle.hol_terms.specs.Indices.{raise}

-- a term applied to arguments, the first one first
abbrev pub apply_all : Term → List Term → Term
apply_all f [] = f
apply_all f (a ∷ rest) = apply_all (application f a) rest

-- what stands for index i, which is applied to the rest, where index k is replaced by u
abbrev pub put_long_index : (Term → List Term → Term) → ℕ → Term → ℕ → List Term → Term
put_long_index apply k u i rest =
    cond (eqb i k) (apply (raise k 0 u) rest) (cond (nat_lt i k) (apply_all (bound i) rest) (apply_all (bound (i - 1)) rest))

-- u for index k in a long term, which is applied to the rest; `apply` applies a long term of the index's type to arguments
abbrev pub put_long : (Term → List Term → Term) → ℕ → Term → Term → List Term → Term
put_long apply k u (free n s) rest = apply_all (free n s) rest
put_long apply k u (bound i) rest = put_long_index apply k u i rest
put_long apply k u (constant c) rest = apply_all (constant c) rest
put_long apply k u (application f a) rest = put_long apply k u f (put_long apply k u a [] ∷ rest)
put_long apply k u (abstraction s b) rest = apply_all (abstraction s (put_long apply (k + 1) u b [])) rest

-- a long term of a type, applied to long arguments
abbrev pub apply_long : SimpleType → Term → List Term → Term
apply_long (base_type l) f rest = apply_all f rest
apply_long (function_type r s) f [] = f
apply_long (function_type r s) (abstraction p b) (a ∷ rest) = apply_long r (put_long (apply_long s) 0 a b []) rest
apply_long (function_type r s) (free n t) (a ∷ rest) = apply_all (free n t) (a ∷ rest)
apply_long (function_type r s) (bound i) (a ∷ rest) = apply_all (bound i) (a ∷ rest)
apply_long (function_type r s) (constant c) (a ∷ rest) = apply_all (constant c) (a ∷ rest)
apply_long (function_type r s) (application f x) (a ∷ rest) = apply_all (application f x) (a ∷ rest)

-- the long term u of type s put for index k in the long term t
abbrev pub hereditary : SimpleType → ℕ → Term → Term → Term
hereditary s k u t = put_long (apply_long s) k u t []

-- the long form of a head with some of its arguments
abbrev pub long_form : SimpleType → Term → Term
long_form (base_type l) f = f
long_form (function_type r s) f = abstraction s (long_form r (application (raise 1 0 f) (long_form s (bound 0))))

-- the type of a head with one more argument; a letter asks for none
abbrev pub type_after_argument : SimpleType → SimpleType
type_after_argument (base_type l) = base_type l
type_after_argument (function_type r s) = r

-- the long form of a head, which has the type, with long arguments
abbrev pub long_head : SimpleType → Term → List Term → Term
long_head s f [] = long_form s f
long_head s f (a ∷ rest) = long_head (type_after_argument s) (application f a) rest

-- the type of an index; O where it has none
abbrev pub type_of_index : List SimpleType → ℕ → SimpleType
type_of_index [] i = truth_type
type_of_index (s ∷ types) zero = s
type_of_index (s ∷ types) (suc i) = type_of_index types i

-- a long abstraction applied to a long argument
abbrev pub apply_abstraction : Term → Term → Term
apply_abstraction (abstraction s b) a = hereditary s 0 a b
apply_abstraction f a = application f a

abbrev pub apply_abstractions : Term → List Term → Term
apply_abstractions f [] = f
apply_abstractions f (a ∷ rest) = apply_abstractions (apply_abstraction f a) rest

-- the long normal form of a term that is applied to long arguments
abbrev pub normal_with : List SimpleType → Term → List Term → Term
normal_with types (free n s) rest = long_head s (free n s) rest
normal_with types (bound i) rest = long_head (type_of_index types i) (bound i) rest
normal_with types (constant c) rest = long_head (type_of_constant c) (constant c) rest
normal_with types (application f a) rest = normal_with types f (normal_with types a [] ∷ rest)
normal_with types (abstraction s b) rest = apply_abstractions (abstraction s (normal_with (s ∷ types) b [])) rest

abbrev pub normal_form : List SimpleType → Term → Term
normal_form types t = normal_with types t []
