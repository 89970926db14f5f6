-- How deep the calls of a hereditary substitution go.
use Rattle.std.proofs.Common.{ℕ, ◌+◌, List, [], ◌∷◌}
use Rattle.hol_terms.specs.Terms.{SimpleType, base_type, function_type, Term, free, bound, constant, application, abstraction}
use Rattle.hol_terms.specs.Indices.{raise}
use Rattle.hol_conv.specs.NormalForms.{put_long, apply_long}

abbrev pub put_long_height : (Term → List Term → Term) → (Term → List Term → ℕ) → ℕ → Term → Term → List Term → ℕ
put_long_height apply height k u (free n s) rest = 1
put_long_height apply height k u (bound i) rest = height (raise k 0 u) rest + 2
put_long_height apply height k u (constant c) rest = 1
put_long_height apply height k u (application f a) rest = put_long_height apply height k u a [] + put_long_height apply height k u f (put_long apply k u a [] ∷ rest) + 1
put_long_height apply height k u (abstraction s b) rest = put_long_height apply height (k + 1) u b [] + 1

abbrev pub apply_long_height : SimpleType → Term → List Term → ℕ
apply_long_height (base_type l) f rest = 1
apply_long_height (function_type r s) f [] = 1
apply_long_height (function_type r s) (abstraction p b) (a ∷ rest) = put_long_height (apply_long s) (apply_long_height s) 0 a b [] + apply_long_height r (put_long (apply_long s) 0 a b []) rest + 2
apply_long_height (function_type r s) (free n t) (a ∷ rest) = 1
apply_long_height (function_type r s) (bound i) (a ∷ rest) = 1
apply_long_height (function_type r s) (constant c) (a ∷ rest) = 1
apply_long_height (function_type r s) (application f x) (a ∷ rest) = 1
