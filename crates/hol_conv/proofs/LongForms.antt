-- A head that is raised once has the same long form as one that is raised at each missing argument.
use Rattle.std.proofs.Common.{ℕ, ◌+◌, ◌≡◌, refl, sym, ap, ap₂, ◌∙◌, arith}
use Rattle.hol_terms.specs.Terms.{SimpleType, base_type, function_type, Term, bound, application, abstraction}
use Rattle.hol_terms.specs.Indices.{raise}
use Rattle.hol_terms.proofs.IndexLaws.{raise-none, raise-raise, raise-swap, raise_index-zero}
use Rattle.hol_conv.specs.NormalForms.{long_form}
use Rattle.hol_conv.specs.LongForms.{missing_arguments, filled_form}

-- room for a call at the same type before one at a part
abbrev pub twice_size : SimpleType → ℕ
twice_size (base_type l) = 0
twice_size (function_type r s) = twice_size r + twice_size s + 2

raise_of_long_form : (t : SimpleType) (d c : ℕ) (f : Term) → raise d c (long_form t f) ≡ long_form t (raise d c f)
raise_of_long_form (base_type l) d c f = refl
raise_of_long_form (function_type r s) d c f =
    ap (abstraction s)
    (raise_of_long_form r d (c + 1) (application (raise 1 0 f) (long_form s (bound 0)))
    ∙ ap (long_form r)
    (ap₂ application
    (raise-swap d 1 c 0 f (omega arith))
    (raise_of_long_form s d (c + 1) (bound 0) ∙ ap (λ i. long_form s (bound i)) (raise_index-zero d c))))

pub long_form_filled : (t : SimpleType) (f : Term) → long_form t f ≡ filled_form t (raise (missing_arguments t) 0 f)
long_form_filled (base_type l) f = sym (raise-none 0 f)
long_form_filled (function_type r s) f =
    let m = missing_arguments r in
    ap (abstraction s)
    (long_form_filled r (application (raise 1 0 f) (long_form s (bound 0)))
    ∙ ap (filled_form r)
    (ap₂ application
    (raise-raise 1 m 0 0 f (omega arith) (omega arith) ∙ ap (λ n. raise n 0 f) (let e : 1 + m ≡ m + 1 = omega arith in e))
    (raise_of_long_form s m 0 (bound 0) ∙ ap (λ i. long_form s (bound i)) (let e : 0 + m ≡ m = omega arith in e))))
