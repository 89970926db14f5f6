-- Conversion is equality of values, and what follows from it for substitution.
use Rattle.std.proofs.Common.{ℕ, List, ◌∷◌, ◌≡◌, sym, subst, ◌∙◌}
use Rattle.hol_terms.specs.Terms.{SimpleType, Term}
use Rattle.hol_terms.specs.Typing.{Typed}
use Rattle.hol_terms.specs.Indices.{raise, put}
use Rattle.hol_conv.specs.Conversion.{Conv, long, Long}
use Rattle.hol_conv.specs.NormalForms.{normal_form, hereditary, apply_long}
use Rattle.hol_conv.specs.Values.{Names, variables, AnyValue, eval, push, around}
use Rattle.hol_conv.proofs.Model.{eval-put, eval-conv, eval-type, Replaced, push-replaced, push-instance, fits-around, fits-push, Fits, unique_value, form-typed, as_type}
use Rattle.hol_conv.proofs.Steps.{conv-trans, form-raise}
use Rattle.hol_terms.proofs.TypingLaws.{shifted_one}
use Rattle.hol_terms.proofs.IndexLaws.{raise-none}
use Rattle.hol_conv.proofs.Uniqueness.{conv-sym}
use Rattle.hol_conv.proofs.Existence.{normal_form-becomes, put_long_in_long, apply_long-becomes, removed-instance, removed-push, Removed}

pub same_value : (types : List SimpleType) (t : SimpleType) (a b : Term) → Typed types a t → Typed types b t → eval variables (around types) a ≡ eval variables (around types) b → Conv types t a b
same_value types t a b ha hb e =
    let x = normal_form-becomes types a t ha in
    let y = normal_form-becomes types b t hb in
    let n = normal_form types a in
    let m = normal_form types b in
    let ea = eval-conv variables types t a n (around types) (fits-around types) x.1 in
    let eb = eval-conv variables types t b m (around types) (fits-around types) y.1 in
    let nm : n ≡ m = unique_value types t n m x.0 y.0 (sym ea ∙ e ∙ eb) in
    conv-trans types t a n b x.1 (subst (λ (n : Term). Conv types t n b) (sym nm) (conv-sym types t b m y.1))

-- the value of a hereditary substitution, at any index
pub eval-hereditary : (names : Names) (k : ℕ) (s r : SimpleType) (u b : Term) (types new : List SimpleType) → Removed k s types new → Long new (raise k 0 u) s → Long types b r
    → (values put-values : ℕ → AnyValue) → Fits new values → Replaced names k u put-values values → eval names values (hereditary s k u b) ≡ eval names put-values b
eval-hereditary names k s r u b types new w hu hb values put-values fits h =
    let x = put_long_in_long s (apply_long s) (apply_long-becomes s) k u b types new w hu r hb in
    sym (eval-conv names new r (put k u b) (hereditary s k u b) values fits x.1) ∙ eval-put names k u b put-values values h

-- two substitutions commute
pub hereditary_commute : (q s r : SimpleType) (v u b : Term) (types : List SimpleType) → Long types v q → Long (q ∷ types) u s → Long (s ∷ q ∷ types) b r
    → hereditary q 0 v (hereditary s 0 u b) ≡ hereditary s 0 (hereditary q 0 v u) (hereditary q 1 v b)
hereditary_commute q s r v u b types hv hu hb =
    let hv0 : Long types (raise 0 0 v) q = rw (raise-none 0 v) hv in
    let hu0 : Long (q ∷ types) (raise 0 0 u) s = rw (raise-none 0 u) hu in
    let hv1 : Long (s ∷ types) (raise 1 0 v) q = form-raise 1 0 long types (s ∷ types) v q (shifted_one types s) hv in
    let out = removed-instance q types in
    let out1 = removed-push 0 q s (q ∷ types) types out in
    let ub = put_long_in_long s (apply_long s) (apply_long-becomes s) 0 u b (s ∷ q ∷ types) (q ∷ types) (removed-instance s (q ∷ types)) hu0 r hb in
    let vu = put_long_in_long q (apply_long q) (apply_long-becomes q) 0 v u (q ∷ types) types out hv0 s hu in
    let vb = put_long_in_long q (apply_long q) (apply_long-becomes q) 1 v b (s ∷ q ∷ types) (s ∷ types) out1 hv1 r hb in
    let hvu0 : Long types (raise 0 0 (hereditary q 0 v u)) s = rw (raise-none 0 (hereditary q 0 v u)) vu.0 in
    let left = put_long_in_long q (apply_long q) (apply_long-becomes q) 0 v (hereditary s 0 u b) (q ∷ types) types out hv0 r ub.0 in
    let right = put_long_in_long s (apply_long s) (apply_long-becomes s) 0 (hereditary q 0 v u) (hereditary q 1 v b) (s ∷ types) types (removed-instance s types) hvu0 r vb.0 in
    let values = around types in
    let fits = fits-around types in
    let x = as_type q (eval variables values v) (eval-type variables types v q values fits (form-typed long types v q hv)) in
    let values_q = push (q, x.0) values in
    let fits_q = fits-push types values q x.0 fits in
    let y = as_type s (eval variables values_q u) (eval-type variables (q ∷ types) u s values_q fits_q (form-typed long (q ∷ types) u s hu)) in
    let put_v = push-instance variables v values (q, x.0) x.1 in
    let value_vu = eval-hereditary variables 0 q s v u (q ∷ types) types out hv0 hu values values_q fits put_v ∙ y.1 in
    unique_value types r (hereditary q 0 v (hereditary s 0 u b)) (hereditary s 0 (hereditary q 0 v u) (hereditary q 1 v b)) left.0 right.0
    (eval-hereditary variables 0 q r v (hereditary s 0 u b) (q ∷ types) types out hv0 ub.0 values values_q fits put_v
    ∙ eval-hereditary variables 0 s r u b (s ∷ q ∷ types) (q ∷ types) (removed-instance s (q ∷ types)) hu0 hb values_q (push (s, y.0) values_q) fits_q (push-instance variables u values_q (s, y.0) y.1)
    ∙ sym (eval-hereditary variables 1 q r v b (s ∷ q ∷ types) (s ∷ types) out1 hv1 hb (push (s, y.0) values) (push (s, y.0) values_q) (fits-push types values s y.0 fits) (push-replaced variables 0 v (s, y.0) values_q values put_v))
    ∙ sym (eval-hereditary variables 0 s r (hereditary q 0 v u) (hereditary q 1 v b) (s ∷ types) types (removed-instance s types) hvu0 vb.0 values (push (s, y.0) values) fits (push-instance variables (hereditary q 0 v u) values (s, y.0) value_vu)))
