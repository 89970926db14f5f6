-- What follows from one long normal form: how it passes through applications, abstractions, connectives, instances and terms put
-- for free variables.
use Rattle.std.proofs.Common.{ℕ, zero, suc, ◌+◌, ◌-◌, ◌<◌, List, ◌∷◌, Bool, true, false, cond, ◌≡◌, ◌↔◌, refl, sym, ap, ap₂, subst, ◌∙◌, slice_get, Some, inl, inr, ◌⊎◌}
use Rattle.hol_terms.specs.Terms.{SimpleType, function_type, Term, free, bound, constant, application, abstraction, negation, conjunction, disjunction, implication, forall, exists}
use Rattle.hol_terms.specs.Typing.{Typed}
use Rattle.hol_terms.specs.Computed.{same_variable}
use Rattle.hol_terms.specs.Indices.{raise, put, put_index}
use Rattle.hol_terms.specs.FreeVariables.{IsFree, replace_free}
use Rattle.hol_terms.proofs.Same.{same_variable_parts}
use Rattle.hol_terms.proofs.IndexLaws.{raise-none, raise_index-zero, raise_index-suc, raise_index-one, put_index-less, put_index-same, put_index-more, put_index-at}
use Rattle.hol_terms.proofs.TypingLaws.{Shifted, shifted_under, shifted_one, typed_instance}
use Rattle.hol_terms.proofs.Replacing.{typed-replace_free, replace_free-replace_free}
use Rattle.hol_conv.specs.Conversion.{Step, Conv, done, next, Form, neutral, long, HasForm, Long, IsNormalOf}
use Rattle.hol_conv.specs.NormalForms.{apply_long, hereditary, long_form, apply_abstraction, normal_form}
use Rattle.hol_conv.specs.Values.{AnyValue, Value, Names, variables, cast, eval, push, around, abstract_value, apply_value}
use Rattle.hol_conv.proofs.Model.{recast, eval-put, eval-raise, eval-conv, eval-type, Raised, push-shifted, push-instance, fits-around, fits-push, unique_value, unique, form-typed, as_type, funext, conv-first}
use Rattle.hol_conv.proofs.Steps.{conv-trans, conv-in-function, conv-in-argument, form-raise}
use Rattle.hol_conv.proofs.Uniqueness.{conv-sym, conv-last}
use Rattle.hol_conv.proofs.Existence.{normal_form-becomes, apply_abstraction-becomes, long_form-becomes, put_long_in_long, apply_long-becomes, removed-instance, removed-push, Removed}
use Rattle.hol_conv.proofs.Commuting.{same_value}

-- one long normal form

pub normal_is : (types : List SimpleType) (a n : Term) (t : SimpleType) → Long types n t → Conv types t a n → normal_form types a ≡ n
normal_is types a n t h c =
    let x = normal_form-becomes types a t (conv-first types t a n c) in
    unique types t (normal_form types a) n x.0 h (conv-trans types t (normal_form types a) a n (conv-sym types t a (normal_form types a) x.1) c)

pub normal_of_long : (types : List SimpleType) (a : Term) (t : SimpleType) → Long types a t → normal_form types a ≡ a
normal_of_long types a t h = normal_is types a a t h (done a (form-typed long types a t h))

pub normal_same : (types : List SimpleType) (a b : Term) (t : SimpleType) → Conv types t a b → normal_form types a ≡ normal_form types b
normal_same types a b t c =
    let y = normal_form-becomes types b t (conv-last types t a b c) in
    normal_is types a (normal_form types b) t y.0 (conv-trans types t a b (normal_form types b) c y.1)

-- two typed terms are convertible exactly where they have the same normal form
pub same_normal : (types : List SimpleType) (a b : Term) (t : SimpleType) → Typed types a t → Typed types b t → Conv types t a b ↔ (normal_form types a ≡ normal_form types b)
same_normal types a b t ha hb = (normal_same types a b t, back)
  where
    back : normal_form types a ≡ normal_form types b → Conv types t a b
    back e =
        let x = normal_form-becomes types a t ha in
        let y = normal_form-becomes types b t hb in
        conv-trans types t a (normal_form types a) b x.1
        (subst (λ (n : Term). Conv types t n b) (sym e) (conv-sym types t b (normal_form types b) y.1))

-- a step between typed terms keeps the normal form
pub normal_of_step : (types : List SimpleType) (a b : Term) (t : SimpleType) → Typed types a t → Typed types b t → Step a b → normal_form types a ≡ normal_form types b
normal_of_step types a b t ha hb s = normal_same types a b t (next a b b ha (inl s) (done b hb))

pub has_normal_form : (types : List SimpleType) (t : Term) (s : SimpleType) → Typed types t s → IsNormalOf types s (normal_form types t) t
has_normal_form types t s h = let x = normal_form-becomes types t s h in (x.0, conv-sym types s t (normal_form types t) x.1)

pub one_normal_form : (types : List SimpleType) (t n m : Term) (s : SimpleType) → IsNormalOf types s n t → IsNormalOf types s m t → n ≡ m
one_normal_form types t n m s hn hm = unique types s n m hn.0 hm.0 (conv-trans types s n t m hn.1 (conv-sym types s m t hm.1))

pub same_values : (types : List SimpleType) (t u : Term) (s : SimpleType) → Typed types t s → Typed types u s
    → Conv types s t u ↔ (eval variables (around types) t ≡ eval variables (around types) u)
same_values types t u s ht hu = (eval-conv variables types s t u (around types) (fits-around types), same_value types s t u ht hu)

-- applications, abstractions and instances

pub normal_application : (types : List SimpleType) (f a : Term) (t s : SimpleType) → Typed types f (function_type t s) → Typed types a s
    → normal_form types (application f a) ≡ apply_abstraction (normal_form types f) (normal_form types a)
normal_application types f a t s hf ha =
    let nf = normal_form types f in
    let na = normal_form types a in
    let x = normal_form-becomes types f (function_type t s) hf in
    let y = normal_form-becomes types a s ha in
    let z = apply_abstraction-becomes types t s nf na x.0 y.0 in
    normal_is types (application f a) (apply_abstraction nf na) t z.0
    (conv-trans types t (application f a) (application nf a) (apply_abstraction nf na) (conv-in-function types t s f nf a ha x.1)
    (conv-trans types t (application nf a) (application nf na) (apply_abstraction nf na)
    (conv-in-argument types t s nf a na (form-typed long types nf (function_type t s) x.0) y.1) z.1))

-- conversion of instances
pub conv-put : (types : List SimpleType) (s r : SimpleType) (u w b c : Term) → Conv types s u w → Conv (s ∷ types) r b c → Conv types r (put 0 u b) (put 0 w c)
conv-put types s r u w b c cu cb =
    let values = around types in
    let fits = fits-around types in
    let hu = conv-first types s u w cu in
    let x = as_type s (eval variables values u) (eval-type variables types u s values fits hu) in
    let ew : eval variables values w ≡ (s, x.0) = sym (eval-conv variables types s u w values fits cu) ∙ x.1 in
    same_value types r (put 0 u b) (put 0 w c)
    (typed_instance types s u b r hu (conv-first (s ∷ types) r b c cb))
    (typed_instance types s w c r (conv-last types s u w cu) (conv-last (s ∷ types) r b c cb))
    (eval-put variables 0 u b (push (s, x.0) values) values (push-instance variables u values (s, x.0) x.1)
    ∙ eval-conv variables (s ∷ types) r b c (push (s, x.0) values) (fits-push types values s x.0 fits) cb
    ∙ sym (eval-put variables 0 w c (push (s, x.0) values) values (push-instance variables w values (s, x.0) ew)))

pub normal_instance : (types : List SimpleType) (s r : SimpleType) (u b : Term) → Typed types u s → Typed (s ∷ types) b r
    → normal_form types (put 0 u b) ≡ hereditary s 0 (normal_form types u) (normal_form (s ∷ types) b)
normal_instance types s r u b hu hb =
    let nu = normal_form types u in
    let nb = normal_form (s ∷ types) b in
    let x = normal_form-becomes types u s hu in
    let y = normal_form-becomes (s ∷ types) b r hb in
    let hu0 : Long types (raise 0 0 nu) s = rw (raise-none 0 nu) x.0 in
    let z = put_long_in_long s (apply_long s) (apply_long-becomes s) 0 nu nb (s ∷ types) types (removed-instance s types) hu0 r y.0 in
    normal_is types (put 0 u b) (hereditary s 0 nu nb) r z.0
    (conv-trans types r (put 0 u b) (put 0 nu nb) (hereditary s 0 nu nb) (conv-put types s r u nu b nb x.1 y.1) z.1)

-- a variable put for an index keeps the form
form-put_variable : (k : ℕ) (n : List ℕ) (s : SimpleType) (form : Form) (types new : List SimpleType) (a : Term) (t : SimpleType) → Removed k s types new → HasForm form types a t
    → HasForm form new (put k (free n s) a) t
form-put_variable k n s form types new (free m q) t w h = h
form-put_variable k n s form types new (bound i) t w h = by_place (w i t h.1)
  where
    by_place : ((i < k) × (slice_get new i ≡ Some t)) ⊎ (((i ≡ k) × (s ≡ t)) ⊎ ((k < i) × (slice_get new (i - 1) ≡ Some t))) → HasForm form new (put_index k (free n s) i) t
    by_place (inl p) = let less : i < k = p.0 in rw (put_index-less k (free n s) i less) (h.0, p.1)
    by_place (inr (inl p)) = rw (put_index-at k (free n s) i p.0) (h.0, p.1)
    by_place (inr (inr p)) = let more : k < i = p.0 in rw (put_index-more k (free n s) i more) (h.0, p.1)
form-put_variable k n s form types new (constant c) t w h = h
form-put_variable k n s form types new (application f a) t w h =
    (h.0, (h.1.0, form-put_variable k n s neutral types new f (function_type t h.1.0) w h.1.1, form-put_variable k n s long types new a h.1.0 w h.1.2))
form-put_variable k n s neutral types new (abstraction q b) t w h = absurd h
form-put_variable k n s long types new (abstraction q b) t w h =
    (h.0, form-put_variable (k + 1) n s long (q ∷ types) (q ∷ new) b h.0 (removed-push k s q types new w) h.1, h.2)

pub normal_instance_variable : (types : List SimpleType) (n : List ℕ) (s r : SimpleType) (b : Term) → Typed (s ∷ types) b r
    → normal_form types (put 0 (free n s) b) ≡ put 0 (free n s) (normal_form (s ∷ types) b)
normal_instance_variable types n s r b hb =
    let nb = normal_form (s ∷ types) b in
    let y = normal_form-becomes (s ∷ types) b r hb in
    normal_is types (put 0 (free n s) b) (put 0 (free n s) nb) r
    (form-put_variable 0 n s long (s ∷ types) types nb r (removed-instance s types) y.0)
    (conv-put types s r (free n s) (free n s) b nb (done (free n s) refl) y.1)

-- terms put for free variables

-- the values where a free variable has another one
abbrev pub with_name : Names → List ℕ → (s : SimpleType) → Value s → Names
with_name names n s v m r = cond (same_variable (n, s) (m, r)) (cast s r v) (names m r)

eval-replace_free : (names : Names) (n : List ℕ) (s : SimpleType) (u t : Term) (values : ℕ → AnyValue) (v : Value s) → eval names values u ≡ (s, v)
    → eval names values (replace_free n s u t) ≡ eval (with_name names n s v) values t
eval-replace_free names n s u (free m r) values v e = by_test (same_variable (n, s) (m, r)) refl
  where
    by_test : (b : Bool) → same_variable (n, s) (m, r) ≡ b → (let given : AnyValue = (r, cond b (cast s r v) (names m r)) in eval names values (cond b u (free m r)) ≡ given)
    by_test true same = e ∙ sym (recast (s, v) r (same_variable_parts n m s r same).1)
    by_test false same = refl
eval-replace_free names n s u (bound i) values v e = refl
eval-replace_free names n s u (constant c) values v e = refl
eval-replace_free names n s u (application f a) values v e =
    ap₂ apply_value (eval-replace_free names n s u f values v e) (eval-replace_free names n s u a values v e)
eval-replace_free names n s u (abstraction q b) values v e =
    ap (abstract_value q)
    (funext (λ x. eval-replace_free names n s (raise 1 0 u) b (push (q, x) values) v (eval-raise names 1 0 u values (push (q, x) values) (push-shifted (q, x) values) ∙ e)))

pub conv-replace_free : (types : List SimpleType) (n : List ℕ) (s r : SimpleType) (u w a b : Term) → Conv types s u w → Conv types r a b
    → Conv types r (replace_free n s u a) (replace_free n s w b)
conv-replace_free types n s r u w a b cu ca =
    let values = around types in
    let fits = fits-around types in
    let hu = conv-first types s u w cu in
    let x = as_type s (eval variables values u) (eval-type variables types u s values fits hu) in
    let ew : eval variables values w ≡ (s, x.0) = sym (eval-conv variables types s u w values fits cu) ∙ x.1 in
    same_value types r (replace_free n s u a) (replace_free n s w b)
    (typed-replace_free types n s u a r hu (conv-first types r a b ca))
    (typed-replace_free types n s w b r (conv-last types s u w cu) (conv-last types r a b ca))
    (eval-replace_free variables n s u a values x.0 x.1
    ∙ eval-conv (with_name variables n s x.0) types r a b values fits ca
    ∙ sym (eval-replace_free variables n s w b values x.0 ew))

-- the normal form of a term with another put for a variable depends on their normal forms alone
pub normal_replace_free : (types : List SimpleType) (n : List ℕ) (s r : SimpleType) (u t : Term) → Typed types u s → Typed types t r
    → normal_form types (replace_free n s u t) ≡ normal_form types (replace_free n s (normal_form types u) (normal_form types t))
normal_replace_free types n s r u t hu ht =
    normal_same types (replace_free n s u t) (replace_free n s (normal_form types u) (normal_form types t)) r
    (conv-replace_free types n s r u (normal_form types u) t (normal_form types t) (normal_form-becomes types u s hu).1 (normal_form-becomes types t r ht).1)

-- two terms put for two variables, with normal forms taken at each turn
pub normal_replacements_commute : (types : List SimpleType) (n m : List ℕ) (s q r : SimpleType) (u v t : Term) → Typed types u s → Typed types v q → Typed types t r
    → ((n ≡ m) × (s ≡ q) → ⊥) → (IsFree n s v → ⊥)
    → normal_form types (replace_free m q v (normal_form types (replace_free n s u t)))
    ≡ normal_form types (replace_free n s (normal_form types (replace_free m q v u)) (normal_form types (replace_free m q v t)))
normal_replacements_commute types n m s q r u v t hu hv ht apart not_free =
    let left = replace_free n s u t in
    let hl : Typed types left r = typed-replace_free types n s u t r hu ht in
    let hvu : Typed types (replace_free m q v u) s = typed-replace_free types m q v u s hv hu in
    let hvt : Typed types (replace_free m q v t) r = typed-replace_free types m q v t r hv ht in
    sym (normal_same types (replace_free m q v left) (replace_free m q v (normal_form types left)) r
    (conv-replace_free types m q r v v left (normal_form types left) (done v hv) (normal_form-becomes types left r hl).1))
    ∙ ap (normal_form types) (replace_free-replace_free n m s q u v t apart not_free)
    ∙ normal_replace_free types n s r (replace_free m q v u) (replace_free m q v t) hvu hvt

-- another variable put for a variable keeps the form
form-replace_variable : (n m : List ℕ) (s : SimpleType) (form : Form) (types : List SimpleType) (a : Term) (t : SimpleType) → HasForm form types a t
    → HasForm form types (replace_free n s (free m s) a) t
form-replace_variable n m s form types (free x q) t h = by_test (same_variable (n, s) (x, q)) refl
  where
    by_test : (b : Bool) → same_variable (n, s) (x, q) ≡ b → HasForm form types (cond b (free m s) (free x q)) t
    by_test true e = (h.0, (same_variable_parts n x s q e).1 ∙ h.1)
    by_test false e = h
form-replace_variable n m s form types (bound i) t h = h
form-replace_variable n m s form types (constant c) t h = h
form-replace_variable n m s form types (application f a) t h =
    (h.0, (h.1.0, form-replace_variable n m s neutral types f (function_type t h.1.0) h.1.1, form-replace_variable n m s long types a h.1.0 h.1.2))
form-replace_variable n m s neutral types (abstraction q b) t h = absurd h
form-replace_variable n m s long types (abstraction q b) t h = (h.0, form-replace_variable n m s long (q ∷ types) b h.0 h.1, h.2)

-- renaming a free variable
pub normal_renamed : (types : List SimpleType) (n m : List ℕ) (s r : SimpleType) (t : Term) → Typed types t r
    → normal_form types (replace_free n s (free m s) t) ≡ replace_free n s (free m s) (normal_form types t)
normal_renamed types n m s r t ht =
    let x = normal_form-becomes types t r ht in
    normal_is types (replace_free n s (free m s) t) (replace_free n s (free m s) (normal_form types t)) r
    (form-replace_variable n m s long types (normal_form types t) r x.0)
    (conv-replace_free types n s r (free m s) (free m s) t (normal_form types t) (done (free m s) refl) x.1)

-- the long form of a variable, and hereditary substitution

-- a long term put for the index in the index's long form gives the term
pub put_in_long_form : (types : List SimpleType) (s : SimpleType) (u : Term) → Long types u s → hereditary s 0 u (long_form s (bound 0)) ≡ u
put_in_long_form types s u hu =
    let x = long_form-becomes s (s ∷ types) (bound 0) (tt, refl) in
    let typed = form-typed long types u s hu in
    let hu0 : Long types (raise 0 0 u) s = rw (raise-none 0 u) hu in
    let z = put_long_in_long s (apply_long s) (apply_long-becomes s) 0 u (long_form s (bound 0)) (s ∷ types) types (removed-instance s types) hu0 s x.0 in
    let here : put 0 u (bound 0) ≡ u = put_index-same 0 u ∙ raise-none 0 u in
    unique types s (hereditary s 0 u (long_form s (bound 0))) u z.0 hu
    (conv-sym types s u (hereditary s 0 u (long_form s (bound 0)))
    (subst (λ (a : Term). Conv types s a (hereditary s 0 u (long_form s (bound 0)))) here
    (conv-trans types s (put 0 u (bound 0)) (put 0 u (long_form s (bound 0))) (hereditary s 0 u (long_form s (bound 0)))
    (conv-put types s s u u (bound 0) (long_form s (bound 0)) (done u typed) x.1) z.1)))

doubled : (values : ℕ → AnyValue) → Raised 1 1 values (push (values 0) values)
doubled values zero = ap (push (values 0) values) (raise_index-zero 1 0)
doubled values (suc i) = ap (push (values 0) values) (raise_index-suc 1 0 i ∙ ap suc (raise_index-one i))

shifted_second : (types : List SimpleType) (s : SimpleType) → Shifted 1 1 (s ∷ types) (s ∷ (s ∷ types))
shifted_second types s = shifted_under 1 0 types (s ∷ types) s (shifted_one types s)

-- the long form of an index put for that index changes nothing
pub put_of_long_form : (types : List SimpleType) (s r : SimpleType) (b : Term) → Long (s ∷ types) b r → hereditary s 0 (long_form s (bound 0)) (raise 1 1 b) ≡ b
put_of_long_form types s r b hb =
    let u = long_form s (bound 0) in
    let x = long_form-becomes s (s ∷ types) (bound 0) (tt, refl) in
    let hu0 : Long (s ∷ types) (raise 0 0 u) s = rw (raise-none 0 u) x.0 in
    let hb1 = form-raise 1 1 long (s ∷ types) (s ∷ (s ∷ types)) b r (shifted_second types s) hb in
    let z = put_long_in_long s (apply_long s) (apply_long-becomes s) 0 u (raise 1 1 b) (s ∷ (s ∷ types)) (s ∷ types) (removed-instance s (s ∷ types)) hu0 r hb1 in
    let values = around (s ∷ types) in
    let fits = fits-around (s ∷ types) in
    let eu : eval variables values u ≡ values 0 = sym (eval-conv variables (s ∷ types) s (bound 0) u values fits x.1) in
    unique_value (s ∷ types) r (hereditary s 0 u (raise 1 1 b)) b z.0 hb
    (sym (eval-conv variables (s ∷ types) r (put 0 u (raise 1 1 b)) (hereditary s 0 u (raise 1 1 b)) values fits z.1)
    ∙ eval-put variables 0 u (raise 1 1 b) (push (values 0) values) values (push-instance variables u values (values 0) eu)
    ∙ eval-raise variables 1 1 b values (push (values 0) values) (doubled values))

-- connectives and quantifiers: a formula's normal form has the connective of its head

pub normal_negation : (types : List SimpleType) (a : Term) → normal_form types (application (constant negation) a) ≡ application (constant negation) (normal_form types a)
normal_negation types a = refl

pub normal_conjunction : (types : List SimpleType) (a b : Term)
    → normal_form types (application (application (constant conjunction) a) b) ≡ application (application (constant conjunction) (normal_form types a)) (normal_form types b)
normal_conjunction types a b = refl

pub normal_disjunction : (types : List SimpleType) (a b : Term)
    → normal_form types (application (application (constant disjunction) a) b) ≡ application (application (constant disjunction) (normal_form types a)) (normal_form types b)
normal_disjunction types a b = refl

pub normal_implication : (types : List SimpleType) (a b : Term)
    → normal_form types (application (application (constant implication) a) b) ≡ application (application (constant implication) (normal_form types a)) (normal_form types b)
normal_implication types a b = refl

pub normal_forall : (types : List SimpleType) (s : SimpleType) (p : Term) → normal_form types (application (constant (forall s)) p) ≡ application (constant (forall s)) (normal_form types p)
normal_forall types s p = refl

pub normal_exists : (types : List SimpleType) (s : SimpleType) (p : Term) → normal_form types (application (constant (exists s)) p) ≡ application (constant (exists s)) (normal_form types p)
normal_exists types s p = refl

pub normal_abstraction : (types : List SimpleType) (s : SimpleType) (b : Term) → normal_form types (abstraction s b) ≡ abstraction s (normal_form (s ∷ types) b)
normal_abstraction types s b = refl
