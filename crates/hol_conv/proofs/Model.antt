-- Convertible terms have one value, and a long term is read back from its value: so there is one long normal form.
use Rattle.std.proofs.Common.{ℕ, zero, suc, ◌+◌, ◌-◌, List, [], ◌∷◌, ◌≡◌, refl, sym, ap, ap₂, subst, ◌∙◌, slice_get, Some, length, arith, inl, inr}
use Rattle.hol_terms.specs.Terms.{SimpleType, base_type, function_type, Term, free, bound, constant, application, abstraction}
use Rattle.hol_terms.specs.Typing.{type_of_constant, Typed}
use Rattle.hol_terms.specs.Indices.{raise_index, raise, put, put_index}
use Rattle.hol_terms.proofs.IndexLaws.{raise_index-zero, raise_index-suc, raise_index-none, raise_index-one, put_index-zero, put_index-suc, put_index-same, put_index-more}
use Rattle.hol_conv.specs.Values.{Value, reify, reflect, AnyValue, default, cast, back, apply_value, abstract_value, push, Names, variables, eval, around}
use Rattle.hol_conv.specs.Conversion.{Step, beta, eta, in_function, in_argument, in_body, Conv, done, next, Form, neutral, long, Ends, HasForm, Long}

pub funext : {A B : Type 0} {f g : A → B} → ((x : A) → f x ≡ g x) → f ≡ g
funext h = λ i x. h x i

mutual
  pub cast-same : (t : SimpleType) (v : Value t) → cast t t v ≡ v
  cast-same (base_type a) v = refl
  cast-same (function_type r s) f = funext (λ x. cast-same r (f (back s s x)) ∙ ap f (back-same s x))

  pub back-same : (t : SimpleType) (v : Value t) → back t t v ≡ v
  back-same (base_type a) v = refl
  back-same (function_type r s) f = funext (λ x. back-same r (f (cast s s x)) ∙ ap f (cast-same s x))

-- indices raised: the values stay the same
abbrev pub Raised : ℕ → ℕ → (ℕ → AnyValue) → (ℕ → AnyValue) → Type 0
Raised d c values new = (i : ℕ) → new (raise_index d c i) ≡ values i

pub push-raised : (d c : ℕ) (x : AnyValue) (values new : ℕ → AnyValue) → Raised d c values new → Raised d (c + 1) (push x values) (push x new)
push-raised d c x values new h zero = ap (push x new) (raise_index-zero d c)
push-raised d c x values new h (suc i) = ap (push x new) (raise_index-suc d c i) ∙ h i

pub eval-raise : (names : Names) (d c : ℕ) (t : Term) (values new : ℕ → AnyValue) → Raised d c values new → eval names new (raise d c t) ≡ eval names values t
eval-raise names d c (free n s) values new h = refl
eval-raise names d c (bound i) values new h = h i
eval-raise names d c (constant k) values new h = refl
eval-raise names d c (application f a) values new h = ap₂ apply_value (eval-raise names d c f values new h) (eval-raise names d c a values new h)
eval-raise names d c (abstraction s b) values new h =
    ap (abstract_value s) (funext (λ x. eval-raise names d (c + 1) b (push (s, x) values) (push (s, x) new) (push-raised d c (s, x) values new h)))

-- an index replaced
abbrev pub Replaced : Names → ℕ → Term → (ℕ → AnyValue) → (ℕ → AnyValue) → Type 0
Replaced names k u values new = (i : ℕ) → eval names new (put_index k u i) ≡ values i

pub push-shifted : (x : AnyValue) (new : ℕ → AnyValue) → Raised 1 0 new (push x new)
push-shifted x new i = ap (push x new) (raise_index-one i)

pub push-replaced : (names : Names) (k : ℕ) (u : Term) (x : AnyValue) (values new : ℕ → AnyValue) → Replaced names k u values new → Replaced names (k + 1) u (push x values) (push x new)
push-replaced names k u x values new h zero = ap (eval names (push x new)) (put_index-zero k u)
push-replaced names k u x values new h (suc i) =
    ap (eval names (push x new)) (put_index-suc k u i) ∙ eval-raise names 1 0 (put_index k u i) new (push x new) (push-shifted x new) ∙ h i

pub eval-put : (names : Names) (k : ℕ) (u t : Term) (values new : ℕ → AnyValue) → Replaced names k u values new → eval names new (put k u t) ≡ eval names values t
eval-put names k u (free n s) values new h = refl
eval-put names k u (bound i) values new h = h i
eval-put names k u (constant c) values new h = refl
eval-put names k u (application f a) values new h = ap₂ apply_value (eval-put names k u f values new h) (eval-put names k u a values new h)
eval-put names k u (abstraction s b) values new h =
    ap (abstract_value s) (funext (λ x. eval-put names (k + 1) u b (push (s, x) values) (push (s, x) new) (push-replaced names k u (s, x) values new h)))

-- the values fit the types of the loose indices
abbrev pub Fits : List SimpleType → (ℕ → AnyValue) → Type 0
Fits types values = (i : ℕ) (t : SimpleType) → slice_get types i ≡ Some t → (values i).0 ≡ t

pub fits-push : (types : List SimpleType) (values : ℕ → AnyValue) (s : SimpleType) (x : Value s) → Fits types values → Fits (s ∷ types) (push (s, x) values)
fits-push types values s x h zero t e = cc
fits-push types values s x h (suc i) t e = h i t e

-- what an application gives at a value of a function type
apply_value-type : (q : SimpleType) (v : Value q) (a : AnyValue) (t s : SimpleType) → q ≡ function_type t s → (apply_value (q, v) a).0 ≡ t
apply_value-type (base_type l) v a t s e = cc
apply_value-type (function_type r q) v a t s e = cc

-- a typed term's value has its type
pub eval-type : (names : Names) (types : List SimpleType) (a : Term) (t : SimpleType) (values : ℕ → AnyValue) → Fits types values → Typed types a t → (eval names values a).0 ≡ t
eval-type names types (free n s) t values fits h = h
eval-type names types (bound i) t values fits h = fits i t h
eval-type names types (constant c) t values fits h = h
eval-type names types (application f a) t values fits h =
    apply_value-type (eval names values f).0 (eval names values f).1 (eval names values a) t h.0 (eval-type names types f (function_type t h.0) values fits h.1)
eval-type names types (abstraction s b) t values fits h =
    ap (λ r. function_type r s) (eval-type names (s ∷ types) b h.0 (push (s, default s) values) (fits-push types values s (default s) fits) h.1) ∙ h.2

-- a value as one of its own type, by the equation
pub as_type : (t : SimpleType) (d : AnyValue) → d.0 ≡ t → (v : Value t) × (d ≡ (t, v))
as_type t d e = let P : SimpleType → Type 0 = λ s. (v : Value s) × (d ≡ (s, v)) in subst P e (d.1, refl)

pub recast : (d : AnyValue) (q : SimpleType) → d.0 ≡ q → (let e : AnyValue = (q, cast d.0 q d.1) in e ≡ d)
recast d q e =
    let P : SimpleType → Type 0 = λ q. (let e : AnyValue = (q, cast d.0 q d.1) in e ≡ d) in
    let pair : Value d.0 → AnyValue = λ v. (d.0, v) in
    subst P e (ap pair (cast-same d.0 d.1))

-- an abstraction applied to a value of its type
abstract_value-at : (s r : SimpleType) (g : Value s → AnyValue) → ((x : Value s) → (g x).0 ≡ r) → (x : Value s) → apply_value (abstract_value s g) (s, x) ≡ g x
abstract_value-at s r g h x =
    let q = (g (default s)).0 in
    let k : Value s → AnyValue = λ y. (q, cast (g y).0 q (g y).1) in
    ap k (back-or-cast s x) ∙ recast (g x) q (h x ∙ sym (h (default s)))
  where
    back-or-cast : (s : SimpleType) (x : Value s) → cast s s x ≡ x
    back-or-cast s x = cast-same s x

pub push-instance : (names : Names) (u : Term) (values : ℕ → AnyValue) (d : AnyValue) → eval names values u ≡ d → Replaced names 0 u (push d values) values
push-instance names u values d e zero = ap (eval names values) (put_index-same 0 u) ∙ eval-raise names 0 0 u values values (λ i. ap values (raise_index-none 0 i)) ∙ e
push-instance names u values d e (suc i) =
    let less : suc i - 1 ≡ i = omega arith in
    ap (eval names values) (put_index-more 0 u (suc i) (omega arith)) ∙ ap values less

eval-beta : (names : Names) (types : List SimpleType) (s r : SimpleType) (b u : Term) (values : ℕ → AnyValue) → Fits types values → Typed (s ∷ types) b r → Typed types u s
    → eval names values (application (abstraction s b) u) ≡ eval names values (put 0 u b)
eval-beta names types s r b u values fits hb hu =
    let v = as_type s (eval names values u) (eval-type names types u s values fits hu) in
    ap (apply_value (eval names values (abstraction s b))) v.1
    ∙ abstract_value-at s r (λ x. eval names (push (s, x) values) b) (λ x. eval-type names (s ∷ types) b r (push (s, x) values) (fits-push types values s x fits) hb) v.0
    ∙ sym (eval-put names 0 u b (push (s, v.0) values) values (push-instance names u values (s, v.0) v.1))

abstract_value-eta : (s r : SimpleType) (v : Value (function_type r s)) → (let d : AnyValue = (function_type r s, v) in abstract_value s (λ x. apply_value d (s, x)) ≡ d)
abstract_value-eta s r v =
    let pair : Value (function_type r s) → AnyValue = λ v. (function_type r s, v) in
    ap pair (funext (λ x. cast-same r (v (cast s s x)) ∙ ap v (cast-same s x)))

eval-eta : (names : Names) (s r : SimpleType) (f : Term) (values : ℕ → AnyValue) → (eval names values f).0 ≡ function_type r s → eval names values (abstraction s (application (raise 1 0 f) (bound 0))) ≡ eval names values f
eval-eta names s r f values h =
    let v = as_type (function_type r s) (eval names values f) h in
    ap (abstract_value s) (funext (λ x. ap (λ d. apply_value d (s, x)) (eval-raise names 1 0 f values (push (s, x) values) (push-shifted (s, x) values) ∙ v.1)))
    ∙ abstract_value-eta s r v.0
    ∙ sym v.1

-- a step keeps the value, where the term that it begins with is typed
pub eval-step : (names : Names) (types : List SimpleType) (t : SimpleType) (a b : Term) (values : ℕ → AnyValue) → Fits types values → Step a b → Typed types a t → eval names values a ≡ eval names values b
eval-step names types t _ _ values fits (beta s b u) h =
    let whole : function_type h.1.0 s ≡ function_type t h.0 = h.1.2 in
    let e : h.0 ≡ s = cc in
    eval-beta names types s h.1.0 b u values fits h.1.1 (subst (Typed types u) e h.2)
eval-step names types t _ _ values fits (eta s f) h =
    let at_zero : slice_get (s ∷ types) 0 ≡ Some h.1.0 = h.1.2 in
    let e : function_type h.0 h.1.0 ≡ function_type h.0 s = cc in
    eval-eta names s h.0 f values
    (ap (λ (d : AnyValue). d.0) (sym (eval-raise names 1 0 f values (push (s, default s) values) (push-shifted (s, default s) values)))
    ∙ eval-type names (s ∷ types) (raise 1 0 f) (function_type h.0 h.1.0) (push (s, default s) values) (fits-push types values s (default s) fits) h.1.1
    ∙ e)
eval-step names types t _ _ values fits (in_function f g a st) h = ap (λ d. apply_value d (eval names values a)) (eval-step names types (function_type t h.0) f g values fits st h.1)
eval-step names types t _ _ values fits (in_argument f a b st) h = ap (apply_value (eval names values f)) (eval-step names types h.0 a b values fits st h.2)
eval-step names types t _ _ values fits (in_body s b c st) h =
    ap (abstract_value s) (funext (λ x. eval-step names (s ∷ types) h.0 b c (push (s, x) values) (fits-push types values s x fits) st h.1))

pub conv-first : (types : List SimpleType) (t : SimpleType) (a b : Term) → Conv types t a b → Typed types a t
conv-first types t _ _ (done a h) = h
conv-first types t _ _ (next a b c h n rest) = h

pub eval-conv : (names : Names) (types : List SimpleType) (t : SimpleType) (a b : Term) (values : ℕ → AnyValue) → Fits types values → Conv types t a b → eval names values a ≡ eval names values b
eval-conv names types t _ _ values fits (done a h) = refl
eval-conv names types t _ _ values fits (next a b c h (inl st) rest) =
    eval-step names types t a b values fits st h ∙ eval-conv names types t b c values fits rest
eval-conv names types t _ _ values fits (next a b c h (inr st) rest) =
    sym (eval-step names types t b a values fits st (conv-first types t b c rest)) ∙ eval-conv names types t b c values fits rest

pub fits-around : (types : List SimpleType) → Fits types (around types)
fits-around [] = λ i t e. cc
fits-around (s ∷ types) = fits-push types (around types) s (reflect s (λ m. bound (m - suc (length types)))) (fits-around types)

reflected : (w : ℕ → Term) (s t : SimpleType) → s ≡ t → (let a : AnyValue = (s, reflect s w) in let b : AnyValue = (t, reflect t w) in a ≡ b)
reflected w s t e = let k : SimpleType → AnyValue = λ q. (q, reflect q w) in ap k e

-- the variable at an index is a neutral value that is read back as that index
around-index : (types : List SimpleType) (i : ℕ) (t : SimpleType) → slice_get types i ≡ Some t
    → (v : ℕ → Term) × (around types i ≡ (t, reflect t v)) × ((d : ℕ) → v (length types + d) ≡ bound (i + d))
around-index [] i t e = cc
around-index (s ∷ types) zero t e =
    let same : s ≡ t = cc in
    let difference : (d : ℕ) → suc (length types) + d - suc (length types) ≡ 0 + d = λ d. omega arith in
    ((λ m. bound (m - suc (length types))), reflected (λ m. bound (m - suc (length types))) s t same, λ d. ap bound (difference d))
around-index (s ∷ types) (suc i) t e =
    let r = around-index types i t e in
    let left : (d : ℕ) → suc (length types) + d ≡ length types + suc d = λ d. omega arith in
    let right : (d : ℕ) → i + suc d ≡ suc i + d = λ d. omega arith in
    (r.0, r.1, λ d. ap r.0 (left d) ∙ r.2 (suc d) ∙ ap bound (right d))

pub form-typed : (form : Form) (types : List SimpleType) (a : Term) (t : SimpleType) → HasForm form types a t → Typed types a t
form-typed form types (free n s) t h = h.1
form-typed form types (bound i) t h = h.1
form-typed form types (constant c) t h = h.1
form-typed form types (application f a) t h = (h.1.0, form-typed neutral types f (function_type t h.1.0) h.1.1, form-typed long types a h.1.0 h.1.2)
form-typed neutral types (abstraction s b) t h = elim h [ ]
form-typed long types (abstraction s b) t h = (h.0, form-typed long (s ∷ types) b h.0 h.1, h.2)

abbrev read : ℕ → AnyValue → Term
read n d = reify d.0 d.1 n

-- what the two forms say of the value
abbrev Reads : Form → List SimpleType → Term → SimpleType → Type 0
Reads neutral types a t = (v : ℕ → Term) × (eval variables (around types) a ≡ (t, reflect t v)) × (v (length types) ≡ a)
Reads long types a t = (v : Value t) × (eval variables (around types) a ≡ (t, v)) × (reify t v (length types) ≡ a)

ends : (form : Form) (types : List SimpleType) (a : Term) (t : SimpleType) → Ends form t → Reads neutral types a t → Reads form types a t
ends neutral types a t h r = r
ends long types a (base_type l) h r = r
ends long types a (function_type q s) h r = elim h [ ]

reads : (form : Form) (types : List SimpleType) (a : Term) (t : SimpleType) → HasForm form types a t → Reads form types a t
reads form types (free n s) t h =
    ends form types (free n s) t h.0 ((λ m. free n s), reflected (λ m. free n s) s t h.1, refl)
reads form types (bound i) t h =
    let r = around-index types i t h.1 in
    let none : (n : ℕ) → n ≡ n + 0 = λ n. omega arith in
    ends form types (bound i) t h.0 (r.0, r.1, ap r.0 (none (length types)) ∙ r.2 0 ∙ ap bound (sym (none i)))
reads form types (constant c) t h =
    ends form types (constant c) t h.0 ((λ m. constant c), reflected (λ m. constant c) (type_of_constant c) t h.1, refl)
reads form types (application f a) t h =
    let s = h.1.0 in
    let rf = reads neutral types f (function_type t s) h.1.1 in
    let ra = reads long types a s h.1.2 in
    let made : Value s → AnyValue = λ x. (t, reflect t (λ n. application (rf.0 n) (reify s x n))) in
    ends form types (application f a) t h.0 (
      (λ n. application (rf.0 n) (reify s ra.0 n)),
      ap₂ apply_value rf.1 ra.1 ∙ ap made (cast-same s ra.0),
      ap₂ application rf.2 ra.2,
    )
reads neutral types (abstraction s b) t h = elim h [ ]
reads long types (abstraction s b) t h =
    let r = h.0 in
    let x₀ : Value s = reflect s (λ m. bound (m - suc (length types))) in
    let g : Value s → AnyValue = λ x. eval variables (push (s, x) (around types)) b in
    let typed : (x : Value s) → (g x).0 ≡ r = λ x. eval-type variables (s ∷ types) b r (push (s, x) (around types)) (fits-push types (around types) s x (fits-around types)) (form-typed long (s ∷ types) b r h.1) in
    let whole : function_type (g (default s)).0 s ≡ function_type r s = ap (λ q. function_type q s) (typed (default s)) in
    let v = as_type (function_type r s) (abstract_value s g) whole in
    let rb = reads long (s ∷ types) b r h.1 in
    let n = suc (length types) in
    let inner : reify r (v.0 x₀) n ≡ b =
    ap (λ x. reify r (v.0 x) n) (sym (cast-same s x₀))
    ∙ ap (λ d. read n (apply_value d (s, x₀))) (sym v.1)
    ∙ ap (read n) (abstract_value-at s r g typed x₀)
    ∙ ap (read n) rb.1
    ∙ rb.2 in
    subst (Reads long types (abstraction s b)) h.2 (v.0, v.1, ap (abstraction s) inner)

-- two long terms with one value are equal
pub unique_value : (types : List SimpleType) (t : SimpleType) (n m : Term) → Long types n t → Long types m t → eval variables (around types) n ≡ eval variables (around types) m → n ≡ m
unique_value types t n m hn hm e =
    let rn = reads long types n t hn in
    let rm = reads long types m t hm in
    sym rn.2 ∙ sym (ap (read (length types)) rn.1) ∙ ap (read (length types)) e ∙ ap (read (length types)) rm.1 ∙ rm.2

pub unique : (types : List SimpleType) (t : SimpleType) (n m : Term) → Long types n t → Long types m t → Conv types t n m → n ≡ m
unique types t n m hn hm c = unique_value types t n m hn hm (eval-conv variables types t n m (around types) (fits-around types) c)
