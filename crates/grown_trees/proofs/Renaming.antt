-- Other names for free variables, each type for itself: in terms, which keep their types, their forms and their conversions.
use Rattle.std.proofs.Common.{◌≡◌, ℕ, ◌+◌, ◌-◌, List, ◌∷◌, ◌++◌, Bool, true, false, cond, eqb, nat_lt, map, refl, sym, ap, ap₂, subst, ◌∙◌, inl, inr}
use Rattle.std.proofs.lemmas.List.{map-append}
use Rattle.hol_terms.specs.Terms.{SimpleType, function_type, Term, free, bound, constant, application, abstraction, Variable}
use Rattle.hol_terms.specs.Typing.{Typed}
use Rattle.hol_terms.specs.Indices.{raise, put}
use Rattle.hol_terms.specs.FreeVariables.{IsFree}
use Rattle.hol_conv.specs.Conversion.{Step, beta, eta, in_function, in_argument, in_body, AreNeighbours, Conv, done, next, Form, neutral, long, HasForm, IsNormalOf}
use Rattle.expansion_tree.specs.Budgets.{Head, variable_head, constant_head, heads_of, HasVariableHead}
use Rattle.expansion_tree.specs.Occurrences.{term_weight}

-- the new name of a variable
abbrev pub NewNames : Type 0
NewNames = List ℕ → SimpleType → List ℕ

abbrev pub rename : NewNames → Term → Term
rename f (free n s) = free (f n s) s
rename f (bound i) = bound i
rename f (constant c) = constant c
rename f (application g a) = application (rename f g) (rename f a)
rename f (abstraction s b) = abstraction s (rename f b)

abbrev pub renamed_variable : NewNames → Variable → Variable
renamed_variable f v = (f v.0 v.1, v.1)

rename-raise : (f : NewNames) (d c : ℕ) (t : Term) → rename f (raise d c t) ≡ raise d c (rename f t)
rename-raise f d c (free n s) = refl
rename-raise f d c (bound i) = refl
rename-raise f d c (constant k) = refl
rename-raise f d c (application g a) = ap₂ application (rename-raise f d c g) (rename-raise f d c a)
rename-raise f d c (abstraction s b) = ap (abstraction s) (rename-raise f d (c + 1) b)

pub rename-put : (f : NewNames) (k : ℕ) (u t : Term) → rename f (put k u t) ≡ put k (rename f u) (rename f t)
rename-put f k u (free n s) = refl
rename-put f k u (bound i) = by_tests (eqb i k) (nat_lt i k)
  where
    by_tests : (b c : Bool) → rename f (cond b (raise k 0 u) (cond c (bound i) (bound (i - 1)))) ≡ cond b (raise k 0 (rename f u)) (cond c (bound i) (bound (i - 1)))
    by_tests true c = rename-raise f k 0 u
    by_tests false true = refl
    by_tests false false = refl
rename-put f k u (constant c) = refl
rename-put f k u (application g a) = ap₂ application (rename-put f k u g) (rename-put f k u a)
rename-put f k u (abstraction s b) = ap (abstraction s) (rename-put f (k + 1) u b)

typed-rename : (f : NewNames) (types : List SimpleType) (t : Term) (r : SimpleType) → Typed types t r → Typed types (rename f t) r
typed-rename f types (free n s) r h = h
typed-rename f types (bound i) r h = h
typed-rename f types (constant c) r h = h
typed-rename f types (application g a) r h = (h.0, typed-rename f types g (function_type r h.0) h.1, typed-rename f types a h.0 h.2)
typed-rename f types (abstraction s b) r h = (h.0, typed-rename f (s ∷ types) b h.0 h.1, h.2)

pub form-rename : (f : NewNames) (form : Form) (types : List SimpleType) (t : Term) (r : SimpleType) → HasForm form types t r → HasForm form types (rename f t) r
form-rename f form types (free n s) r h = h
form-rename f form types (bound i) r h = h
form-rename f form types (constant c) r h = h
form-rename f form types (application g a) r h = (h.0, (h.1.0, form-rename f neutral types g (function_type r h.1.0) h.1.1, form-rename f long types a h.1.0 h.1.2))
form-rename f neutral types (abstraction s b) r h = absurd h
form-rename f long types (abstraction s b) r h = (h.0, form-rename f long (s ∷ types) b h.0 h.1, h.2)

step-rename : (f : NewNames) (a b : Term) → Step a b → Step (rename f a) (rename f b)
step-rename f _ _ (beta s b u) =
    subst (λ (x : Term). Step (application (abstraction s (rename f b)) (rename f u)) x) (sym (rename-put f 0 u b)) (beta s (rename f b) (rename f u))
step-rename f _ _ (eta s g) =
    subst (λ (x : Term). Step (abstraction s (application x (bound 0))) (rename f g)) (sym (rename-raise f 1 0 g)) (eta s (rename f g))
step-rename f _ _ (in_function g k a h) = in_function (rename f g) (rename f k) (rename f a) (step-rename f g k h)
step-rename f _ _ (in_argument g a b h) = in_argument (rename f g) (rename f a) (rename f b) (step-rename f a b h)
step-rename f _ _ (in_body s b c h) = in_body s (rename f b) (rename f c) (step-rename f b c h)

neighbours-rename : (f : NewNames) (a b : Term) → AreNeighbours a b → AreNeighbours (rename f a) (rename f b)
neighbours-rename f a b (inl h) = inl (step-rename f a b h)
neighbours-rename f a b (inr h) = inr (step-rename f b a h)

conv-rename : (f : NewNames) (types : List SimpleType) (t : SimpleType) (a b : Term) → Conv types t a b → Conv types t (rename f a) (rename f b)
conv-rename f types t _ _ (done a h) = done (rename f a) (typed-rename f types a t h)
conv-rename f types t _ _ (next a b c h n rest) =
    next (rename f a) (rename f b) (rename f c) (typed-rename f types a t h) (neighbours-rename f a b n) (conv-rename f types t b c rest)

pub normal-rename : (f : NewNames) (types : List SimpleType) (s : SimpleType) (n t : Term) → IsNormalOf types s n t → IsNormalOf types s (rename f n) (rename f t)
normal-rename f types s n t h = (form-rename f long types n s h.0, conv-rename f types s n t h.1)

-- a term none of whose variables has another name
pub rename-fixed : (f : NewNames) (t : Term) → ((v : Variable) → IsFree v.0 v.1 t → renamed_variable f v ≡ v) → rename f t ≡ t
rename-fixed f (free n s) h = let same = h (n, s) (refl, refl) in ap (λ (m : List ℕ). free m s) (ap (λ (v : Variable). v.0) same)
rename-fixed f (bound i) h = refl
rename-fixed f (constant c) h = refl
rename-fixed f (application g a) h = ap₂ application (rename-fixed f g (λ v used. h v (inl used))) (rename-fixed f a (λ v used. h v (inr used)))
rename-fixed f (abstraction s b) h = ap (abstraction s) (rename-fixed f b h)

-- heads and weights

abbrev pub renamed_head : NewNames → Head → Head
renamed_head f (variable_head v) = variable_head (renamed_variable f v)
renamed_head f (constant_head c) = constant_head c

pub heads-rename : (f : NewNames) (t : Term) → heads_of (rename f t) ≡ map (renamed_head f) (heads_of t)
heads-rename f (free n s) = refl
heads-rename f (bound i) = refl
heads-rename f (constant c) = refl
heads-rename f (application g a) =
    ap₂ (λ (x y : List Head). x ++ y) (heads-rename f g) (heads-rename f a) ∙ sym (map-append (renamed_head f) (heads_of g) (heads_of a))
heads-rename f (abstraction s b) = heads-rename f b

pub weight-rename : (f : NewNames) (t : Term) → term_weight (rename f t) ≡ term_weight t
weight-rename f (free n s) = refl
weight-rename f (bound i) = refl
weight-rename f (constant c) = refl
weight-rename f (application g a) = ap₂ ◌+◌ (weight-rename f g) (weight-rename f a)
weight-rename f (abstraction s b) = weight-rename f b

pub head-rename : (f : NewNames) (t : Term) → HasVariableHead t → HasVariableHead (rename f t)
head-rename f (free n s) h = h
head-rename f (bound i) h = h
head-rename f (constant c) h = h
head-rename f (application g a) h = head-rename f g h
head-rename f (abstraction s b) h = h

pub renamed_head-head : (f : NewNames) (t : Term) → HasVariableHead (rename f t) → HasVariableHead t
renamed_head-head f (free n s) h = h
renamed_head-head f (bound i) h = h
renamed_head-head f (constant c) h = h
renamed_head-head f (application g a) h = renamed_head-head f g h
renamed_head-head f (abstraction s b) h = h
