-- A term put for a free variable: its type, its order with raising and with itself, and that it is an instance.
use Rattle.std.proofs.Common.{ℕ, ◌+◌, List, ◌∷◌, Bool, true, false, cond, ◌≡◌, refl, sym, ap, ap₂, subst, ◌∙◌, arith, inl, inr, ◌⊎◌}
use Rattle.hol_terms.specs.Terms.{SimpleType, function_type, Term, free, bound, constant, application, abstraction}
use Rattle.hol_terms.specs.Computed.{same_variable}
use Rattle.hol_terms.specs.Indices.{raise, put, IsClosedBelow, IsClosed}
use Rattle.hol_terms.specs.FreeVariables.{IsFree, IsBodyOver, body_over, replace_free}
use Rattle.hol_terms.specs.Typing.{Typed}
use Rattle.hol_terms.proofs.Same.{same_variable_of, same_variable_parts}
use Rattle.hol_terms.proofs.IndexLaws.{raise-none, raise-swap, raise-by_suc, put_index-less, put_index-same}
use Rattle.hol_terms.proofs.TypingLaws.{typed-raise, shifted_one, body_is}
use Rattle.hol_terms.proofs.FreeLaws.{free_of_raise}

replace_free_here : (n m : List ℕ) (s r : SimpleType) (u : Term) → (n ≡ m) × (s ≡ r) → replace_free n s u (free m r) ≡ u
replace_free_here n m s r u h = ap (λ (b : Bool). cond b u (free m r)) (same_variable_of n m s r h.0 h.1)

other_by_test : (n m : List ℕ) (s r : SimpleType) (u : Term) → ((n ≡ m) × (s ≡ r) → ⊥) → (b : Bool) → same_variable (n, s) (m, r) ≡ b → cond b u (free m r) ≡ free m r
other_by_test n m s r u h true e = absurd (h (same_variable_parts n m s r e))
other_by_test n m s r u h false e = refl

replace_free_other : (n m : List ℕ) (s r : SimpleType) (u : Term) → ((n ≡ m) × (s ≡ r) → ⊥) → replace_free n s u (free m r) ≡ free m r
replace_free_other n m s r u h = other_by_test n m s r u h (same_variable (n, s) (m, r)) refl

-- whether the variable is the one replaced
is_it : (n m : List ℕ) (s r : SimpleType) → ((n ≡ m) × (s ≡ r)) ⊎ ((n ≡ m) × (s ≡ r) → ⊥)
is_it n m s r = by_test (same_variable (n, s) (m, r)) refl
  where
    by_test : (b : Bool) → same_variable (n, s) (m, r) ≡ b → ((n ≡ m) × (s ≡ r)) ⊎ ((n ≡ m) × (s ≡ r) → ⊥)
    by_test true e = inl (same_variable_parts n m s r e)
    by_test false e = inr (λ h. let same : same_variable (n, s) (m, r) ≡ true = same_variable_of n m s r h.0 h.1 in absurd (cc))

-- a variable that isn't free is replaced nowhere
pub replace_free-not_free : (n : List ℕ) (s : SimpleType) (u t : Term) → (IsFree n s t → ⊥) → replace_free n s u t ≡ t
replace_free-not_free n s u (free m r) h = replace_free_other n m s r u h
replace_free-not_free n s u (bound i) h = refl
replace_free-not_free n s u (constant c) h = refl
replace_free-not_free n s u (application f a) h =
    ap₂ application (replace_free-not_free n s u f (λ p. h (inl p))) (replace_free-not_free n s u a (λ p. h (inr p)))
replace_free-not_free n s u (abstraction r b) h = ap (abstraction r) (replace_free-not_free n s (raise 1 0 u) b h)

-- raising what was put for a free variable
pub raise-replace_free : (d c : ℕ) (n : List ℕ) (s : SimpleType) (u t : Term) → raise d c (replace_free n s u t) ≡ replace_free n s (raise d c u) (raise d c t)
raise-replace_free d c n s u (free m r) = by_test (same_variable (n, s) (m, r))
  where
    by_test : (b : Bool) → raise d c (cond b u (free m r)) ≡ cond b (raise d c u) (free m r)
    by_test true = refl
    by_test false = refl
raise-replace_free d c n s u (bound i) = refl
raise-replace_free d c n s u (constant k) = refl
raise-replace_free d c n s u (application f a) = ap₂ application (raise-replace_free d c n s u f) (raise-replace_free d c n s u a)
raise-replace_free d c n s u (abstraction r b) =
    ap (abstraction r)
    (raise-replace_free d (c + 1) n s (raise 1 0 u) b ∙ ap (λ (u : Term). replace_free n s u (raise d (c + 1) b)) (raise-swap d 1 c 0 u (omega arith)))

-- a term of a variable's type, put for it, keeps the type of the whole
pub typed-replace_free : (types : List SimpleType) (n : List ℕ) (s : SimpleType) (u t : Term) (r : SimpleType) → Typed types u s → Typed types t r → Typed types (replace_free n s u t) r
typed-replace_free types n s u (free m q) r hu h = by_test (same_variable (n, s) (m, q)) refl
  where
    by_test : (b : Bool) → same_variable (n, s) (m, q) ≡ b → Typed types (cond b u (free m q)) r
    by_test true e = subst (Typed types u) ((same_variable_parts n m s q e).1 ∙ h) hu
    by_test false e = h
typed-replace_free types n s u (bound i) r hu h = h
typed-replace_free types n s u (constant c) r hu h = h
typed-replace_free types n s u (application f a) r hu h =
    (h.0, typed-replace_free types n s u f (function_type r h.0) hu h.1, typed-replace_free types n s u a h.0 hu h.2)
typed-replace_free types n s u (abstraction q b) r hu h =
    (h.0, typed-replace_free (q ∷ types) n s (raise 1 0 u) b h.0 (typed-raise 1 0 types (q ∷ types) u s (shifted_one types q) hu) h.1, h.2)

-- two terms put for two variables, the first of which isn't free in the second's term
pub replace_free-replace_free : (n m : List ℕ) (s q : SimpleType) (u v t : Term) → ((n ≡ m) × (s ≡ q) → ⊥) → (IsFree n s v → ⊥)
    → replace_free m q v (replace_free n s u t) ≡ replace_free n s (replace_free m q v u) (replace_free m q v t)
replace_free-replace_free n m s q u v (free x p) apart h = by_variable (is_it n x s p) (is_it m x q p)
  where
    by_variable : ((n ≡ x) × (s ≡ p)) ⊎ ((n ≡ x) × (s ≡ p) → ⊥) → ((m ≡ x) × (q ≡ p)) ⊎ ((m ≡ x) × (q ≡ p) → ⊥)
        → replace_free m q v (replace_free n s u (free x p)) ≡ replace_free n s (replace_free m q v u) (replace_free m q v (free x p))
    by_variable (inl e) (inl f) = absurd (apart (e.0 ∙ sym f.0, e.1 ∙ sym f.1))
    by_variable (inl e) (inr f) =
        ap (replace_free m q v) (replace_free_here n x s p u e)
        ∙ sym (ap (replace_free n s (replace_free m q v u)) (replace_free_other m x q p v f) ∙ replace_free_here n x s p (replace_free m q v u) e)
    by_variable (inr e) (inl f) =
        ap (replace_free m q v) (replace_free_other n x s p u e) ∙ replace_free_here m x q p v f
        ∙ sym (ap (replace_free n s (replace_free m q v u)) (replace_free_here m x q p v f) ∙ replace_free-not_free n s (replace_free m q v u) v h)
    by_variable (inr e) (inr f) =
        ap (replace_free m q v) (replace_free_other n x s p u e) ∙ replace_free_other m x q p v f
        ∙ sym (ap (replace_free n s (replace_free m q v u)) (replace_free_other m x q p v f) ∙ replace_free_other n x s p (replace_free m q v u) e)
replace_free-replace_free n m s q u v (bound i) apart h = refl
replace_free-replace_free n m s q u v (constant c) apart h = refl
replace_free-replace_free n m s q u v (application f a) apart h =
    ap₂ application (replace_free-replace_free n m s q u v f apart h) (replace_free-replace_free n m s q u v a apart h)
replace_free-replace_free n m s q u v (abstraction r b) apart h =
    ap (abstraction r)
    (replace_free-replace_free n m s q (raise 1 0 u) (raise 1 0 v) b apart (λ p. h (free_of_raise n s 1 0 v p))
    ∙ ap (λ (x : Term). replace_free n s x (replace_free m q (raise 1 0 v) b)) (sym (raise-replace_free 1 0 m q v u)))

body_variable : (n m : List ℕ) (s r : SimpleType) (k : ℕ) (u : Term) (b : Bool) → put k u (cond b (bound k) (free m r)) ≡ cond b (raise k 0 u) (free m r)
body_variable n m s r k u true = put_index-same k u
body_variable n m s r k u false = refl

-- the instance of the body over a variable puts the term for the variable
pub put-body_over : (n : List ℕ) (s : SimpleType) (k : ℕ) (u t : Term) → IsClosedBelow k t → put k u (body_over n s k t) ≡ replace_free n s (raise k 0 u) t
put-body_over n s k u (free m r) h = body_variable n m s r k u (same_variable (n, s) (m, r))
put-body_over n s k u (bound i) h = put_index-less k u i h
put-body_over n s k u (constant c) h = refl
put-body_over n s k u (application f a) h = ap₂ application (put-body_over n s k u f h.0) (put-body_over n s k u a h.1)
put-body_over n s k u (abstraction r b) h =
    ap (abstraction r) (put-body_over n s (k + 1) u b h ∙ ap (λ (u : Term). replace_free n s u b) (raise-by_suc k 0 u))

pub instance_is_replaced : (n : List ℕ) (s : SimpleType) (u t : Term) → IsClosed t → put 0 u (body_over n s 0 t) ≡ replace_free n s u t
instance_is_replaced n s u t h = put-body_over n s 0 u t h ∙ ap (λ (u : Term). replace_free n s u t) (raise-none 0 u)

pub instance_of_body : (n : List ℕ) (s : SimpleType) (u t body : Term) → IsClosed t → IsBodyOver n s t body → put 0 u body ≡ replace_free n s u t
instance_of_body n s u t body h over = ap (put 0 u) (body_is n s t body h over) ∙ instance_is_replaced n s u t h
