-- The body of the abstraction over a variable: its instance with the variable, and that no other body has both properties.
use Rattle.std.proofs.Common.{ℕ, ◌+◌, ◌-◌, ◌<◌, Bool, true, false, cond, ◌≡◌, ◌≢◌, refl, sym, ap, ap₂, ◌∙◌, subst, arith, inl, inr, ◌⊎◌, List}
use Rattle.std.proofs.lemmas.Bool.Decides.{nat_tests}
use Rattle.hol_terms.specs.Terms.{SimpleType, Term, free, bound, constant, application, abstraction}
use Rattle.hol_terms.specs.Computed.{same_variable}
use Rattle.hol_terms.specs.Indices.{put, put_index, IsClosedBelow}
use Rattle.hol_terms.specs.FreeVariables.{body_over, IsFree}
use Rattle.hol_terms.proofs.IndexLaws.{trichotomy, put_index-less, put_index-at, put_index-more}
use Rattle.hol_terms.proofs.Same.{same_variable_of, same_variable_parts}

pub body_over_here : (n m : List ℕ) (s r : SimpleType) (k : ℕ) → n ≡ m → s ≡ r → body_over n s k (free m r) ≡ bound k
body_over_here n m s r k e f = ap (λ (b : Bool). cond b (bound k) (free m r)) (same_variable_of n m s r e f)

body_over_other : (n m : List ℕ) (s r : SimpleType) (k : ℕ) → ((n ≡ m) × (s ≡ r) → ⊥) → (b : Bool) → same_variable (n, s) (m, r) ≡ b → body_over n s k (free m r) ≡ free m r
body_over_other n m s r k h true e = absurd (h (same_variable_parts n m s r e))
body_over_other n m s r k h false e = ap (λ (b : Bool). cond b (bound k) (free m r)) e

pub body_over_other_name : (n m : List ℕ) (s r : SimpleType) (k : ℕ) → n ≢ m → body_over n s k (free m r) ≡ free m r
body_over_other_name n m s r k h = body_over_other n m s r k (λ p. h p.0) (same_variable (n, s) (m, r)) refl

pub body_over_other_type : (n m : List ℕ) (s r : SimpleType) (k : ℕ) → s ≢ r → body_over n s k (free m r) ≡ free m r
body_over_other_type n m s r k h = body_over_other n m s r k (λ p. h p.1) (same_variable (n, s) (m, r)) refl

put_variable : (n m : List ℕ) (s r : SimpleType) (k : ℕ) (b : Bool) → same_variable (n, s) (m, r) ≡ b → put k (free n s) (cond b (bound k) (free m r)) ≡ free m r
put_variable n m s r k true e =
    let p = same_variable_parts n m s r e in
    let here : put_index k (free n s) k ≡ free n s = grind (arith, nat_tests) in
    here ∙ ap₂ free p.0 p.1
put_variable n m s r k false e = refl

-- the instance of the body with the variable is the term again
pub put_of_body_over : (n : List ℕ) (s : SimpleType) (k : ℕ) (t : Term) → IsClosedBelow k t → put k (free n s) (body_over n s k t) ≡ t
put_of_body_over n s k (free m r) h = put_variable n m s r k (same_variable (n, s) (m, r)) refl
put_of_body_over n s k (bound i) h = grind (arith, nat_tests)
put_of_body_over n s k (constant c) h = refl
put_of_body_over n s k (application f a) h = ap₂ application (put_of_body_over n s k f h.0) (put_of_body_over n s k a h.1)
put_of_body_over n s k (abstraction r b) h = ap (abstraction r) (put_of_body_over n s (k + 1) b h)

variable_gone : (n m : List ℕ) (s r : SimpleType) (k : ℕ) (b : Bool) → same_variable (n, s) (m, r) ≡ b → IsFree n s (cond b (bound k) (free m r)) → ⊥
variable_gone n m s r k true e h = h
variable_gone n m s r k false e h = let here : same_variable (n, s) (m, r) ≡ true = same_variable_of n m s r h.0 h.1 in cc

-- the variable isn't free in the body
pub body_over_not_free : (n : List ℕ) (s : SimpleType) (k : ℕ) (t : Term) → IsFree n s (body_over n s k t) → ⊥
body_over_not_free n s k (free m r) h = variable_gone n m s r k (same_variable (n, s) (m, r)) refl h
body_over_not_free n s k (bound i) h = h
body_over_not_free n s k (constant c) h = h
body_over_not_free n s k (application f a) h = elim h [ inl p ↦ body_over_not_free n s k f p | inr p ↦ body_over_not_free n s k a p ]
body_over_not_free n s k (abstraction r b) h = body_over_not_free n s (k + 1) b h

other_variable : (n m : List ℕ) (s r : SimpleType) (k : ℕ) → (IsFree n s (free m r) → ⊥) → (b : Bool) → same_variable (n, s) (m, r) ≡ b → cond b (bound k) (free m r) ≡ free m r
other_variable n m s r k h true e = absurd (h (same_variable_parts n m s r e))
other_variable n m s r k h false e = refl

-- the body of the instance with a variable that isn't free in the body
pub body_over_of_put : (n : List ℕ) (s : SimpleType) (k : ℕ) (b : Term) → (IsFree n s b → ⊥) → IsClosedBelow (k + 1) b → body_over n s k (put k (free n s) b) ≡ b
body_over_of_put n s k (free m r) h closed = other_variable n m s r k h (same_variable (n, s) (m, r)) refl
body_over_of_put n s k (bound i) h closed = by_place (trichotomy i k)
  where
    by_place : (i < k) ⊎ ((i ≡ k) ⊎ (k < i)) → body_over n s k (put_index k (free n s) i) ≡ bound i
    by_place (inl less) = ap (body_over n s k) (put_index-less k (free n s) i less)
    by_place (inr (inl e)) = ap (body_over n s k) (put_index-at k (free n s) i e) ∙ body_over_here n n s s k refl refl ∙ ap bound (sym e)
    by_place (inr (inr more)) = absurd (omega arith)
body_over_of_put n s k (constant c) h closed = refl
body_over_of_put n s k (application f a) h closed =
    ap₂ application (body_over_of_put n s k f (λ p. h (inl p)) closed.0) (body_over_of_put n s k a (λ p. h (inr p)) closed.1)
body_over_of_put n s k (abstraction r b) h closed = ap (abstraction r) (body_over_of_put n s (k + 1) b h closed)

-- what has a closed instance has no loose index but the one replaced
pub closed_before_put : (n : List ℕ) (s : SimpleType) (k : ℕ) (b : Term) → IsClosedBelow k (put k (free n s) b) → IsClosedBelow (k + 1) b
closed_before_put n s k (free m r) h = tt
closed_before_put n s k (bound i) h = by_place (trichotomy i k)
  where
    by_place : (i < k) ⊎ ((i ≡ k) ⊎ (k < i)) → i < k + 1
    by_place (inl less) = omega arith
    by_place (inr (inl e)) = omega arith
    by_place (inr (inr more)) = let lowered : i - 1 < k = subst (IsClosedBelow k) (put_index-more k (free n s) i more) h in omega arith
closed_before_put n s k (constant c) h = tt
closed_before_put n s k (application f a) h = (closed_before_put n s k f h.0, closed_before_put n s k a h.1)
closed_before_put n s k (abstraction r b) h = closed_before_put n s (k + 1) b h
