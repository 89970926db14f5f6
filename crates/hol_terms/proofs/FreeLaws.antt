-- The free variables of raised terms and of instances, and their list.
use Rattle.std.proofs.Common.{ℕ, zero, suc, ◌+◌, ◌<◌, List, [], ◌∷◌, ◌++◌, Bool, true, false, cond, not, ◌≡◌, refl, sym, ap, subst, ◌∙◌, length, arith, inl, inr, ◌⊎◌}
use Rattle.std.specs.Prelude.{Contains, ◌↔◌}
use Rattle.hol_terms.specs.Terms.{SimpleType, Term, free, bound, constant, application, abstraction, Variable}
use Rattle.hol_terms.specs.Computed.{same_variable}
use Rattle.hol_terms.specs.Indices.{raise, put, HasIndex}
use Rattle.hol_terms.specs.FreeVariables.{IsFree, occurrences, without, first_occurrences, free_variables_of}
use Rattle.hol_terms.proofs.Same.{same_variable_only}
use Rattle.hol_terms.proofs.IndexLaws.{trichotomy, put_index-less, put_index-at, put_index-more}

-- raising

pub free_of_raise : (n : List ℕ) (s : SimpleType) (d c : ℕ) (t : Term) → IsFree n s (raise d c t) → IsFree n s t
free_of_raise n s d c (free m r) h = h
free_of_raise n s d c (bound i) h = h
free_of_raise n s d c (constant k) h = h
free_of_raise n s d c (application f a) (inl h) = inl (free_of_raise n s d c f h)
free_of_raise n s d c (application f a) (inr h) = inr (free_of_raise n s d c a h)
free_of_raise n s d c (abstraction r b) h = free_of_raise n s d (c + 1) b h

pub raise_of_free : (n : List ℕ) (s : SimpleType) (d c : ℕ) (t : Term) → IsFree n s t → IsFree n s (raise d c t)
raise_of_free n s d c (free m r) h = h
raise_of_free n s d c (bound i) h = h
raise_of_free n s d c (constant k) h = h
raise_of_free n s d c (application f a) (inl h) = inl (raise_of_free n s d c f h)
raise_of_free n s d c (application f a) (inr h) = inr (raise_of_free n s d c a h)
raise_of_free n s d c (abstraction r b) h = raise_of_free n s d (c + 1) b h

-- replacing

pub free_of_put : (n : List ℕ) (s : SimpleType) (k : ℕ) (u t : Term) → IsFree n s (put k u t) → IsFree n s t ⊎ (HasIndex k t × IsFree n s u)
free_of_put n s k u (free m r) h = inl h
free_of_put n s k u (bound i) h = by_place (trichotomy i k)
  where
    by_place : (i < k) ⊎ ((i ≡ k) ⊎ (k < i)) → ⊥ ⊎ ((i ≡ k) × IsFree n s u)
    by_place (inl less) = absurd (subst (IsFree n s) (put_index-less k u i less) h)
    by_place (inr (inl e)) = inr (e, free_of_raise n s k 0 u (subst (IsFree n s) (put_index-at k u i e) h))
    by_place (inr (inr more)) = absurd (subst (IsFree n s) (put_index-more k u i more) h)
free_of_put n s k u (constant c) h = inl h
free_of_put n s k u (application f a) (inl h) =
    elim (free_of_put n s k u f h) [ inl p ↦ inl (inl p) | inr p ↦ inr (inl p.0, p.1) ]
free_of_put n s k u (application f a) (inr h) =
    elim (free_of_put n s k u a h) [ inl p ↦ inl (inr p) | inr p ↦ inr (inr p.0, p.1) ]
free_of_put n s k u (abstraction r b) h = free_of_put n s (k + 1) u b h

pub put_of_free : (n : List ℕ) (s : SimpleType) (k : ℕ) (u t : Term) → IsFree n s t → IsFree n s (put k u t)
put_of_free n s k u (free m r) h = h
put_of_free n s k u (bound i) h = absurd h
put_of_free n s k u (constant c) h = h
put_of_free n s k u (application f a) (inl h) = inl (put_of_free n s k u f h)
put_of_free n s k u (application f a) (inr h) = inr (put_of_free n s k u a h)
put_of_free n s k u (abstraction r b) h = put_of_free n s (k + 1) u b h

pub put_of_index : (n : List ℕ) (s : SimpleType) (k : ℕ) (u t : Term) → HasIndex k t → IsFree n s u → IsFree n s (put k u t)
put_of_index n s k u (free m r) here h = absurd here
put_of_index n s k u (bound i) here h = subst (IsFree n s) (sym (put_index-at k u i here)) (raise_of_free n s k 0 u h)
put_of_index n s k u (constant c) here h = absurd here
put_of_index n s k u (application f a) (inl here) h = inl (put_of_index n s k u f here h)
put_of_index n s k u (application f a) (inr here) h = inr (put_of_index n s k u a here h)
put_of_index n s k u (abstraction r b) here h = put_of_index n s (k + 1) u b here h

-- exactly the free variables of an instance
pub free-put : (n : List ℕ) (s : SimpleType) (k : ℕ) (u t : Term) → IsFree n s (put k u t) ↔ (IsFree n s t ⊎ (HasIndex k t × IsFree n s u))
free-put n s k u t = (free_of_put n s k u t, back)
  where
    back : IsFree n s t ⊎ (HasIndex k t × IsFree n s u) → IsFree n s (put k u t)
    back (inl h) = put_of_free n s k u t h
    back (inr p) = put_of_index n s k u t p.0 p.1

-- the list of free variables

-- the variable stands in the list
abbrev pub StandsIn : Variable → List Variable → Type 0
StandsIn v [] = ⊥
StandsIn v (w ∷ rest) = (w ≡ v) ⊎ StandsIn v rest

stands_append_left : (v : Variable) (xs ys : List Variable) → StandsIn v xs → StandsIn v (xs ++ ys)
stands_append_left v [] ys h = absurd h
stands_append_left v (x ∷ xs) ys (inl e) = inl e
stands_append_left v (x ∷ xs) ys (inr h) = inr (stands_append_left v xs ys h)

stands_append_right : (v : Variable) (xs ys : List Variable) → StandsIn v ys → StandsIn v (xs ++ ys)
stands_append_right v [] ys h = h
stands_append_right v (x ∷ xs) ys h = inr (stands_append_right v xs ys h)

stands_append_cases : (v : Variable) (xs ys : List Variable) → StandsIn v (xs ++ ys) → StandsIn v xs ⊎ StandsIn v ys
stands_append_cases v [] ys h = inr h
stands_append_cases v (x ∷ xs) ys (inl e) = inl (inl e)
stands_append_cases v (x ∷ xs) ys (inr h) = elim (stands_append_cases v xs ys h) [ inl p ↦ inl (inr p) | inr p ↦ inr p ]

free_stands : (n : List ℕ) (s : SimpleType) (t : Term) → IsFree n s t → StandsIn (n, s) (occurrences t)
free_stands n s (free m r) h = inl (λ i. (sym h.0 i, sym h.1 i))
free_stands n s (bound i) h = h
free_stands n s (constant c) h = h
free_stands n s (application f a) (inl h) = stands_append_left (n, s) (occurrences f) (occurrences a) (free_stands n s f h)
free_stands n s (application f a) (inr h) = stands_append_right (n, s) (occurrences f) (occurrences a) (free_stands n s a h)
free_stands n s (abstraction r b) h = free_stands n s b h

stands_free : (n : List ℕ) (s : SimpleType) (t : Term) → StandsIn (n, s) (occurrences t) → IsFree n s t
stands_free n s (free m r) (inl e) = (sym (ap (λ (v : Variable). v.0) e), sym (ap (λ (v : Variable). v.1) e))
stands_free n s (free m r) (inr h) = absurd h
stands_free n s (bound i) h = h
stands_free n s (constant c) h = h
stands_free n s (application f a) h =
    elim (stands_append_cases (n, s) (occurrences f) (occurrences a) h) [ inl p ↦ inl (stands_free n s f p) | inr p ↦ inr (stands_free n s a p) ]
stands_free n s (abstraction r b) h = stands_free n s b h

-- a list without one of its variables

kept : (v w : Variable) (rest : List Variable) → StandsIn w (without v rest) → StandsIn w rest
kept v w [] h = h
kept v w (x ∷ rest) h = by_test (same_variable v x) (kept v w rest) h
  where
    by_test : (b : Bool) → (StandsIn w (without v rest) → StandsIn w rest) → StandsIn w (cond (not b) (x ∷ without v rest) (without v rest)) → StandsIn w (x ∷ rest)
    by_test true in_rest h = inr (in_rest h)
    by_test false in_rest (inl e) = inl e
    by_test false in_rest (inr h) = inr (in_rest h)

kept_or_same : (v w : Variable) (rest : List Variable) → StandsIn w rest → (v ≡ w) ⊎ StandsIn w (without v rest)
kept_or_same v w [] h = absurd h
kept_or_same v w (x ∷ rest) h = by_test (same_variable v x) refl (kept_or_same v w rest) h
  where
    by_test : (b : Bool) → same_variable v x ≡ b → (StandsIn w rest → (v ≡ w) ⊎ StandsIn w (without v rest))
        → StandsIn w (x ∷ rest) → (v ≡ w) ⊎ StandsIn w (cond (not b) (x ∷ without v rest) (without v rest))
    by_test true e in_rest (inl here) = inl (same_variable_only v x e ∙ here)
    by_test true e in_rest (inr h) = in_rest h
    by_test false e in_rest (inl here) = inr (inl here)
    by_test false e in_rest (inr h) = elim (in_rest h) [ inl p ↦ inl p | inr p ↦ inr (inr p) ]

first_stands : (w : Variable) (xs : List Variable) → StandsIn w (first_occurrences xs) → StandsIn w xs
first_stands w [] h = h
first_stands w (x ∷ xs) (inl e) = inl e
first_stands w (x ∷ xs) (inr h) = inr (first_stands w xs (kept x w (first_occurrences xs) h))

stands_first : (w : Variable) (xs : List Variable) → StandsIn w xs → StandsIn w (first_occurrences xs)
stands_first w [] h = h
stands_first w (x ∷ xs) (inl e) = inl e
stands_first w (x ∷ xs) (inr h) = kept_or_same x w (first_occurrences xs) (stands_first w xs h)

pub contains_stands : (v : Variable) (xs : List Variable) → Contains xs v → StandsIn v xs
contains_stands v [] (k, within, e) = absurd (omega arith)
contains_stands v (x ∷ xs) (zero, within, e) = inl e
contains_stands v (x ∷ xs) (suc k, within, e) = inr (contains_stands v xs (k, omega arith, e))

pub stands_contains : (v : Variable) (xs : List Variable) → StandsIn v xs → Contains xs v
stands_contains v [] h = absurd h
stands_contains v (x ∷ xs) (inl e) = (zero, omega arith, e)
stands_contains v (x ∷ xs) (inr h) = let p = stands_contains v xs h in (suc p.0, (let within : p.0 < length xs = p.1 in omega arith), p.2)

-- the list holds exactly the free variables
pub free_variables-contains : (n : List ℕ) (s : SimpleType) (t : Term) → Contains (free_variables_of t) (n, s) ↔ IsFree n s t
free_variables-contains n s t = (
  (λ h. stands_free n s t (first_stands (n, s) (occurrences t) (contains_stands (n, s) (free_variables_of t) h))),
  (λ h. stands_contains (n, s) (free_variables_of t) (stands_first (n, s) (occurrences t) (free_stands n s t h))),
)
