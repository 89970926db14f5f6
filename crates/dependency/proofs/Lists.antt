-- Laws of lists of numbers without repeats, of chains, and of what is in a list.
use Rattle.std.proofs.Common.{◌≡◌, ℕ, List, [], ◌∷◌, ◌++◌, Bool, true, false, ◌||◌, nat_eq, reverse, refl, sym, ◌∙◌, ap, arith, Contains, zero, suc}
use Rattle.std.specs.List.{IsDistinct, AllByRecursion}
use Rattle.std.proofs.lemmas.List.{reverse-append}
use Rattle.std.proofs.lemmas.List.Folds.{list_any-append}
use Rattle.std.proofs.lemmas.Bool.{eq-eqb, eqb-true}
use Rattle.dependency.specs.Walks.{is_in}

pub reverse-push : {A : Type 0} → (xs : List A) (x : A) → reverse (xs ++ x ∷ []) ≡ x ∷ reverse xs
reverse-push xs x = reverse-append xs (x ∷ [])

pub nat_eq_same : (v : ℕ) → nat_eq v v ≡ true
nat_eq_same v = eq-eqb v v refl

pub nat_eq_flip : (v w : ℕ) → nat_eq v w ≡ nat_eq w v
nat_eq_flip v w = go (nat_eq v w) (nat_eq w v) refl refl
  where
    go : (b c : Bool) → nat_eq v w ≡ b → nat_eq w v ≡ c → b ≡ c
    go true true e f = refl
    go false false e f = refl
    go true false e f = absurd (let g = eq-eqb w v (sym (eqb-true v w e)) in cc)
    go false true e f = absurd (let g = eq-eqb v w (sym (eqb-true w v f)) in cc)

pub is_in-append : (xs ys : List ℕ) (v : ℕ) → is_in (xs ++ ys) v ≡ (is_in xs v || is_in ys v)
is_in-append xs ys v = list_any-append (nat_eq v) xs ys

or_false : (a b c : Bool) → (a || (b || false)) ≡ (b || a)
or_false true true c = refl
or_false true false c = refl
or_false false true c = refl
or_false false false c = refl

pub is_in-push : (xs : List ℕ) (x v : ℕ) → is_in (xs ++ x ∷ []) v ≡ (nat_eq v x || is_in xs v)
is_in-push xs x v = is_in-append xs (x ∷ []) v ∙ or_false (is_in xs v) (nat_eq v x) true

pub is_in-reverse : (xs : List ℕ) (v : ℕ) → is_in (reverse xs) v ≡ is_in xs v
is_in-reverse [] v = refl
is_in-reverse (x ∷ xs) v = ap (λ l. is_in l v) (reverse-append (x ∷ []) xs) ∙ is_in-push (reverse xs) x v ∙ ap (λ b. nat_eq v x || b) (is_in-reverse xs v)

pub both_false : (a b : Bool) → (a || b) ≡ false → (a ≡ false) × (b ≡ false)
both_false true b e = cc
both_false false b e = (refl, e)

none_equal : (xs : List ℕ) (v : ℕ) → is_in xs v ≡ false → AllByRecursion (λ y. nat_eq v y ≡ false) xs
none_equal [] v h = tt
none_equal (x ∷ xs) v h = let p = both_false (nat_eq v x) (is_in xs v) h in (p.0, none_equal xs v p.1)

not_in : (xs : List ℕ) (v : ℕ) → AllByRecursion (λ y. nat_eq v y ≡ false) xs → is_in xs v ≡ false
not_in [] v h = refl
not_in (x ∷ xs) v h = rw h.0 (not_in xs v h.1)

pub distinct-cons : (v : ℕ) (xs : List ℕ) → is_in xs v ≡ false → IsDistinct nat_eq xs → IsDistinct nat_eq (v ∷ xs)
unfolding IsDistinct
distinct-cons v xs new h = (none_equal xs v new, h)

pub distinct-head : (v : ℕ) (xs : List ℕ) → IsDistinct nat_eq (v ∷ xs) → is_in xs v ≡ false
unfolding IsDistinct
distinct-head v xs h = not_in xs v h.0

pub distinct-tail : (v : ℕ) (xs : List ℕ) → IsDistinct nat_eq (v ∷ xs) → IsDistinct nat_eq xs
unfolding IsDistinct
distinct-tail v xs h = h.1

pub distinct-nil : IsDistinct nat_eq []
unfolding IsDistinct
distinct-nil = tt

pub distinct-push : (xs : List ℕ) (v : ℕ) → is_in xs v ≡ false → IsDistinct nat_eq xs → IsDistinct nat_eq (xs ++ v ∷ [])
distinct-push [] v new h = distinct-cons v [] refl distinct-nil
distinct-push (x ∷ xs) v new h =
    let p = both_false (nat_eq v x) (is_in xs v) new in
    let other : is_in (xs ++ v ∷ []) x ≡ false = is_in-push xs v x ∙ rw (nat_eq_flip x v, p.0) (distinct-head x xs h) in
    distinct-cons x (xs ++ v ∷ []) other (distinct-push xs v p.1 (distinct-tail x xs h))

-- between the test and the place

pub Contains-cons : (x : ℕ) (xs : List ℕ) (v : ℕ) → Contains xs v → Contains (x ∷ xs) v
Contains-cons x xs v h = (suc h.0, omega (arith, h.1), h.2)

pub Contains_from_is_in : (xs : List ℕ) (v : ℕ) → is_in xs v ≡ true → Contains xs v
Contains_from_is_in [] v h = absurd (cc)
Contains_from_is_in (x ∷ xs) v h = go (nat_eq v x) refl h (Contains_from_is_in xs v)
  where
    go : (b : Bool) → nat_eq v x ≡ b → (b || is_in xs v) ≡ true → (is_in xs v ≡ true → Contains xs v) → Contains (x ∷ xs) v
    go true e h rest = (0, omega arith, sym (eqb-true v x e))
    go false e h rest = Contains-cons x xs v (rest h)

pub is_in_from_Contains : (xs : List ℕ) (v : ℕ) → Contains xs v → is_in xs v ≡ true
is_in_from_Contains [] v h = absurd (omega (arith, h.1))
is_in_from_Contains (x ∷ xs) v (zero, less, e) = rw (eq-eqb v x (sym e)) refl
is_in_from_Contains (x ∷ xs) v (suc k, less, e) =
    let rest = is_in_from_Contains xs v (k, omega arith, e) in
    rw rest (or_true (nat_eq v x))
  where
    or_true : (b : Bool) → (b || true) ≡ true
    or_true true = refl
    or_true false = refl
