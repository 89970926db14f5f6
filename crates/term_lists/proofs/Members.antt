-- Members of lists.
use Rattle.std.proofs.Common.{ℕ, zero, suc, ◌+◌, ◌<◌, ◌≤◌, List, ◌∷◌, [], ◌++◌, ◌≡◌, ◌⊎◌, ◌∙◌, ◌||◌, inl, inr, refl, sym, ap, subst, Contains, map, filter, cond, eqb, Bool, true, false, slice_get, Some, arith}
use Rattle.std.specs.List.{list_any, range_with_len}
use Rattle.std.proofs.lemmas.Bool.Decides.{nat_tests}
use Rattle.std.proofs.lemmas.List.Elements.{Contains-append_cases}

pub contains-cons : {X : Type 0} (x : X) (xs : List X) (y : X) → Contains xs y → Contains (x ∷ xs) y
contains-cons x xs y h = let l = h.1 in (suc h.0, omega arith, h.2)

pub contains-first : {X : Type 0} (x y : X) (xs : List X) → x ≡ y → Contains (x ∷ xs) y
contains-first x y xs e = (zero, omega arith, e)

pub contains-cases : {X : Type 0} (x : X) (xs : List X) (y : X) → Contains (x ∷ xs) y → (x ≡ y) ⊎ Contains xs y
contains-cases x xs y (zero, l, e) = inl e
contains-cases x xs y (suc k, l, e) = inr (k, omega arith, e)

pub contains-none : {X : Type 0} (y : X) → Contains [] y → ⊥
contains-none y h = let l = h.1 in absurd (omega arith)

pub contains-at : {X : Type 0} (xs : List X) (k : ℕ) (y : X) → slice_get xs k ≡ Some y → Contains xs y
contains-at [] k y e = absurd (cc)
contains-at (x ∷ xs) zero y e = contains-first x y xs (cc)
contains-at (x ∷ xs) (suc k) y e = contains-cons x xs y (contains-at xs k y e)

pub contains-map : {A B : Type 0} (f : A → B) (xs : List A) (y : B) → Contains (map f xs) y → (x : A) × Contains xs x × (y ≡ f x)
contains-map {A = A} {B = B} f [] y h = absurd (contains-none y h)
contains-map {A = A} {B = B} f (x ∷ xs) y h = go (contains-cases (f x) (map f xs) y h) (contains-map f xs y)
  where
    go : (f x ≡ y) ⊎ Contains (map f xs) y → (Contains (map f xs) y → (z : A) × Contains xs z × (y ≡ f z)) → (z : A) × Contains (x ∷ xs) z × (y ≡ f z)
    go (inl e) rest = (x, contains-first x x xs refl, sym e)
    go (inr there) rest = let r = rest there in (r.0, contains-cons x xs r.0 r.1, r.2)

pub mapped-contains : {A B : Type 0} (f : A → B) (xs : List A) (x : A) → Contains xs x → Contains (map f xs) (f x)
mapped-contains f [] x h = absurd (contains-none x h)
mapped-contains f (z ∷ xs) x h = go (contains-cases z xs x h) (mapped-contains f xs x)
  where
    go : (z ≡ x) ⊎ Contains xs x → (Contains xs x → Contains (map f xs) (f x)) → Contains (f z ∷ map f xs) (f x)
    go (inl e) rest = contains-first (f z) (f x) (map f xs) (ap f e)
    go (inr there) rest = contains-cons (f z) (map f xs) (f x) (rest there)

pub contains-filter : {X : Type 0} (p : X → Bool) (xs : List X) (y : X) → Contains xs y → p y ≡ true → Contains (filter p xs) y
contains-filter p [] y h e = h
contains-filter {X = X} p (x ∷ xs) y h e = go (contains-cases x xs y h) (p x) refl (λ there. contains-filter p xs y there e)
  where
    go : (x ≡ y) ⊎ Contains xs y → (b : Bool) → p x ≡ b → (Contains xs y → Contains (filter p xs) y) → Contains (cond b (x ∷ filter p xs) (filter p xs)) y
    go (inl same) true test rest = contains-first x y (filter p xs) same
    go (inl same) false test rest = let yes : p x ≡ true = ap p same ∙ e in absurd (cc)
    go (inr there) true test rest = contains-cons x (filter p xs) y (rest there)
    go (inr there) false test rest = rest there

pub filter-contains : {X : Type 0} (p : X → Bool) (xs : List X) (y : X) → Contains (filter p xs) y → Contains xs y × (p y ≡ true)
filter-contains p [] y h = absurd (contains-none y h)
filter-contains {X = X} p (x ∷ xs) y h = go (p x) refl h (filter-contains p xs y)
  where
    go : (b : Bool) → p x ≡ b → Contains (cond b (x ∷ filter p xs) (filter p xs)) y → (Contains (filter p xs) y → Contains xs y × (p y ≡ true))
        → Contains (x ∷ xs) y × (p y ≡ true)
    go true test c rest =
        elim (contains-cases x (filter p xs) y c) as (λ _. Contains (x ∷ xs) y × (p y ≡ true)) [
          | inl same ↦ (contains-first x y xs same, ap p (sym same) ∙ test)
          | inr there ↦ let r = rest there in (contains-cons x xs y r.0, r.1)
        ]
    go false test c rest = let r = rest c in (contains-cons x xs y r.0, r.1)

or_true : (a b : Bool) → b ≡ true → (a || b) ≡ true
or_true true b e = refl
or_true false b e = e

or_first : (a b : Bool) → a ≡ true → (a || b) ≡ true
or_first true b e = refl
or_first false b e = cc

-- a test of equality finds a member
pub any-contains : {X : Type 0} (eq : X → X → Bool) → ((x : X) → eq x x ≡ true) → (y : X) (xs : List X) → Contains xs y → list_any (eq y) xs ≡ true
any-contains eq same y [] h = absurd (contains-none y h)
any-contains {X = X} eq same y (x ∷ xs) h = go (contains-cases x xs y h) (any-contains eq same y xs)
  where
    go : (x ≡ y) ⊎ Contains xs y → (Contains xs y → list_any (eq y) xs ≡ true) → (eq y x || list_any (eq y) xs) ≡ true
    go (inl e) rest = or_first (eq y x) (list_any (eq y) xs) (ap (eq y) e ∙ same y)
    go (inr there) rest = or_true (eq y x) (list_any (eq y) xs) (rest there)

-- ranges

pub contains-range : (a n x : ℕ) → a ≤ x → x < a + n → Contains (range_with_len a n) x
contains-range a zero x low high = absurd (omega arith)
contains-range a (suc n) x low high = go (eqb a x) refl (contains-range (a + 1) n x)
  where
    go : (b : Bool) → eqb a x ≡ b → (a + 1 ≤ x → x < a + 1 + n → Contains (range_with_len (a + 1) n) x) → Contains (a ∷ range_with_len (a + 1) n) x
    go true e rest = let same : a ≡ x = grind (arith, nat_tests) in contains-first a x (range_with_len (a + 1) n) same
    go false e rest =
        let above : a + 1 ≤ x = grind (arith, nat_tests) in
        let below : x < a + 1 + n = omega arith in
        contains-cons a (range_with_len (a + 1) n) x (rest above below)

pub range-contains : (a n x : ℕ) → Contains (range_with_len a n) x → (a ≤ x) × (x < a + n)
range-contains a zero x h = absurd (contains-none x h)
range-contains a (suc n) x h = go (contains-cases a (range_with_len (a + 1) n) x h) (range-contains (a + 1) n x)
  where
    go : (a ≡ x) ⊎ Contains (range_with_len (a + 1) n) x → (Contains (range_with_len (a + 1) n) x → (a + 1 ≤ x) × (x < a + 1 + n)) → (a ≤ x) × (x < a + suc n)
    go (inl e) rest = (omega arith, omega arith)
    go (inr there) rest = let r = rest there in let low = r.0 in let high = r.1 in (omega arith, omega arith)

-- lists without a repetition

abbrev pub Distinct : {X : Type 0} → List X → Type 0
Distinct [] = Unit {0}
Distinct (x ∷ xs) = (Contains xs x → ⊥) × Distinct xs

pub distinct-append : {X : Type 0} (xs ys : List X) → Distinct xs → Distinct ys → ((x : X) → Contains xs x → Contains ys x → ⊥) → Distinct (xs ++ ys)
distinct-append [] ys h k apart = k
distinct-append (x ∷ xs) ys h k apart = (
  (λ c. elim (Contains-append_cases xs ys x c) [ inl l ↦ h.0 l | inr r ↦ apart x (contains-first x x xs refl) r ]),
  distinct-append xs ys h.1 k (λ y l r. apart y (contains-cons x xs y l) r),
)

pub distinct-map : {A B : Type 0} (f : A → B) (xs : List A) → ((x y : A) → f x ≡ f y → x ≡ y) → Distinct xs → Distinct (map f xs)
distinct-map f [] one h = h
distinct-map f (x ∷ xs) one h = (
  (λ c. let m = contains-map f xs (f x) c in h.0 (subst (Contains xs) (sym (one x m.0 m.2)) m.1)),
  distinct-map f xs one h.1,
)

pub distinct-from_map : {A B : Type 0} (f : A → B) (xs : List A) → Distinct (map f xs) → Distinct xs
distinct-from_map f [] h = h
distinct-from_map f (x ∷ xs) h = ((λ c. h.0 (mapped-contains f xs x c)), distinct-from_map f xs h.1)

pub distinct-filter : {X : Type 0} (p : X → Bool) (xs : List X) → Distinct xs → Distinct (filter p xs)
distinct-filter p [] h = h
distinct-filter {X = X} p (x ∷ xs) h = go (p x) (distinct-filter p xs h.1)
  where
    go : (b : Bool) → Distinct (filter p xs) → Distinct (cond b (x ∷ filter p xs) (filter p xs))
    go true rest = ((λ c. h.0 (filter-contains p xs x c).0), rest)
    go false rest = rest

pub distinct-range : (a n : ℕ) → Distinct (range_with_len a n)
distinct-range a zero = tt
distinct-range a (suc n) = ((λ c. let low = (range-contains (a + 1) n a c).0 in absurd (omega arith)), distinct-range (a + 1) n)

-- an item of such a list stands at one place
pub distinct-places : {X : Type 0} (xs : List X) → Distinct xs → (i j : ℕ) (x : X) → slice_get xs i ≡ Some x → slice_get xs j ≡ Some x → i ≡ j
distinct-places [] h i j x e f = absurd (cc)
distinct-places (z ∷ xs) h zero zero x e f = refl
distinct-places (z ∷ xs) h zero (suc j) x e f = let same : z ≡ x = cc in absurd (h.0 (subst (Contains xs) (sym same) (contains-at xs j x f)))
distinct-places (z ∷ xs) h (suc i) zero x e f = let same : z ≡ x = cc in absurd (h.0 (subst (Contains xs) (sym same) (contains-at xs i x e)))
distinct-places (z ∷ xs) h (suc i) (suc j) x e f = ap suc (distinct-places xs h.1 i j x e f)
