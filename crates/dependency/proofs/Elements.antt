-- What holds of each element of a list, and elements of lists of images.
use Rattle.std.proofs.Common.{◌≡◌, ◌<◌, ℕ, zero, suc, List, [], ◌∷◌, ◌++◌, Contains, length, map, get_or, slice_get, Some, refl, ap, subst, arith, inl, inr, ◌⊎◌}
use Rattle.std.proofs.lemmas.List.Elements.{Contains-append_cases}

pub Contains-first : {A : Type 0} → (x : A) (xs : List A) → Contains (x ∷ xs) x
Contains-first x xs = (0, omega arith, refl)

pub Contains-later : {A : Type 0} → (x : A) (xs : List A) (y : A) → Contains xs y → Contains (x ∷ xs) y
Contains-later x xs y h = (suc h.0, omega (arith, h.1), h.2)

pub first_or_later : {A : Type 0} → (x : A) (xs : List A) (y : A) → Contains (x ∷ xs) y → (x ≡ y) ⊎ Contains xs y
first_or_later {A} x xs y h = by_place h.0 h.1 h.2
  where
    by_place : (k : ℕ) → k < suc (length xs) → get_or (x ∷ xs) k y ≡ y → (x ≡ y) ⊎ Contains xs y
    by_place zero within found = inl found
    by_place (suc k) within found = inr (k, omega (arith, within), found)

pub none_there : {A : Type 0} → (x : A) → Contains [] x → ⊥
none_there x h = omega (arith, h.1)

-- P holds of each element
abbrev pub Each : {A : Type 0} → (A → Type 0) → List A → Type 0
Each {A} P xs = (x : A) → Contains xs x → P x

pub each-nil : {A : Type 0} → (P : A → Type 0) → Each P []
each-nil P x h = absurd (none_there x h)

pub each-cons : {A : Type 0} → (P : A → Type 0) (x : A) (xs : List A) → P x → Each P xs → Each P (x ∷ xs)
each-cons P x xs h k y there = elim (first_or_later x xs y there) [
  | inl same ↦ subst P same h
  | inr later ↦ k y later
]

pub each-append : {A : Type 0} → (P : A → Type 0) (xs ys : List A) → Each P xs → Each P ys → Each P (xs ++ ys)
each-append P xs ys h k x there = elim (Contains-append_cases xs ys x there) [ inl left ↦ h x left | inr right ↦ k x right ]

-- images

pub Contains-image : {A B : Type 0} → (f : A → B) (xs : List A) (x : A) → Contains xs x → Contains (map f xs) (f x)
Contains-image f [] x h = absurd (none_there x h)
Contains-image f (y ∷ ys) x h = elim (first_or_later y ys x h) [
  | inl same ↦ (0, omega arith, ap f same)
  | inr later ↦ Contains-later (f y) (map f ys) (f x) (Contains-image f ys x later)
]

pub image_of : {A B : Type 0} → (f : A → B) (xs : List A) (y : B) → Contains (map f xs) y → (x : A) × Contains xs x × (f x ≡ y)
image_of f [] y h = absurd (none_there y h)
image_of f (x ∷ xs) y h = elim (first_or_later (f x) (map f xs) y h) [
  | inl same ↦ (x, Contains-first x xs, same)
  | inr later ↦ (let p = image_of f xs y later in (p.0, Contains-later x xs p.0 p.1, p.2))
]

-- what stands at a place of the images
pub image_at : {A B : Type 0} → (f : A → B) (xs : List A) (k : ℕ) (y : B) → slice_get (map f xs) k ≡ Some y → (x : A) × (slice_get xs k ≡ Some x) × (f x ≡ y)
image_at f [] k y e = absurd (cc)
image_at f (x ∷ xs) zero y e = (x, refl, (cc))
image_at f (x ∷ xs) (suc k) y e = image_at f xs k y e

pub at_image : {A B : Type 0} → (f : A → B) (xs : List A) (k : ℕ) (x : A) → slice_get xs k ≡ Some x → slice_get (map f xs) k ≡ Some (f x)
at_image f [] k x e = absurd (cc)
at_image f (y ∷ ys) zero x e = let same : y ≡ x = cc in ap (λ z. Some (f z)) same
at_image f (y ∷ ys) (suc k) x e = at_image f ys k x e

pub Contains_there : {A : Type 0} → (xs : List A) (k : ℕ) (x : A) → slice_get xs k ≡ Some x → Contains xs x
Contains_there [] k x e = absurd (cc)
Contains_there (y ∷ ys) zero x e = (0, omega arith, (cc))
Contains_there (y ∷ ys) (suc k) x e = Contains-later y ys x (Contains_there ys k x e)

pub where_contained : {A : Type 0} → (xs : List A) (x : A) → Contains xs x → (k : ℕ) × (slice_get xs k ≡ Some x)
where_contained [] x h = absurd (none_there x h)
where_contained (y ∷ ys) x h = elim (first_or_later y ys x h) [
  | inl same ↦ (0, ap (λ z. Some z) same)
  | inr later ↦ (let p = where_contained ys x later in (suc p.0, p.1))
]
