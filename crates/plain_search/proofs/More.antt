-- Lists that have more items than others.
use Rattle.std.proofs.Common.{List, ◌++◌, Contains, inl, inr, ◌⊎◌}
use Rattle.std.proofs.lemmas.List.Elements.{Contains-append_left, Contains-append_right, Contains-append_cases}

-- each item of the second list is in the first one or new
abbrev pub IsMoreBy : {A : Type 0} → (A → Type 0) → List A → List A → Type 0
IsMoreBy {A} New xs ys = (x : A) → Contains ys x → Contains xs x ⊎ New x

pub more_left : {A : Type 0} → (New : A → Type 0) (xs ys zs : List A) → IsMoreBy New xs ys → IsMoreBy New (xs ++ zs) (ys ++ zs)
more_left New xs ys zs h x there = elim (Contains-append_cases ys zs x there) [
  | inl left ↦ (elim (h x left) [ inl old ↦ inl (Contains-append_left xs zs x old) | inr new ↦ inr new ])
  | inr right ↦ inl (Contains-append_right xs zs x right)
]

pub more_right : {A : Type 0} → (New : A → Type 0) (zs xs ys : List A) → IsMoreBy New xs ys → IsMoreBy New (zs ++ xs) (zs ++ ys)
more_right New zs xs ys h x there = elim (Contains-append_cases zs ys x there) [
  | inl left ↦ inl (Contains-append_left zs xs x left)
  | inr right ↦ (elim (h x right) [ inl old ↦ inl (Contains-append_right zs xs x old) | inr new ↦ inr new ])
]

pub more_same : {A : Type 0} → (New : A → Type 0) (xs : List A) → IsMoreBy New xs xs
more_same New xs x there = inl there
