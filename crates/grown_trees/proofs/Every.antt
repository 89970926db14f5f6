-- What holds of each item of a list, by recursion on the list.
use Rattle.std.proofs.Common.{List, [], ◌∷◌, ◌++◌, Contains, subst, inl, inr}
use Rattle.std.specs.List.{AllByRecursion}
use Rattle.dependency.proofs.Elements.{Contains-first, Contains-later, first_or_later, none_there}

pub every_contained : {A : Type 0} → (P : A → Type 0) (xs : List A) → ((x : A) → Contains xs x → P x) → AllByRecursion P xs
every_contained P [] h = tt
every_contained P (x ∷ xs) h = (h x (Contains-first x xs), every_contained P xs (λ y there. h y (Contains-later x xs y there)))

pub contained_every : {A : Type 0} → (P : A → Type 0) (xs : List A) (x : A) → AllByRecursion P xs → Contains xs x → P x
contained_every P [] x h there = absurd (none_there x there)
contained_every P (y ∷ ys) x h there = elim (first_or_later y ys x there) [
  | inl same ↦ subst P same h.0
  | inr later ↦ contained_every P ys x h.1 later
]

pub every_left : {A : Type 0} → (P : A → Type 0) (xs ys : List A) → AllByRecursion P (xs ++ ys) → AllByRecursion P xs
every_left P [] ys h = tt
every_left P (x ∷ xs) ys h = (h.0, every_left P xs ys h.1)

pub every_right : {A : Type 0} → (P : A → Type 0) (xs ys : List A) → AllByRecursion P (xs ++ ys) → AllByRecursion P ys
every_right P [] ys h = h
every_right P (x ∷ xs) ys h = every_right P xs ys h.1

pub every_both : {A : Type 0} → (P : A → Type 0) (xs ys : List A) → AllByRecursion P xs → AllByRecursion P ys → AllByRecursion P (xs ++ ys)
every_both P [] ys h k = k
every_both P (x ∷ xs) ys h k = (h.0, every_both P xs ys h.1 k)

pub every_weaker : {A : Type 0} → (P Q : A → Type 0) → ((x : A) → P x → Q x) → (xs : List A) → AllByRecursion P xs → AllByRecursion Q xs
every_weaker P Q f [] h = tt
every_weaker P Q f (x ∷ xs) h = (f x h.0, every_weaker P Q f xs h.1)
