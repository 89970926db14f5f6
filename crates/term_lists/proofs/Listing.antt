-- Lists of all terms of a kind, as they grow.
use Rattle.std.proofs.Common.{ℕ, ◌+◌, ◌<◌, List, ◌∷◌, [], ◌++◌, ◌≡◌, ◌↔◌, ◌⊎◌, inl, inr, refl, sym, ap, ◌∙◌, subst, Contains, map, flat_map, length, take, get_or, append-nil}
use Rattle.std.proofs.lemmas.List.{take_more, map-append}
use Rattle.std.proofs.lemmas.List.Elements.{Contains-append_left, Contains-append_right, Contains-append_cases}
use Rattle.std.proofs.lemmas.Grind.{flat_map-append}
use Rattle.hol_terms.specs.declared.terms.Tm.{Tm}
use Rattle.hol_terms.specs.Terms.{Term, application, plain_term}
use Rattle.term_lists.specs.Spines.{IsExtendedBy, applications_of}
use Rattle.term_lists.proofs.Members.{contains-cons, contains-first, contains-cases, contains-none, contains-map, mapped-contains}

-- applications

pub contains-applications : (functions arguments : List Term) (t : Term) → Contains (applications_of functions arguments) t
    → (f : Term) × Contains functions f × ((a : Term) × Contains arguments a × (t ≡ application f a))
contains-applications [] arguments t h = absurd (contains-none t h)
contains-applications (g ∷ functions) arguments t h =
    go (Contains-append_cases (map (application g) arguments) (applications_of functions arguments) t h) (contains-applications functions arguments t)
  where
    go : Contains (map (application g) arguments) t ⊎ Contains (applications_of functions arguments) t
        → (Contains (applications_of functions arguments) t → (f : Term) × Contains functions f × ((a : Term) × Contains arguments a × (t ≡ application f a)))
        → (f : Term) × Contains (g ∷ functions) f × ((a : Term) × Contains arguments a × (t ≡ application f a))
    go (inl here) rest = (g, contains-first g g functions refl, contains-map (application g) arguments t here)
    go (inr there) rest = let r = rest there in (r.0, contains-cons g functions r.0 r.1, r.2)

pub applications-contain : (functions arguments : List Term) (f a : Term) → Contains functions f → Contains arguments a
    → Contains (applications_of functions arguments) (application f a)
applications-contain [] arguments f a h k = absurd (contains-none f h)
applications-contain (g ∷ functions) arguments f a h k = go (contains-cases g functions f h) (λ there. applications-contain functions arguments f a there k)
  where
    go : (g ≡ f) ⊎ Contains functions f → (Contains functions f → Contains (applications_of functions arguments) (application f a))
        → Contains (map (application g) arguments ++ applications_of functions arguments) (application f a)
    go (inl e) rest =
        Contains-append_left (map (application g) arguments) (applications_of functions arguments) (application f a)
        (subst (λ (q : Term). Contains (map (application q) arguments) (application f a)) (sym e) (mapped-contains (application f) arguments a k))
    go (inr there) rest = Contains-append_right (map (application g) arguments) (applications_of functions arguments) (application f a) (rest there)

pub applications_more : (functions : List Tm) (i : ℕ) (f : Tm) (arguments : List Term) → i < length functions → f ≡ get_or functions i f
    → applications_of (map plain_term (take (i + 1) functions)) arguments
    ≡ applications_of (map plain_term (take i functions)) arguments ++ map (application (plain_term f)) arguments
applications_more functions i f arguments less e =
    let each : Term → List Term = λ g. map (application g) arguments in
    let longer : take (i + 1) functions ≡ take i functions ++ f ∷ [] = take_more functions i f less ∙ ap (λ (g : Tm). take i functions ++ g ∷ []) (sym e) in
    ap (λ (l : List Tm). applications_of (map plain_term l) arguments) longer
    ∙ ap (flat_map each) (map-append plain_term (take i functions) (f ∷ []))
    ∙ flat_map-append each (map plain_term (take i functions)) (plain_term f ∷ [])
    ∙ ap (λ (l : List Term). applications_of (map plain_term (take i functions)) arguments ++ l) (append-nil (each (plain_term f)))

-- lists that are extended

pub extended-none : (terms : List Term) (P : Term → Type 0) → ((t : Term) → P t → ⊥) → IsExtendedBy terms terms P
extended-none terms P never = record { each = λ t. (inl, λ c. elim c [ inl h ↦ h | inr p ↦ absurd (never t p) ]) }

pub extended-alike : (old new : List Term) (P Q : Term → Type 0) → ((t : Term) → P t ↔ Q t) → IsExtendedBy old new P → IsExtendedBy old new Q
extended-alike old new P Q alike h = record { each = both }
  where
    both : (t : Term) → Contains new t ↔ (Contains old t ⊎ Q t)
    both t = (
      (λ c. elim (((h.each) t).0 c) as (λ _. Contains old t ⊎ Q t) [ inl o ↦ inl o | inr p ↦ inr ((alike t).0 p) ]),
      (λ c. ((h.each) t).1 (elim c as (λ _. Contains old t ⊎ P t) [ inl o ↦ inl o | inr q ↦ inr ((alike t).1 q) ])),
    )

-- one kind after another
pub extended-next : (old middle new : List Term) (P Q R : Term → Type 0) → ((t : Term) → (P t ⊎ Q t) ↔ R t)
    → IsExtendedBy old middle P → IsExtendedBy middle new Q → IsExtendedBy old new R
extended-next old middle new P Q R both h k = record { each = λ t. (there t, back t) }
  where
    there : (t : Term) → Contains new t → Contains old t ⊎ R t
    there t c =
        elim (((k.each) t).0 c) as (λ _. Contains old t ⊎ R t) [
          | inl m ↦ elim (((h.each) t).0 m) as (λ _. Contains old t ⊎ R t) [ inl o ↦ inl o | inr p ↦ inr ((both t).0 (inl p)) ]
          | inr q ↦ inr ((both t).0 (inr q))
        ]

    back : (t : Term) → Contains old t ⊎ R t → Contains new t
    back t (inl o) = ((k.each) t).1 (inl (((h.each) t).1 (inl o)))
    back t (inr r) =
        elim ((both t).1 r) as (λ _. Contains new t) [ inl p ↦ ((k.each) t).1 (inl (((h.each) t).1 (inr p))) | inr q ↦ ((k.each) t).1 (inr q) ]

pub extended-append : (old new more : List Term) → new ≡ old ++ more → IsExtendedBy old new (Contains more)
extended-append old new more e = record { each = both }
  where
    both : (t : Term) → Contains new t ↔ (Contains old t ⊎ Contains more t)
    both t = (
      (λ c. Contains-append_cases old more t (subst (λ (l : List Term). Contains l t) e c)),
      (λ c. subst (λ (l : List Term). Contains l t) (sym e) (elim c as (λ _. Contains (old ++ more) t) [
        | inl o ↦ Contains-append_left old more t o
        | inr m ↦ Contains-append_right old more t m
      ])),
    )
