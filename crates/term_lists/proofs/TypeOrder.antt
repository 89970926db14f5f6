-- Types collected one after another are the first occurrences of each.
use Rattle.std.proofs.Common.{ℕ, ◌+◌, ◌<◌, ◌≤◌, List, [], ◌∷◌, ◌++◌, Bool, true, false, cond, ◌&&◌, ◌||◌, not, filter, ◌≡◌, ◌⊎◌, inl, inr, refl, sym, ap, ap₂, subst, ◌∙◌, append_assoc, append-nil, take, length, get_or, map, Contains}
use Rattle.std.specs.List.{list_any}
use Rattle.std.specs.Bool.{Decides}
use Rattle.std.proofs.lemmas.Bool.Decides.{same_from_decides, Decides-like}
use Rattle.std.proofs.lemmas.List.{take_more, take_all, map-append}
use Rattle.std.proofs.lemmas.List.Folds.{list_any-append}
use Rattle.hol_terms.specs.declared.types.Ty.{Ty}
use Rattle.hol_terms.specs.Terms.{SimpleType, plain_type}
use Rattle.hol_terms.specs.Computed.{same_type}
use Rattle.hol_terms.proofs.Same.{same_type_refl, same_type_only}
use Rattle.term_lists.specs.Signatures.{first_types, with_type, with_types}
use Rattle.term_lists.proofs.Members.{any-contains, mapped-contains, contains-first, contains-cons, contains-cases, contains-filter, filter-contains, Distinct, distinct-filter}

-- the test of a list

pub found_among : (types : List Ty) (i : ℕ) (other : Ty) (s : SimpleType) → i < length types → other ≡ get_or types i other → s ≡ plain_type other
    → true ≡ list_any (same_type s) (map plain_type types)
found_among types i other s less e same =
    let there : Contains (map plain_type types) s = subst (Contains (map plain_type types)) (sym same) (mapped-contains plain_type types other (i, less, sym e)) in
    sym (any-contains same_type same_type_refl s (map plain_type types) there)

not_same : (b : Bool) (s r : SimpleType) → (s ≡ r → ⊥) → same_type s r ≡ b → same_type s r ≡ false
not_same true s r other e = absurd (other (same_type_only s r e))
not_same false s r other e = e

none_of_both : (a b : Bool) → a ≡ false → b ≡ false → (a || (b || false)) ≡ false
none_of_both true b e f = cc
none_of_both false true e f = cc
none_of_both false false e f = refl

pub none_more : (types : List Ty) (i : ℕ) (other : Ty) (s : SimpleType) → i < length types → other ≡ get_or types i other → (s ≡ plain_type other → ⊥)
    → list_any (same_type s) (map plain_type (take i types)) ≡ false → list_any (same_type s) (map plain_type (take (i + 1) types)) ≡ false
none_more types i other s less e differs before =
    let longer : take (i + 1) types ≡ take i types ++ other ∷ [] = take_more types i other less ∙ ap (λ (q : Ty). take i types ++ q ∷ []) (sym e) in
    ap (λ (l : List Ty). list_any (same_type s) (map plain_type l)) longer
    ∙ ap (list_any (same_type s)) (map-append plain_type (take i types) (other ∷ []))
    ∙ list_any-append (same_type s) (map plain_type (take i types)) (plain_type other ∷ [])
    ∙ none_of_both (list_any (same_type s) (map plain_type (take i types))) (same_type s (plain_type other)) before
    (not_same (same_type s (plain_type other)) s (plain_type other) differs refl)

pub none_at_all : (types : List Ty) (i : ℕ) (s : SimpleType) → length types ≤ i → list_any (same_type s) (map plain_type (take i types)) ≡ false
    → false ≡ list_any (same_type s) (map plain_type types)
none_at_all types i s past h = sym (ap (λ (l : List Ty). list_any (same_type s) (map plain_type l)) (sym (take_all i types past)) ∙ h)

-- the order of collecting

pub with_types_both : (collected xs ys : List SimpleType) → with_types collected (xs ++ ys) ≡ with_types (with_types collected xs) ys
with_types_both collected [] ys = refl
with_types_both collected (x ∷ xs) ys = with_types_both (with_type collected x) xs ys

same_type-Decides : (s r : SimpleType) → Decides (same_type s r) (s ≡ r)
same_type-Decides s r = (same_type_only s r, λ e. subst (λ (r : SimpleType). same_type s r ≡ true) e (same_type_refl s))

same_type-flip : (s r : SimpleType) → same_type s r ≡ same_type r s
same_type-flip s r =
    same_from_decides (same_type s r) (same_type r s) (Decides-like (same_type s r) sym sym (same_type-Decides s r)) (same_type-Decides r s)

filter_twice : (p q : SimpleType → Bool) (xs : List SimpleType) → filter p (filter q xs) ≡ filter (λ x. q x && p x) xs
filter_twice p q [] = refl
filter_twice p q (x ∷ xs) = by_tests (q x) (p x) refl (filter_twice p q xs)
  where
    by_tests : (b c : Bool) → p x ≡ c → filter p (filter q xs) ≡ filter (λ x. q x && p x) xs
        → filter p (cond b (x ∷ filter q xs) (filter q xs)) ≡ cond (b && c) (x ∷ filter (λ x. q x && p x) xs) (filter (λ x. q x && p x) xs)
    by_tests true true e ih = ap (λ (b : Bool). cond b (x ∷ filter p (filter q xs)) (filter p (filter q xs))) e ∙ ap (λ (l : List SimpleType). x ∷ l) ih
    by_tests true false e ih = ap (λ (b : Bool). cond b (x ∷ filter p (filter q xs)) (filter p (filter q xs))) e ∙ ih
    by_tests false c e ih = ih

filter_alike : (p q : SimpleType → Bool) → ((x : SimpleType) → p x ≡ q x) → (xs : List SimpleType) → filter p xs ≡ filter q xs
filter_alike p q h [] = refl
filter_alike p q h (x ∷ xs) = ap₂ (λ (b : Bool) (l : List SimpleType). cond b (x ∷ l) l) (h x) (filter_alike p q h xs)

-- those that weren't collected yet
abbrev missing : List SimpleType → List SimpleType → List SimpleType
missing collected = filter (λ r. not (list_any (same_type r) collected))

here_in : (collected : List SimpleType) (s r : SimpleType) → list_any (same_type s) collected ≡ true → (b : Bool) → same_type s r ≡ b
    → (not b && not (list_any (same_type r) collected)) ≡ not (list_any (same_type r) collected)
here_in collected s r h true e = ap not (sym (subst (λ (r : SimpleType). list_any (same_type r) collected ≡ true) (same_type_only s r e) h))
here_in collected s r h false e = refl

not_or : (a b c : Bool) → b ≡ c → (not b && not a) ≡ not (a || (c || false))
not_or true true true e = refl
not_or true true false e = cc
not_or true false true e = cc
not_or true false false e = refl
not_or false true true e = refl
not_or false true false e = cc
not_or false false true e = cc
not_or false false false e = refl

with_types-first : (collected xs : List SimpleType) → with_types collected xs ≡ collected ++ missing collected (first_types xs)
with_types-first collected [] = sym (append-nil collected)
with_types-first collected (x ∷ xs) =
    by_test (list_any (same_type x) collected) refl (with_types-first collected xs) (with_types-first (collected ++ x ∷ []) xs)
  where
    others : List SimpleType
    others = filter (λ r. not (same_type x r)) (first_types xs)

    by_test : (b : Bool) → list_any (same_type x) collected ≡ b → with_types collected xs ≡ collected ++ missing collected (first_types xs)
        → with_types (collected ++ x ∷ []) xs ≡ (collected ++ x ∷ []) ++ missing (collected ++ x ∷ []) (first_types xs)
        → with_types (cond b collected (collected ++ x ∷ [])) xs
        ≡ collected ++ cond (not b) (x ∷ missing collected (filter (λ r. not (same_type x r)) (first_types xs))) (missing collected (filter (λ r. not (same_type x r)) (first_types xs)))
    by_test true e old new =
        old ∙ ap (λ (l : List SimpleType). collected ++ l)
        (sym (filter_twice (λ r. not (list_any (same_type r) collected)) (λ r. not (same_type x r)) (first_types xs)
        ∙ filter_alike (λ r. not (same_type x r) && not (list_any (same_type r) collected)) (λ r. not (list_any (same_type r) collected))
        (λ r. here_in collected x r e (same_type x r) refl) (first_types xs)))
    by_test false e old new =
        new ∙ append_assoc collected (x ∷ []) (missing (collected ++ x ∷ []) (first_types xs))
        ∙ ap (λ (l : List SimpleType). collected ++ (x ∷ l))
        (sym (filter_twice (λ r. not (list_any (same_type r) collected)) (λ r. not (same_type x r)) (first_types xs)
        ∙ filter_alike (λ r. not (same_type x r) && not (list_any (same_type r) collected)) (λ r. not (list_any (same_type r) (collected ++ x ∷ [])))
        (λ r. not_or (list_any (same_type r) collected) (same_type x r) (same_type r x) (same_type-flip x r)
        ∙ sym (ap not (list_any-append (same_type r) collected (x ∷ [])))) (first_types xs)))

filter_all : (xs : List SimpleType) → filter (λ r. true) xs ≡ xs
filter_all [] = refl
filter_all (x ∷ xs) = ap (λ (l : List SimpleType). x ∷ l) (filter_all xs)

pub with_types_from_none : (xs : List SimpleType) → with_types [] xs ≡ first_types xs
with_types_from_none xs = with_types-first [] xs ∙ filter_all (first_types xs)

-- the first occurrences are the items, each once

not_self : (s : SimpleType) → not (same_type s s) ≡ true → ⊥
not_self s e = let yes = same_type_refl s in absurd (cc)

pub distinct-first_types : (xs : List SimpleType) → Distinct (first_types xs)
distinct-first_types [] = tt
distinct-first_types (x ∷ xs) = (
  (λ c. not_self x (filter-contains (λ r. not (same_type x r)) (first_types xs) x c).1),
  distinct-filter (λ r. not (same_type x r)) (first_types xs) (distinct-first_types xs),
)

pub first_types-contains : (xs : List SimpleType) (s : SimpleType) → Contains (first_types xs) s → Contains xs s
first_types-contains [] s h = h
first_types-contains (x ∷ xs) s h =
    elim (contains-cases x (filter (λ r. not (same_type x r)) (first_types xs)) s h) as (λ _. Contains (x ∷ xs) s) [
      | inl e ↦ contains-first x s xs e
      | inr there ↦ contains-cons x xs s (first_types-contains xs s (filter-contains (λ r. not (same_type x r)) (first_types xs) s there).0)
    ]

pub contains-first_types : (xs : List SimpleType) (s : SimpleType) → Contains xs s → Contains (first_types xs) s
contains-first_types [] s h = h
contains-first_types (x ∷ xs) s h = go (same_type x s) refl (contains-cases x xs s h) (contains-first_types xs s)
  where
    go : (b : Bool) → same_type x s ≡ b → (x ≡ s) ⊎ Contains xs s → (Contains xs s → Contains (first_types xs) s)
        → Contains (x ∷ filter (λ r. not (same_type x r)) (first_types xs)) s
    go true e c rest = contains-first x s (filter (λ r. not (same_type x r)) (first_types xs)) (same_type_only x s e)
    go false e (inl same) rest = contains-first x s (filter (λ r. not (same_type x r)) (first_types xs)) same
    go false e (inr there) rest =
        contains-cons x (filter (λ r. not (same_type x r)) (first_types xs)) s
        (contains-filter (λ r. not (same_type x r)) (first_types xs) s (rest there) (ap not e))
