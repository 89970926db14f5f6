-- Entries of a table: what is found and what is kept.
use Rattle.std.proofs.Common.{ℕ, zero, suc, ◌<◌, List, [], ◌∷◌, length, Bool, true, false, if◌then◌else◌, eqb, ◌&&◌, Some, Contains, ◌⊎◌, inl, inr, ◌≡◌, refl, ap, ap₂, sym, subst, ◌∙◌, arith}
use Rattle.std.proofs.lemmas.Map.Views.{Contains-from_lookup}
use Rattle.std.specs.Map.{lookup}
use borrow.Author.Tests.{eqb-true}
use mathlib.Core.Bool.{true≢false}
use Rattle.indexmap.specs.IndexMap.{insert_entry}
use Rattle.beta_eta.specs.Tables.{Entry}

abbrev pub same_key : ℕ × ℕ → ℕ × ℕ → Bool
same_key x y = eqb x.0 y.0 && eqb x.1 y.1

both : (x y : Bool) → (x && y) ≡ true → (x ≡ true) × (y ≡ true)
both true true e = (refl, refl)
both true false e = absurd (true≢false (sym e))
both false y e = absurd (true≢false (sym e))

same_key_only : (x y : ℕ × ℕ) → same_key x y ≡ true → x ≡ y
same_key_only x y e =
    let p = both (eqb x.0 y.0) (eqb x.1 y.1) e in
    let pair : ℕ → ℕ → ℕ × ℕ = λ a b. (a, b) in ap₂ pair (eqb-true x.0 y.0 p.0) (eqb-true x.1 y.1 p.1)

pub found_entry : (entries : List Entry) (i k v r : ℕ) → Some v ≡ lookup (same_key (i, k)) entries → r ≡ v → Contains entries ((i, k), r)
found_entry entries i k v r found is =
    Contains-from_lookup {eq = same_key} same_key_only (i, k) r entries (sym found ∙ ap (λ (x : ℕ). Some x) (sym is))

first_or_later : (xs : List Entry) (x y : Entry) → Contains (x ∷ xs) y → (y ≡ x) ⊎ Contains xs y
first_or_later xs x y (zero, within, is) = inl (sym is)
first_or_later xs x y (suc j, within, is) = let lt : j < length xs = omega arith in inr (j, lt, is)

later : (xs : List Entry) (x y : Entry) → Contains xs y → Contains (x ∷ xs) y
later xs x y (j, within, is) = let lt : suc j < length (x ∷ xs) = omega arith in (suc j, lt, is)

pub kept_entry : (entries : List Entry) (i k r : ℕ) (e : Entry) → Contains (insert_entry same_key entries (i, k) r) e → Contains entries e ⊎ (e ≡ ((i, k), r))
kept_entry [] i k r e contains = elim (first_or_later [] ((i, k), r) e contains) [ inl is ↦ inr is | inr none ↦ inl none ]
kept_entry (x ∷ entries) i k r e contains = by (same_key (i, k) x.0) refl (kept_entry entries i k r e)
  where
    zeroth : e ≡ x → Contains (x ∷ entries) e
    zeroth is = let lt : 0 < length (x ∷ entries) = omega arith in (0, lt, sym is)

    by : (b : Bool) → same_key (i, k) x.0 ≡ b → (Contains (insert_entry same_key entries (i, k) r) e → Contains entries e ⊎ (e ≡ ((i, k), r)))
        → Contains (x ∷ entries) e ⊎ (e ≡ ((i, k), r))
    by true test rest =
        let all : Contains ((x.0, r) ∷ entries) e =
        subst (λ (l : List Entry). Contains l e) (ap (λ (b : Bool). if b then (x.0, r) ∷ entries else x ∷ insert_entry same_key entries (i, k) r) test) contains in
        let key : x.0 ≡ (i, k) = sym (same_key_only (i, k) x.0 test) in
        let entry : ℕ × ℕ → Entry = λ p. (p, r) in
        elim (first_or_later entries (x.0, r) e all) [ inl is ↦ inr (is ∙ ap entry key) | inr old ↦ inl (later entries x e old) ]
    by false test rest =
        let all : Contains (x ∷ insert_entry same_key entries (i, k) r) e =
        subst (λ (l : List Entry). Contains l e) (ap (λ (b : Bool). if b then (x.0, r) ∷ entries else x ∷ insert_entry same_key entries (i, k) r) test) contains in
        elim (first_or_later (insert_entry same_key entries (i, k) r) x e all) [
          | inl is ↦ inl (zeroth is)
          | inr more ↦ elim (rest more) [ inl old ↦ inl (later entries x e old) | inr new ↦ inr new ]
        ]
