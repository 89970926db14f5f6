-- Look-ups by a number in the entries of a map.
use Rattle.std.proofs.Common.{◌≡◌, ℕ, List, [], ◌∷◌, Bool, true, false, Option, Some, None, is_some, take, length, get_or, cond, ◌<◌, ◌+◌, option_copied, Bor, refl, sym, subst, nat_eq, eqb-true, eq-eqb, inl, inr}
use Rattle.std.specs.Prelude.{Contains}
use Rattle.std.specs.List.{AllByRecursion}
use Rattle.std.specs.Map.{lookup}
use Rattle.std.proofs.lemmas.List.{take_more}
use Rattle.std.proofs.lemmas.Map.Views.{Contains-from_lookup}
use Rattle.dependency.proofs.Elements.{first_or_later, none_there, Contains-image}
use Rattle.refutations.specs.Cases.{leaves_of}
use Rattle.refutations.proofs.Replacing.{all_joined}

-- what a look-up finds is there
pub found_there : (k v : ℕ) (entries : List (ℕ × ℕ)) → lookup (nat_eq k) entries ≡ Some v → Contains entries (k, v)
found_there k v entries found = Contains-from_lookup {eq = nat_eq} (λ x y same. eqb-true x y same) k v entries found

-- a look-up that finds something has a key that is there
pub key_there : (k : ℕ) (entries : List (ℕ × ℕ)) (found : Option ℕ) → lookup (nat_eq k) entries ≡ found → is_some found ≡ true → Contains (leaves_of entries) k
key_there k entries None e h = absurd cc
key_there k entries (Some v) e h = Contains-image (λ (entry : ℕ × ℕ). entry.0) entries (k, v) (found_there k v entries e)

-- and one that finds nothing has none
pub key_not_there : (k : ℕ) (entries : List (ℕ × ℕ)) → lookup (nat_eq k) entries ≡ None → Contains (leaves_of entries) k → ⊥
key_not_there k [] none there = none_there k there
key_not_there k (x ∷ entries) none there = go (nat_eq k x.0) refl none (key_not_there k entries)
  where
    go : (b : Bool) → nat_eq k x.0 ≡ b → cond b (Some x.1) (lookup (nat_eq k) entries) ≡ None → (lookup (nat_eq k) entries ≡ None → Contains (leaves_of entries) k → ⊥) → ⊥
    go true e none rest = cc
    go false e none rest = elim (first_or_later x.0 (leaves_of entries) k there) [
      | inl same ↦ let yes = eq-eqb k x.0 (sym same) in cc
      | inr later ↦ rest none later
    ]

-- a value that is there is there as a copy, and one that isn't isn't
pub copied_there : (found : Option (Bor ℕ)) → is_some found ≡ true → is_some (option_copied found) ≡ true
copied_there None h = cc
copied_there (Some x) h = refl

pub copied_not_there : (found : Option (Bor ℕ)) → is_some found ≡ false → option_copied found ≡ None
copied_not_there None h = refl
copied_not_there (Some x) h = cc

-- one element more of a list, from the front
pub one_more_of : {A : Type 0} (P : A → Type 0) (xs : List A) (i : ℕ) (d : A) → i < length xs → AllByRecursion P (take i xs) → P (get_or xs i d) → AllByRecursion P (take (i + 1) xs)
one_more_of P xs i d less before here = subst (AllByRecursion P) (sym (take_more xs i d less)) (all_joined P (take i xs) (get_or xs i d ∷ []) before (here, tt))
