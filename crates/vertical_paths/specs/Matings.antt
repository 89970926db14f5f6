-- Good pairs, the paths that hold a pair, and the first that holds none. After Andrews 1981.
use Rattle.std.specs.Prelude.{◌≡◌, ℕ, ◌-◌, ◌≤◌, length, take, ◌==◌, if◌then◌else◌, List, Bool, true, not, ◌&&◌, Option, Some, None, slice_get, find, All, Contains, ◌⊎◌}
use Rattle.std.specs.List.{list_any}
use Rattle.hol_terms.specs.Terms.{Term}

-- the leaf of a number, from 1
abbrev pub leaf_at : List (Bool × Term) → ℕ → Option (Bool × Term)
leaf_at leaves n = if n == 0 then None else slice_get leaves (n - 1)

-- both numbers are leaves, of opposite polarity and with equal formulas
abbrev pub IsGood : List (Bool × Term) → ℕ × ℕ → Type 0
IsGood leaves pair = (p : Bool) × (a : Term) × (leaf_at leaves pair.0 ≡ Some (p, a)) × (leaf_at leaves pair.1 ≡ Some (not p, a))

-- the mating holds each good pair, in one order or the other
abbrev pub HoldsGoodPairs : List (Bool × Term) → List (ℕ × ℕ) → Type 0
HoldsGoodPairs leaves pairs = (i j : ℕ) → IsGood leaves (i, j) → Contains pairs (i, j) ⊎ Contains pairs (j, i)

-- pair n, from 1, isn't good, and each pair before it is
pub record IsFirstBad (leaves : List (Bool × Term)) (pairs : List (ℕ × ℕ)) (n : ℕ) : Type 0 where
  pub low : 1 ≤ n
  pub high : n ≤ length pairs
  pub before : All (IsGood leaves) (take (n - 1) pairs)
  pub bad : (pair : ℕ × ℕ) → slice_get pairs (n - 1) ≡ Some pair → ¬ IsGood leaves pair

-- the leaf is on the path
abbrev pub is_on : List ℕ → ℕ → Bool
is_on path leaf = list_any (λ n. n == leaf) path

-- both leaves of some pair are on the path
abbrev pub is_closed : List (ℕ × ℕ) → List ℕ → Bool
is_closed pairs path = list_any (λ pair. is_on path pair.0 && is_on path pair.1) pairs

-- the mating spans the paths: each holds some pair
abbrev pub Spans : List (ℕ × ℕ) → List (List ℕ) → Type 0
Spans pairs paths = All (λ path. is_closed pairs path ≡ true) paths

-- the first of the paths that holds no pair
abbrev pub first_open : List (ℕ × ℕ) → List (List ℕ) → Option (List ℕ)
first_open pairs paths = find (λ path. not (is_closed pairs path)) paths
