-- What a walk along a path keeps at hand: how often each leaf is on the path, and with which leaves pairs join it.
use Rattle.std.specs.Prelude.{◌≡◌, ◌<◌, ℕ, ◌==◌, if◌then◌else◌, List, [], ◌∷◌, ◌++◌, map, length, Vec, count_by, slice_index, slice_index_or}
use Rattle.std.specs.List.{flat_map}
use Rattle.std.specs.declared.alloc.Global.{Global}

-- how often the leaf is on the path
abbrev pub times_on : List ℕ → ℕ → ℕ
times_on path leaf = count_by (λ n. n == leaf) path

-- at each number stands how often that leaf is on the path, and a number past the end isn't on it
pub record AreCounts (counts path : List ℕ) : Type 0 where
  pub each : (leaf : ℕ) → slice_index counts leaf ≡ times_on path leaf

-- the leaf that a pair joins with the given one, for each side on which that one stands
abbrev pub partners_in : ℕ × ℕ → ℕ → List ℕ
partners_in pair leaf = (if pair.0 == leaf then pair.1 ∷ [] else []) ++ (if pair.1 == leaf then pair.0 ∷ [] else [])

-- the leaves with which pairs join the leaf
abbrev pub partners : List (ℕ × ℕ) → ℕ → List ℕ
partners pairs leaf = flat_map (λ pair. partners_in pair leaf) pairs

-- the rows of a table, as lists
abbrev pub row_lists : List (Vec ℕ Global) → List (List ℕ)
row_lists rows = map (λ (row : Vec ℕ Global). row.items) rows

-- at each number below the bound stand the partners of that leaf
pub record ArePartnerRows (bound : ℕ) (pairs : List (ℕ × ℕ)) (rows : List (Vec ℕ Global)) : Type 0 where
  pub many : length rows ≡ bound
  pub each : (leaf : ℕ) → leaf < bound → slice_index_or (row_lists rows) leaf [] ≡ partners pairs leaf
