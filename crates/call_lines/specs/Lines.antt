-- Lines that have no call.
use Rattle.std.specs.Prelude.{◌≡◌, ℕ, List, ◌∷◌, Contains}

-- the line begins with #
abbrev pub IsHeading : List ℕ → Type 0
IsHeading line = (rest : List ℕ) × (line ≡ 35 ∷ rest)

-- no byte of the line is a space
abbrev pub HasNoSpace : List ℕ → Type 0
HasNoSpace line = Contains line 32 → ⊥
