-- What calls do to the bytes that a source has left and that a sink was given, where these are told.
use Rattle.std.specs.Prelude.{◌≡◌, ℕ, ◌<◌, List, [], ◌++◌, length, is_some, ⊤, None, Some, Option}
use Rattle.std.specs.Io.KnownBytes.{Appends, Consumes}

-- whether the bytes are told doesn't change
abbrev pub TellsAlike : Option (List ℕ) → Option (List ℕ) → Type 0
TellsAlike old new = is_some new ≡ is_some old

-- these are all bytes that were left, in their order, and none is left now
abbrev pub TakesAll : Option (List ℕ) → Option (List ℕ) → List ℕ → Type 0
TakesAll None new bytes = ⊤
TakesAll (Some xs) None bytes = ⊥
TakesAll (Some xs) (Some ys) bytes = (bytes ≡ xs) × (ys ≡ [])

-- a prefix of the bytes that were left was taken, and the rest is left
abbrev pub TakesFront : Option (List ℕ) → Option (List ℕ) → Type 0
TakesFront old new = (front : List ℕ) × Consumes old new front

-- more than max bytes were left
abbrev pub HeldMore : Option (List ℕ) → ℕ → Type 0
HeldMore None max = ⊤
HeldMore (Some xs) max = max < length xs

-- a prefix of the bytes was appended, and not all of them
abbrev pub AppendsFront : Option (List ℕ) → Option (List ℕ) → List ℕ → Type 0
AppendsFront old new bytes = (front : List ℕ) × (rest : List ℕ) × (bytes ≡ front ++ rest) × Appends old new front × (0 < length rest)
