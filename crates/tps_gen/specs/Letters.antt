-- Names of one letter.
use Rattle.std.specs.Prelude.{◌≡◌, ℕ, List, [], ◌∷◌, IsTrue}
use Rattle.std.specs.Char.{is_ascii_alphabetic}

-- the text is one letter from A to Z or from a to z
abbrev pub IsLetter : List ℕ → Type 0
IsLetter text = (c : ℕ) × (text ≡ c ∷ []) × IsTrue (is_ascii_alphabetic c)
