-- Which lists of characters are words, and which of them are names.
use Rattle.std.specs.Prelude.{ℕ, ◌≤◌, ◌≡◌, ◌⊎◌, List, [], ◌∷◌, length, IsTrue, codes, All}
use Rattle.std.specs.Char.{IsScalar}
use Rattle.unicode_ident.specs.Ident.{is_xid_start, is_xid_continue}

-- the first character may start an identifier, and the others may continue one, by Unicode Standard Annex 31
abbrev pub IsIdentifier : List ℕ → Type 0
IsIdentifier [] = ⊥
IsIdentifier (first ∷ rest) = IsTrue (is_xid_start first) × All (λ c. IsTrue (is_xid_continue c)) rest

-- an identifier of at most 64 characters
abbrev pub IsWord : List ℕ → Type 0
IsWord characters = All IsScalar characters × (length characters ≤ 64) × IsIdentifier characters

-- the words that name a connective, a constant or a binder
abbrev pub IsReserved : List ℕ → Type 0
IsReserved word =
    (word ≡ codes "AND") ⊎ ((word ≡ codes "OR") ⊎ ((word ≡ codes "IMPLIES") ⊎ ((word ≡ codes "EQUIV") ⊎ ((word ≡ codes "TRUTH")
    ⊎ ((word ≡ codes "FALSEHOOD") ⊎ ((word ≡ codes "FORALL") ⊎ ((word ≡ codes "EXISTS") ⊎ (word ≡ codes "LAMBDA"))))))))

-- the list begins with the character _
abbrev pub BeginsWithUnderscore : List ℕ → Type 0
BeginsWithUnderscore [] = ⊥
BeginsWithUnderscore (first ∷ rest) = first ≡ 95

-- a word that doesn't begin with _ and isn't reserved
abbrev pub IsName : List ℕ → Type 0
IsName characters = IsWord characters × (BeginsWithUnderscore characters → ⊥) × (IsReserved characters → ⊥)
