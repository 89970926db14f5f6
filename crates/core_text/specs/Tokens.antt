-- The tokens of a text: brackets and words, each with the place of its first byte.
use Rattle.std.specs.Prelude.{ℕ, ◌+◌, ◌-◌, max, ◌==◌, ◌||◌, ◌&&◌, not, Bool, if◌then◌else◌, List, [], ◌∷◌, map}

-- a bracket, or a word by its bytes
pub data Token : Type 0 where
  opening closing : Token
  word : List ℕ → Token

-- a token with its place, counted in bytes from 0
pub data Piece : Type 0 where
  piece : Token → ℕ → Piece

abbrev pub token : Piece → Token
token (piece t k) = t

-- space, tab, LF and CR
abbrev pub is_white : ℕ → Bool
is_white b = b == 32 || b == 9 || b == 10 || b == 13

-- neither white space nor a bracket
abbrev pub is_in_word : ℕ → Bool
is_in_word b = not (is_white b) && not (b == 40 || b == 41)

-- a byte of a word, put before the pieces of what follows it: it goes onto a word that begins right after it
abbrev pub onto : ℕ → ℕ → List Piece → List Piece
onto b place [] = piece (word (b ∷ [])) place ∷ []
onto b place (piece opening k ∷ ps) = piece (word (b ∷ [])) place ∷ piece opening k ∷ ps
onto b place (piece closing k ∷ ps) = piece (word (b ∷ [])) place ∷ piece closing k ∷ ps
onto b place (piece (word w) k ∷ ps) = if k == place + 1 then piece (word (b ∷ w)) place ∷ ps else piece (word (b ∷ [])) place ∷ piece (word w) k ∷ ps

-- the pieces of bytes of which the first stands at this place; a word is a longest run of bytes that are neither white space
-- nor brackets
abbrev pub pieces : ℕ → List ℕ → List Piece
pieces place [] = []
pieces place (b ∷ bs) =
    if is_white b then pieces (place + 1) bs
    else (if b == 40 then piece opening place ∷ pieces (place + 1) bs
    else (if b == 41 then piece closing place ∷ pieces (place + 1) bs
    else onto b place (pieces (place + 1) bs)))

-- the tokens of a text
abbrev pub tokens : List ℕ → List Token
tokens bytes = map token (pieces 0 bytes)

-- how many brackets are open at most at once, from where this many are
abbrev pub most_open : ℕ → List Token → ℕ
most_open depth [] = depth
most_open depth (word w ∷ ts) = most_open depth ts
most_open depth (opening ∷ ts) = most_open (depth + 1) ts
most_open depth (closing ∷ ts) = max depth (most_open (depth - 1) ts)

-- how deep the brackets of a text are nested
abbrev pub depth_of : List ℕ → ℕ
depth_of bytes = most_open 0 (tokens bytes)
