-- The tokens of formula text.
use Rattle.std.specs.Prelude.{◌≡◌, ℕ, ◌+◌, ◌-◌, ◌++◌, Bool, true, false, List, [], ◌∷◌, All, length, map, codes, encode_utf8_all, Some}
use Rattle.std.specs.Char.{IsScalar, is_ascii_digit}
use Rattle.std.specs.List.{list_all}
use Rattle.unicode_ident.specs.Ident.{is_xid_continue}
use Rattle.hol_terms.specs.Names.{IsWord}
use Rattle.core_text.specs.Tokens.{is_white}
use Rattle.core_text.specs.Words.{numeral_of}

-- what a token says: a bracket or another mark, the number of a numeral, or the characters of a word
pub data Sign : Type 0 where
  open_square close_square open_round close_round dot tilde semicolon : Sign
  number : ℕ → Sign
  word : List ℕ → Sign

-- a token with the place of its first byte, counted from 0, and the number of its bytes
pub data Token : Type 0 where
  token : Sign → ℕ → ℕ → Token

abbrev pub sign_of : Token → Sign
sign_of (token s place long) = s

abbrev pub token_place : Token → ℕ
token_place (token s place long) = place

abbrev pub token_length : Token → ℕ
token_length (token s place long) = long

-- the tokens with their places counted from this one
abbrev pub token_from : ℕ → Token → Token
token_from origin (token s place long) = token s (place - origin) long

abbrev pub tokens_from : ℕ → List Token → List Token
tokens_from origin ts = map (token_from origin) ts

-- the first of the characters, if there is one, hasn't the property
abbrev pub Stops : (ℕ → Bool) → List ℕ → Type 0
Stops p [] = Unit {0}
Stops p (c ∷ cs) = p c ≡ false

-- The characters spell a token where others follow: a mark; a numeral, which is a longest run of digits; or a word, which is a
-- longest run of 1 to 64 characters that start and continue an identifier.
abbrev pub Spells : List ℕ → List ℕ → Sign → Type 0
Spells w others open_square = w ≡ codes "["
Spells w others close_square = w ≡ codes "]"
Spells w others open_round = w ≡ codes "("
Spells w others close_round = w ≡ codes ")"
Spells w others dot = w ≡ codes "."
Spells w others tilde = w ≡ codes "~"
Spells w others semicolon = w ≡ codes ";"
Spells w others (number n) = (numeral_of w ≡ Some n) × Stops is_ascii_digit others
Spells w others (word v) = (w ≡ v) × IsWord w × Stops is_xid_continue others

-- Characters, of which the first stands at this place, are white space, then the token, then the others.
pub record Begins (place : ℕ) (characters : List ℕ) (t : Token) (others : List ℕ) : Type 0 where
  pub white : List ℕ
  pub w : List ℕ
  pub parts : characters ≡ white ++ (w ++ others)
  pub blank : list_all is_white white ≡ true
  pub spelled : Spells w others (sign_of t)
  pub at : token_place t ≡ place + length white
  pub long : token_length t ≡ length (encode_utf8_all w)

-- Characters, of which the first stands at this place, are these tokens with white space before each, and then the others, of
-- which the first stands at the last place.
abbrev pub Cuts : ℕ → List ℕ → List Token → ℕ → List ℕ → Type 0
Cuts place characters [] last others = (place ≡ last) × (characters ≡ others)
Cuts place characters (t ∷ ts) last others =
    (rest : List ℕ) × Begins place characters t rest × Cuts (token_place t + token_length t) rest ts last others

-- the characters of a text in UTF-8
abbrev pub AreCharactersOf : List ℕ → List ℕ → Type 0
AreCharactersOf bytes characters = (encode_utf8_all characters ≡ bytes) × All IsScalar characters

-- the characters are these tokens, with white space before, between and after them and nothing else
abbrev pub HasTokens : List ℕ → List Token → Type 0
HasTokens characters ts = (last : ℕ) × (others : List ℕ) × Cuts 0 characters ts last others × (list_all is_white others ≡ true)

-- the tokens of a text in UTF-8
abbrev pub AreTokensOf : List ℕ → List Token → Type 0
AreTokensOf bytes ts = (characters : List ℕ) × AreCharactersOf bytes characters × HasTokens characters ts

-- no token begins with the first of the characters
abbrev pub BeginsNone : List ℕ → Type 0
BeginsNone characters = (w others : List ℕ) (s : Sign) → characters ≡ w ++ others → Spells w others s → ⊥

-- after some tokens and white space stands a character with which no token begins, and this is its place
pub record HasBadCharacter (characters : List ℕ) (place : ℕ) : Type 0 where
  pub before : List Token
  pub last : ℕ
  pub others : List ℕ
  pub cut : Cuts 0 characters before last others
  pub white : List ℕ
  pub bad : ℕ
  pub after : List ℕ
  pub parts : others ≡ white ++ bad ∷ after
  pub blank : list_all is_white white ≡ true
  pub no_white : is_white bad ≡ false
  pub none : BeginsNone (bad ∷ after)
  pub at : place ≡ last + length white

abbrev pub IsBadCharacter : List ℕ → ℕ → Type 0
IsBadCharacter bytes place = (characters : List ℕ) × AreCharactersOf bytes characters × HasBadCharacter characters place
