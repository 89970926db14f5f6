-- Where tokens leave a language, which is given by the lists of tokens that belong to it.
use Rattle.std.specs.Prelude.{◌≡◌, ◌⊎◌, ℕ, List, [], ◌∷◌, ◌++◌}
use Rattle.tps_reader.specs.Tokens.{Token, token_place}

-- the tokens and some others after them belong to the language
abbrev pub Begins : (List Token → Type 0) → List Token → Type 0
Begins L ts = (more : List Token) × L (ts ++ more)

-- Some list of the language begins with the tokens before one, and none with that one too; this is its place.
pub record Stops (L : List Token → Type 0) (ts : List Token) (place : ℕ) : Type 0 where
  pub before : List Token
  pub t : Token
  pub after : List Token
  pub parts : ts ≡ before ++ (t ∷ after)
  pub at : place ≡ token_place t
  pub begins : Begins L before
  pub stops : Begins L (before ++ (t ∷ [])) → ⊥

-- the tokens begin a list of the language, and are none
pub record OnlyBegins (L : List Token → Type 0) (ts : List Token) : Type 0 where
  pub begins : Begins L ts
  pub none : L ts → ⊥

-- The place of the first token such that no list of the language begins with the tokens up to it, or the last place where the tokens
-- only begin one.
abbrev pub LeavesFirst : (List Token → Type 0) → List Token → ℕ → ℕ → Type 0
LeavesFirst L ts last place = Stops L ts place ⊎ ((place ≡ last) × OnlyBegins L ts)
