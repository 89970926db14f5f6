-- Forms, and the tokens that spell them.
use Rattle.std.specs.Prelude.{◌≡◌, ℕ, ◌+◌, ◌^◌, ◌<◌, ◌≤◌, max, IsTrue, IsUtf8, List, [], ◌∷◌, ◌++◌, decimal}
use Rattle.core_text.specs.Tokens.{Token, opening, closing, word, tokens}
use Rattle.core_text.specs.Words.{is_word}

-- a word by its bytes, a number, or a bracketed list of forms
mutual
  pub data Form : Type 0 where
    word_form : List ℕ → Form
    number_form : ℕ → Form
    list_form : Forms → Form

  pub data Forms : Type 0 where
    no_forms : Forms
    more_forms : Form → Forms → Forms

-- the tokens that spell a form; a number is spelled in decimal
abbrev mutual
  pub spelling : Form → List Token
  spelling (word_form w) = word w ∷ []
  spelling (number_form n) = word (decimal n) ∷ []
  spelling (list_form fs) = opening ∷ spelling_of_all fs ++ closing ∷ []

  pub spelling_of_all : Forms → List Token
  spelling_of_all no_forms = []
  spelling_of_all (more_forms f fs) = spelling f ++ spelling_of_all fs

-- how many brackets are open at most at once
abbrev mutual
  pub nesting : Form → ℕ
  nesting (word_form w) = 0
  nesting (number_form n) = 0
  nesting (list_form fs) = nesting_of_all fs + 1

  pub nesting_of_all : Forms → ℕ
  nesting_of_all no_forms = 0
  nesting_of_all (more_forms f fs) = max (nesting f) (nesting_of_all fs)

-- each word has 1 to 64 characters that start and continue an identifier, and each number has 64 bits
abbrev mutual
  pub IsWellSpelled : Form → Type 0
  IsWellSpelled (word_form w) = IsTrue (is_word w)
  IsWellSpelled (number_form n) = n < 2 ^ 64
  IsWellSpelled (list_form fs) = AreWellSpelled fs

  pub AreWellSpelled : Forms → Type 0
  AreWellSpelled no_forms = Unit {0}
  AreWellSpelled (more_forms f fs) = IsWellSpelled f × AreWellSpelled fs

-- the bytes are a text of this form, within the limits of reading
pub record IsTextOf (bytes : List ℕ) (f : Form) : Type 0 where
  pub utf8 : IsUtf8 bytes
  pub spelled : tokens bytes ≡ spelling f
  pub words : IsWellSpelled f
  pub depth : nesting f ≤ 5000
