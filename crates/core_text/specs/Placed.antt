-- Forms with the places where they stand in a text.
use Rattle.std.specs.Prelude.{◌≡◌, ℕ, List, [], ◌∷◌, ◌++◌, decimal, map}
use Rattle.core_text.specs.Tokens.{opening, closing, word, Piece, piece, pieces}
use Rattle.core_text.specs.Forms.{Form, word_form, number_form, list_form, Forms, no_forms, more_forms, IsTextOf}
use Rattle.core_text.specs.declared.sexps.Sexp.{Sexp}
use Rattle.core_text.specs.declared.sexps.Sexp.TheVariants as sexp
use Rattle.core_text.specs.declared.sexps.Sexps.{Sexps}
use Rattle.core_text.specs.declared.sexps.Sexps.TheVariants as sexps

-- a form with the places of its first byte and of each form in it
mutual
  pub data Placed : Type 0 where
    word_at : List ℕ → ℕ → Placed
    number_at : ℕ → ℕ → Placed
    list_at : PlacedAll → ℕ → Placed

  pub data PlacedAll : Type 0 where
    none_at : PlacedAll
    more_at : Placed → PlacedAll → PlacedAll

-- the form that the program holds, without its pointers
abbrev mutual
  pub placed : Sexp → Placed
  placed (sexp.Word text k) = word_at text k
  placed (sexp.Number n k) = number_at n k
  placed (sexp.List all k) = list_at (placed_all all) k

  pub placed_all : Sexps → PlacedAll
  placed_all sexps.End = none_at
  placed_all (sexps.More' p s q rest) = more_at (placed s) (placed_all rest)

-- the form without its places
abbrev mutual
  pub form : Placed → Form
  form (word_at w k) = word_form w
  form (number_at n k) = number_form n
  form (list_at fs k) = list_form (forms fs)

  pub forms : PlacedAll → Forms
  forms none_at = no_forms
  forms (more_at f fs) = more_forms (form f) (forms fs)

-- the form of what the program holds
abbrev pub form_of : Sexp → Form
form_of s = form (placed s)

-- the place of a form
abbrev pub place_of : Placed → ℕ
place_of (word_at w k) = k
place_of (number_at n k) = k
place_of (list_at fs k) = k

-- the first, the second and the third member of a list; any other form stands for itself
abbrev pub first_of : Placed → Placed
first_of (list_at (more_at x ps) k) = x
first_of p = p

abbrev pub second_of : Placed → Placed
second_of (list_at (more_at x (more_at y ps)) k) = y
second_of p = p

abbrev pub third_of : Placed → Placed
third_of (list_at (more_at x (more_at y (more_at z ps))) k) = z
third_of p = p

-- a piece, with 0 for the place of a closing bracket, which forms don't keep
abbrev pub kept : Piece → Piece
kept (piece opening k) = piece opening k
kept (piece closing k) = piece closing 0
kept (piece (word w) k) = piece (word w) k

-- the pieces that spell a form at its places
abbrev mutual
  pub layout : Placed → List Piece
  layout (word_at w k) = piece (word w) k ∷ []
  layout (number_at n k) = piece (word (decimal n)) k ∷ []
  layout (list_at fs k) = piece opening k ∷ layout_of_all fs ++ piece closing 0 ∷ []

  pub layout_of_all : PlacedAll → List Piece
  layout_of_all none_at = []
  layout_of_all (more_at f fs) = layout f ++ layout_of_all fs

-- the bytes are a text of this form, whose parts stand at these places
pub record IsPlacedText (bytes : List ℕ) (f : Placed) : Type 0 where
  pub text : IsTextOf bytes (form f)
  pub places : layout f ≡ map kept (pieces 0 bytes)
