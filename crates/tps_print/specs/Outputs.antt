-- What was printed so far.
use Rattle.std.specs.Prelude.{ℕ, List, [], ◌∷◌, ◌++◌, encode_utf8_all}
use Rattle.hol_terms.specs.Terms.{Variable}
use Rattle.hol_terms.specs.Collected.{with_variable}
use Rattle.tps_print.specs.Pieces.{Piece, fixed, occurrence, first_type}

-- the text, and the free variables that stand in it
abbrev pub State : Type 0
State = List ℕ × List Variable

-- one piece more
abbrev pub with_piece : State → Piece → State
with_piece state (fixed bytes) = (state.0 ++ bytes, state.1)
with_piece state (occurrence v) = (state.0 ++ (encode_utf8_all v.0 ++ first_type state.1 v), with_variable state.1 v)

-- more pieces
abbrev pub after : State → List Piece → State
after state [] = state
after state (p ∷ ps) = after (with_piece state p) ps
