-- How deep the groups of a list of tokens stand in each other. A group is the whole list, or what stands between an opening square
-- bracket and its closing one; the brackets themselves stand outside. A bracket that isn't closed is closed at the end, and a
-- closing bracket with none open ends the whole.
use Rattle.std.specs.Prelude.{ℕ, ◌+◌, max, List, [], ◌∷◌}
use Rattle.tps_reader.specs.Tokens.{Sign, open_square, close_square, open_round, close_round, dot, tilde, semicolon, number, word, Token, token}

-- A part of a group: how many tokens it has that stand in no group inside it, and the greatest depth of a group directly inside it.
pub data Part : Type 0 where
  part : ℕ → ℕ → Part

abbrev pub part_depth : Part → ℕ
part_depth (part own inside) = own + inside

-- one token more before the first part
abbrev pub with_own : List Part → List Part
with_own [] = []
with_own (part own inside ∷ parts) = part (own + 1) inside ∷ parts

-- an opening bracket before the parts: the first of them is a whole group, which stands in the second one, or at the end
abbrev pub with_opening : List Part → List Part
with_opening [] = []
with_opening (part own inside ∷ []) = part 1 (own + inside) ∷ []
with_opening (part own inside ∷ part around deepest ∷ parts) = part (around + 1) (max deepest (own + inside)) ∷ parts

abbrev pub before_parts : Sign → List Part → List Part
before_parts open_square parts = with_opening parts
before_parts close_square parts = part 0 0 ∷ with_own parts
before_parts open_round parts = with_own parts
before_parts close_round parts = with_own parts
before_parts dot parts = with_own parts
before_parts tilde parts = with_own parts
before_parts semicolon parts = with_own parts
before_parts (number n) parts = with_own parts
before_parts (word w) parts = with_own parts

-- The parts of groups in a list of tokens: what stands before the first closing bracket that no bracket of the list opens, what
-- stands from there to the next such bracket, and so on.
abbrev pub parts_of : List Token → List Part
parts_of [] = part 0 0 ∷ []
parts_of (token s place long ∷ ts) = before_parts s (parts_of ts)

abbrev pub first_depth : List Part → ℕ
first_depth [] = 0
first_depth (p ∷ parts) = part_depth p

-- the depth of the whole list, which `Tokens::depth` shows to be the depth of the tree of its groups
abbrev pub depth_of : List Token → ℕ
depth_of ts = first_depth (parts_of ts)
