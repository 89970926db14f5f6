-- The lines of a script.
use Rattle.std.specs.Prelude.{◌==◌, ℕ, if◌then◌else◌, List, [], ◌∷◌}

-- the byte at the front of the first line
abbrev pub with_front : ℕ → List (List ℕ) → List (List ℕ)
with_front b [] = (b ∷ []) ∷ []
with_front b (line ∷ lines) = (b ∷ line) ∷ lines

-- the lines of a script, which is cut at each LF; an LF at the end ends the last line, and begins none
abbrev pub script_lines : List ℕ → List (List ℕ)
script_lines [] = []
script_lines (b ∷ bytes) = if b == 10 then [] ∷ script_lines bytes else with_front b (script_lines bytes)
