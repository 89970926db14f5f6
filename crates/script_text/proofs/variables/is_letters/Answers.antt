use Rattle.std.proofs.Common.{◌≡◌, ◌≤◌, ◌∙◌, ℕ, List, [], ◌∷◌, arith, length, refl}
use Rattle.std.specs.List.{list_all}
use Rattle.tps_reader.specs.Grammar.{is_letter, is_letters}
use Rattle.script_text.proofs.variables.is_letters.Goals as goal

some_letters : (cs : List ℕ) → 1 ≤ length cs → list_all is_letter cs ≡ is_letters cs
some_letters [] h = absurd (omega (arith, h))
some_letters (c ∷ cs) h = refl

pub returns-in_default : goal.returns-in_default
returns-in_default c = c.are_letters.ensures ∙ some_letters c.args.characters.now c.in_default.len_at_least
