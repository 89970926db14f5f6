use Rattle.std.proofs.Common.{take}
use Rattle.script_text.specs.Tails.{NoSemicolon}
use Rattle.tps_reader.specs.Views.{plain_tokens}
use Rattle.script_text.proofs.tails.semicolon_at.Given as goal

abbrev pub invariant-loop-at : goal.invariant-loop-at
invariant-loop-at l = NoSemicolon (take l.at (plain_tokens l.lexemes))
