use Rattle.std.proofs.Common.{◌≡◌, Some, take}
use Rattle.tps_reader.specs.Views.{plain_tokens}
use Rattle.script_text.specs.Variables.{read_on}
use Rattle.script_text.specs.declared.variables.Reading.TheVariants.{NoName}
use Rattle.script_text.proofs.variables.read_on.Given as goal

abbrev pub invariant-loop-lexeme : goal.invariant-loop-lexeme
invariant-loop-lexeme l = read_on (plain_tokens (take l.lexeme-index l.lexemes)) (Some NoName) ≡ Some l.reading
