use Rattle.std.proofs.Common.{◌≡◌, Some, take}
use Rattle.tps_reader.specs.Machine.{begun, run}
use Rattle.tps_reader.specs.Reader.{plain_state}
use Rattle.tps_reader.specs.Tokens.{tokens_from}
use Rattle.tps_reader.specs.Views.{plain_tokens}
use Rattle.tps_reader.proofs.phrases.read_all.Given as goal

abbrev pub invariant-loop-lexeme : goal.invariant-loop-lexeme
invariant-loop-lexeme l = run (tokens_from l.origin (plain_tokens (take l.lexeme-index l.lexemes))) (Some begun) ≡ Some (plain_state l.frames.items l.mode)
