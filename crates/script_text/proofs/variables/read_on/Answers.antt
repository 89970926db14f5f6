use Rattle.std.proofs.Common.{◌∙◌, Some, sym}
use Rattle.tps_reader.specs.Views.{plain_tokens}
use Rattle.script_text.specs.Tails.{HasTail, variable}
use Rattle.script_text.proofs.Slicing.{unexpected_at}
use Rattle.script_text.proofs.Typing.{read_dies, read_ends, read_step}
use Rattle.script_text.proofs.variables.read_on.Goals as goal

pub returns-in-None-clause-fault : goal.returns-in-None-clause-fault
returns-in-None-clause-fault c =
    let ls = c.args.lexemes.now in
    let lexeme = c.lexeme-item.result in
    unexpected_at (HasTail variable) (plain_tokens ls) c.args.end lexeme.place c.unexpected.result c.unexpected.ensures
    (read_dies ls c.loop-lexeme.lexeme-index lexeme c.loop-lexeme.reading c.args.end c.loop-lexeme-test.true c.lexeme-item.is c.loop-lexeme.invariant (sym c.in_ok-next.ensures ∙ c.in-None.is))

pub loop-lexeme-preserved : goal.loop-lexeme-preserved
loop-lexeme-preserved c =
    read_step c.args.lexemes.now c.loop-lexeme.lexeme-index c.lexeme-item.result c.loop-lexeme.reading (Some c.in-Some.next) c.loop-lexeme-test.true c.lexeme-item.is c.loop-lexeme.invariant (sym c.in_ok-next.ensures ∙ c.in-Some.is)

pub returns-else-is_whole-clause-fault : goal.returns-else-is_whole-clause-fault
returns-else-is_whole-clause-fault c =
    let ls = c.args.lexemes.now in
    unexpected_at (HasTail variable) (plain_tokens ls) c.args.end c.args.end c.unexpected-else-is_whole.result c.unexpected-else-is_whole.ensures
    (read_ends ls c.loop-lexeme.lexeme-index c.loop-lexeme.reading c.args.end c.loop-lexeme-test.false c.loop-lexeme.invariant (sym c.if-is_whole.ensures))
