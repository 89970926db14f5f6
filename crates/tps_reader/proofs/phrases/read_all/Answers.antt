use Rattle.std.proofs.Common.{◌≡◌, ◌≢◌, None, arith}
use Rattle.tps_reader.specs.Parsing.{IsParseFault}
use Rattle.tps_reader.specs.Machine.{finish}
use Rattle.tps_reader.specs.Reader.{plain_state}
use Rattle.tps_reader.specs.Tokens.{tokens_from}
use Rattle.tps_reader.specs.Views.{plain_tokens}
use Rattle.tps_reader.specs.declared.faults.RawFault.TheVariants.{Memory, Unexpected}
use Rattle.tps_reader.proofs.Looping.{loop_dies, loop_ends, run_next}
use Rattle.tps_reader.proofs.Results.{if_err}
use Rattle.tps_reader.proofs.phrases.read_all.Goals as goal

pub returns-in-Err-clause-fault : goal.returns-in-Err-clause-fault
returns-in-Err-clause-fault c =
    loop_dies c.args.lexemes.now c.args.origin c.loop-lexeme.lexeme-index c.args.end c.lexeme-item.result (plain_state c.loop-lexeme.frames.items c.loop-lexeme.mode) c.step.new.frames.items c.in-Err.fault c.loop-lexeme-test.true c.lexeme-item.is c.loop-lexeme.invariant c.in-Err.ensures

pub loop-lexeme-preserved : goal.loop-lexeme-preserved
loop-lexeme-preserved c =
    run_next c.args.lexemes.now c.args.origin c.loop-lexeme.lexeme-index c.lexeme-item.result (plain_state c.loop-lexeme.frames.items c.loop-lexeme.mode) (plain_state c.step.new.frames.items c.in-Ok.next) c.loop-lexeme-test.true c.lexeme-item.is c.loop-lexeme.invariant c.in-Ok.ensures

pub returns-clause-fault : goal.returns-clause-fault
returns-clause-fault c =
    let state = plain_state c.loop-lexeme.frames.items c.loop-lexeme.mode in
    if_err (λ e. e ≢ Memory → (e ≡ Unexpected c.args.end) × (finish state ≡ None)) (IsParseFault (tokens_from c.args.origin (plain_tokens c.args.lexemes.now)) c.args.end)
    (λ e h. loop_ends c.args.lexemes.now c.args.origin c.loop-lexeme.lexeme-index c.args.end state e (omega (arith, c.loop-lexeme-test.false)) c.loop-lexeme.invariant h) c.finish.result c.finish.ensures.fault
