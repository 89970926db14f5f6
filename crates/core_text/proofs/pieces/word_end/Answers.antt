use Rattle.std.proofs.Common.{arith, ◌∙◌, sym}
use Rattle.core_text.specs.Tokens.{is_in_word}
use Rattle.core_text.proofs.Runs.{run_more}
use Rattle.core_text.proofs.pieces.word_end.Goals as goal

pub loop-at-preserved : goal.loop-at-preserved
loop-at-preserved c = record {
  low = omega arith;
  high = omega arith;
  word = run_more is_in_word c.args.bytes.now c.args.from c.loop-at.at (omega arith) (omega arith) c.loop-at.invariant.word (sym c.is_in_word.ensures ∙ c.if-is_in_word.true);
}
