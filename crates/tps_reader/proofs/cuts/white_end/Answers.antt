use Rattle.std.proofs.Common.{arith, ◌∙◌, sym}
use Rattle.core_text.specs.Tokens.{is_white}
use Rattle.tps_reader.proofs.Cutting.{run_next}
use Rattle.tps_reader.proofs.cuts.white_end.Goals as goal

pub loop-at-preserved : goal.loop-at-preserved
loop-at-preserved c = record {
  low = omega arith;
  high = omega arith;
  run = run_next is_white c.args.characters.now c.args.from c.loop-at.at c.index-characters-at.result (omega arith) c.loop-at-test.true c.loop-at.invariant.run c.index-characters-at.is (sym c.is_white.ensures ∙ c.if-is_white.true);
}
