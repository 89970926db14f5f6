use Rattle.std.proofs.Common.{arith, ◌∙◌, sym}
use Rattle.std.specs.Char.{is_ascii_digit}
use Rattle.tps_reader.proofs.Cutting.{run_next}
use Rattle.tps_reader.proofs.cuts.digits_end.Goals as goal

pub loop-at-preserved : goal.loop-at-preserved
loop-at-preserved c = record {
  low = omega arith;
  high = omega arith;
  run = run_next is_ascii_digit c.args.characters.now c.args.from c.loop-at.at c.index-characters-at.result (omega arith) c.loop-at-test.true c.loop-at.invariant.run c.index-characters-at.is (sym c.is_ascii_digit.ensures.value ∙ c.if-is_ascii_digit.true);
}
