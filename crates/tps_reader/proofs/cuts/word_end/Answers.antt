use Rattle.std.proofs.Common.{arith, ◌∙◌, sym}
use Rattle.unicode_ident.specs.Ident.{is_xid_continue}
use Rattle.tps_reader.proofs.Cutting.{run_next}
use Rattle.tps_reader.proofs.cuts.word_end.Goals as goal

pub loop-at-preserved : goal.loop-at-preserved
loop-at-preserved c = record {
  low = omega arith;
  high = omega arith;
  run = run_next is_xid_continue c.args.characters.now c.args.from c.loop-at.at c.index-characters-at.result (omega arith) c.loop-at-test.true c.loop-at.invariant.run c.index-characters-at.is (sym c.is_xid_continue.ensures.value ∙ c.if-is_xid_continue.true);
}
