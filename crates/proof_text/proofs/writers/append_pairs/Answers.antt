use Rattle.proof_text.proofs.Written.{pair_spelled, pair_written}
use Rattle.proof_text.proofs.writers.append_pairs.Goals as goal

pub loop-pair-preserved : goal.loop-pair-preserved
loop-pair-preserved c = record {
  text =
      pair_written c.args.out.now c.loop-pair.out c.push.new.self c.append_pair.new.out c.args.pairs.now c.loop-pair.pair-index _ c.loop-pair-test.true c.loop-pair.invariant.text c.in_ok-push.ensures.ok
      c.in_ok-append_pair.ensures.text;
  numbers = pair_spelled c.args.pairs.now c.loop-pair.pair-index _ c.loop-pair-test.true c.loop-pair.invariant.numbers c.append_pair.ensures.numbers.0 c.append_pair.ensures.numbers.1;
}
