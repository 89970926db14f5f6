use Rattle.std.proofs.Common.{rules, take, ◌++◌}
use Rattle.tps_io.proofs.Loops.{appends_on, rest_on}
use Rattle.tps_io.proofs.sink.write_all.Goals as goal

pub loop-rest-preserved : goal.loop-rest-preserved
loop-rest-preserved g c =
    let kept = c.loop-rest.invariant.sent in
    let rest = c.loop-rest.rest.now in
    let n = c.in_ok-count.count in
    record {
      told = search rules;
      sent = (kept.0 ++ take n rest, rest_on _ kept.0 rest n kept.1, appends_on _ _ _ kept.0 (take n rest) kept.2 c.in_ok-count.ensures.bytes);
      calm = search rules;
    }
