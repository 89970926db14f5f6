use Rattle.std.proofs.Common.{take, ◌+◌}
use Rattle.hol_terms.specs.Terms.{Variable, plain_type, truth_type}
use Rattle.etps_script.proofs.Tallying.{in_or_not, take_got, unshared_more}
use Rattle.etps_script.proofs.known.unshared.Goals as goal

pub loop-i-preserved : goal.loop-i-preserved
loop-i-preserved c =
    let v : Variable = (c.at.result.0.now, plain_type c.at.result.1.now) in
    unshared_more c.args.shared.now (take c.loop-i.i c.args.variables.now) (take (c.loop-i.i + 1) c.args.variables.now) c.loop-i.known c.push_unshared.new.known v
    c.loop-i.invariant (take_got c.args.variables.now c.loop-i.i v c.at.ensures) (in_or_not (v.0, truth_type) c.args.shared.now) c.in_ok-push_unshared.ensures
