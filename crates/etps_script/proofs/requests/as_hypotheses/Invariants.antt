use Rattle.std.proofs.Common.{◌≡◌, take}
use Rattle.etps_script.proofs.requests.as_hypotheses.Given as goal

abbrev pub invariant-loop-n : goal.invariant-loop-n
invariant-loop-n l = l.hyps ≡ take l.n-index l.items
