use Rattle.std.proofs.Common.{◌≡◌, take}
use Rattle.nd_steps.proofs.hypotheses.copied.Given as goal

abbrev pub invariant-loop-n : goal.invariant-loop-n
invariant-loop-n l = l.copy ≡ take l.n-index l.hyps
