use Rattle.std.proofs.Common.{◌≡◌}
use Rattle.tps_gen.specs.Chains.{neighbours}
use Rattle.tps_gen.proofs.chains.pairs.Given as goal

abbrev pub invariant-loop-k : goal.invariant-loop-k
invariant-loop-k l = l.mating ≡ neighbours l.k
