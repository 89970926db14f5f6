use Rattle.std.proofs.Common.{◌≡◌}
use Rattle.hol_terms.specs.Terms.{plain_term}
use Rattle.tps_gen.specs.Chains.{numeral}
use Rattle.tps_gen.proofs.chains.successors.Given as goal

abbrev pub invariant-loop-made : goal.invariant-loop-made
invariant-loop-made l = plain_term l.term ≡ numeral l.made
