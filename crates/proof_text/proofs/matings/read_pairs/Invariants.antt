use Rattle.std.proofs.Common.{◌≡◌}
use Rattle.core_text.specs.Placed.{placed_all}
use Rattle.proof_text.specs.Reading.{pairs_at}
use Rattle.proof_text.proofs.Steps.{behind}
use Rattle.proof_text.proofs.matings.read_pairs.Given as goal

-- the pairs that were read, and those that are left
abbrev pub invariant-loop-rest : goal.invariant-loop-rest
invariant-loop-rest l = behind l.mating (pairs_at (placed_all l.rest)) ≡ pairs_at (placed_all l.fn.members)
