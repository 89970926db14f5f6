use Rattle.std.proofs.Common.{◌≡◌, None}
use Rattle.core_text.specs.Placed.{placed_all}
use Rattle.nd_check.specs.Reading.{rising_at}
use Rattle.nd_check.proofs.Steps.{behind, last_of}
use Rattle.nd_check.proofs.lines.read_rising.Given as goal

-- the numbers that were read, and those that are left
abbrev pub invariant-loop-rest : goal.invariant-loop-rest
invariant-loop-rest l = behind l.hyps (rising_at (last_of l.hyps) (placed_all l.rest)) ≡ rising_at None (placed_all l.fn.members)
