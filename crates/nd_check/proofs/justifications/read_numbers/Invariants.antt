use Rattle.std.proofs.Common.{◌≡◌}
use Rattle.core_text.specs.Placed.{placed_all}
use Rattle.nd_check.specs.Reading.{numbers_at}
use Rattle.nd_check.proofs.Steps.{behind}
use Rattle.nd_check.proofs.justifications.read_numbers.Given as goal

-- the numbers that were read, and those that are left
abbrev pub invariant-loop-rest : goal.invariant-loop-rest
invariant-loop-rest l = behind l.numbers (numbers_at (placed_all l.rest)) ≡ numbers_at (placed_all l.fn.members)
