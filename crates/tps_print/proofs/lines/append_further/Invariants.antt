use Rattle.std.proofs.Common.{◌≡◌, ◌++◌, length}
use Rattle.tps_print.specs.Lines.{further_numbers}
use Rattle.tps_print.proofs.lines.append_further.Given as goal

-- what was written, before the numbers that are left
abbrev pub invariant-loop-rest : goal.invariant-loop-rest
invariant-loop-rest l = l.text ++ further_numbers l.rest ≡ l.fn.text ++ further_numbers l.numbers

abbrev pub decreases-loop-rest : goal.decreases-loop-rest
decreases-loop-rest l = length l.rest
