use Rattle.std.proofs.Common.{◌≡◌, ◌≤◌, ◌++◌, drop, length}
use Rattle.tps_cli.specs.Shows.{printed_lines}
use Rattle.tps_cli.proofs.show.printed.Given as goal

-- what was printed, before the lines that are left
abbrev pub invariant-loop-i : goal.invariant-loop-i
invariant-loop-i l = l.out ++ printed_lines (drop l.i l.outline) ≡ printed_lines l.outline
