use Rattle.std.proofs.Common.{◌≡◌, None, map}
use Rattle.core_text.specs.Placed.{placed_all}
use Rattle.nd_rules.specs.Lines.{plain_line}
use Rattle.nd_check.specs.Reading.{lines_at}
use Rattle.nd_check.proofs.Steps.{behind}
use Rattle.nd_check.proofs.lines.read_lines.Given as goal

-- the lines that were read, and those that are left
abbrev pub invariant-loop-rest : goal.invariant-loop-rest
invariant-loop-rest l = behind (map plain_line l.lines.items) (lines_at l.last (placed_all l.rest)) ≡ lines_at None (placed_all l.fn.members)
