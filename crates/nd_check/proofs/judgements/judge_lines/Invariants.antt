use Rattle.std.proofs.Common.{◌≡◌, drop, map}
use Rattle.core_text.specs.Placed.{placed_all}
use Rattle.nd_rules.specs.Lines.{plain_line}
use Rattle.nd_check.specs.Reading.{lines_judged}
use Rattle.nd_check.proofs.Judged.{judged_from}
use Rattle.nd_check.proofs.judgements.judge_lines.Given as goal

-- the lines that are left, with the formula of another type that was found, have the first fault
abbrev pub invariant-loop-line : goal.invariant-loop-line
invariant-loop-line l = judged_from l.found (map plain_line (drop l.line-index l.lines)) (placed_all l.forms) ≡ lines_judged (map plain_line l.lines) (placed_all l.members)
