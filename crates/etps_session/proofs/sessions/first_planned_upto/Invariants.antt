use Rattle.std.proofs.Common.{◌≡◌, drop, map}
use Rattle.nd_rules.specs.Lines.{plain_line}
use Rattle.etps_session.specs.Progress.{first_planned_in, lines_upto}
use Rattle.etps_session.proofs.sessions.first_planned_upto.Given as goal

-- none was passed
abbrev pub invariant-loop-line : goal.invariant-loop-line
invariant-loop-line l = first_planned_in (lines_upto (map plain_line l.lines) l.last) ≡ first_planned_in (lines_upto (map plain_line (drop l.line-index l.lines)) l.last)
