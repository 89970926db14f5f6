use Rattle.std.proofs.Common.{◌≡◌, drop, map}
use Rattle.nd_rules.specs.Lines.{plain_line}
use Rattle.etps_script.specs.Tallies.{AreFreeBefore, AreTallied}
use Rattle.etps_script.proofs.known.tally_of.Given as goal

-- the variables that are free in the lines before those that are left
abbrev pub invariant-loop-line : goal.invariant-loop-line
invariant-loop-line l =
    record {
      tallied : AreTallied l.tally.variables l.tally.names l.tally.shared;
      seen : l.tally.seen ≡ l.tally.variables;
      before : AreFreeBefore (map plain_line l.lines) (map plain_line (drop l.line-index l.lines)) l.tally.variables;
    }
