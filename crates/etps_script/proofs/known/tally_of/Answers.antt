use Rattle.std.proofs.Common.{List, ◌+◌, drop, map, subst, arith}
use Rattle.std.proofs.lemmas.List.{at_drop_all}
use Rattle.nd_rules.specs.Lines.{DeductionLine, plain_line}
use Rattle.nd_rules.specs.declared.lines.Line.{Line}
use Rattle.etps_script.specs.Tallies.{AreFreeBefore}
use Rattle.etps_script.proofs.Tallying.{drop_got, free_before_all, free_before_more}
use Rattle.etps_script.proofs.known.tally_of.Goals as goal

pub loop-line-preserved : goal.loop-line-preserved
loop-line-preserved c =
    let lines = c.args.lines.now in
    let here = drop_got lines c.loop-line.line-index c.line-item.result (omega arith) c.line-item.is in
    let left = subst (λ (xs : List Line). AreFreeBefore (map plain_line lines) (map plain_line xs) c.loop-line.tally.variables) here c.loop-line.invariant.before in
    record {
      tallied = c.in_ok-tally.ensures.tallied;
      seen = c.in_ok-tally.ensures.seen;
      before = free_before_more (map plain_line lines) (plain_line c.line-item.result) (map plain_line (drop (c.loop-line.line-index + 1) lines)) _ _ left c.in_ok-tally.ensures.gained;
    }

pub returns-clause-free : goal.returns-clause-free
returns-clause-free c =
    let none = at_drop_all (map plain_line) c.args.lines.now c.loop-line.line-index (omega arith) in
    free_before_all (map plain_line c.args.lines.now) _
    (subst (λ (xs : List DeductionLine). AreFreeBefore (map plain_line c.args.lines.now) xs c.loop-line.tally.variables) none c.loop-line.invariant.before)
