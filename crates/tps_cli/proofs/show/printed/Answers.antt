use Rattle.nd_rules.specs.Lines.{plain_line}
use Rattle.tps_cli.proofs.Showing.{printed_more}
use Rattle.tps_cli.proofs.show.printed.Goals as goal

pub loop-i-preserved : goal.loop-i-preserved
loop-i-preserved c =
    printed_more c.args.outline.now c.loop-i.i (plain_line c.at.result.now) c.loop-i.out c.in_ok-text.text c.append.new.self c.push.new.self c.at.ensures.line
    c.in_ok-text.ensures (rw c.as_slice.ensures at c.in_ok-append.ensures.ok) c.in_ok-push.ensures.ok c.loop-i.invariant
