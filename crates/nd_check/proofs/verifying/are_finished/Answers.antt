use Rattle.nd_rules.specs.Lines.{plain_line}
use Rattle.nd_check.proofs.Finishing.{fault_at, one_more, all_finished}
use Rattle.std.proofs.Common.{arith}
use Rattle.nd_check.proofs.verifying.are_finished.Goals as goal

pub returns-in-Err-clause-fault : goal.returns-in-Err-clause-fault
returns-in-Err-clause-fault c = fault_at c.args.outline.now c.loop-i.i (plain_line c.at.result.now) c.in-Err.fault c.at.ensures.line c.loop-i.invariant c.in-Err.ensures.fault

pub loop-i-preserved : goal.loop-i-preserved
loop-i-preserved c = one_more c.args.outline.now c.loop-i.i (plain_line c.at.result.now) c.at.ensures.line c.loop-i.invariant c.in_default.ensures.finished

pub returns-clause-finished : goal.returns-clause-finished
returns-clause-finished c = all_finished c.args.outline.now c.loop-i.i (omega (arith, c.loop-i-test.false, c.len-i-end.ensures.count)) c.loop-i.invariant
