use Rattle.nd_rules.specs.Lines.{plain_line}
use Rattle.etps_session.proofs.judging.judge.Goals as goal

pub returns-in-Err-clause-fault : goal.returns-in-Err-clause-fault
returns-in-Err-clause-fault c = c.shape_first.ensures c.args.outline.now (plain_line c.args.line.now) c.in-Err.ensures.fault
