use Rattle.nd_rules.specs.Lines.{plain_line}
use Rattle.etps_session.specs.Commands.{plain_command}
use Rattle.etps_session.proofs.Refused.{absent_refused}
use Rattle.etps_session.proofs.judging.judged_new.Goals as goal

pub returns-in-Err-clause-fault : goal.returns-in-Err-clause-fault
returns-in-Err-clause-fault c =
    absent_refused c.args.outline.now (plain_command c.args.command.now) (plain_line c.in_ok-line.line) c.in-Err.fault c.requires.absent c.in_ok-line.ensures.line c.in-Err.ensures.fault
