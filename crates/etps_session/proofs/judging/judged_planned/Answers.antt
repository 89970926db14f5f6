use Rattle.nd_rules.specs.Lines.{plain_line}
use Rattle.etps_session.specs.Commands.{plain_command}
use Rattle.etps_session.proofs.Refused.{planned_refused}
use Rattle.etps_session.proofs.judging.judged_planned.Goals as goal

pub returns-in-Err-clause-fault : goal.returns-in-Err-clause-fault
returns-in-Err-clause-fault c =
    planned_refused c.args.outline.now (plain_command c.args.command.now) (plain_line c.args.planned.now) (plain_line c.in_ok-line.line) c.in-Err.fault c.in_ok-fits.fits
    c.requires.there c.in_ok-line.ensures c.in_ok-fits.ensures c.in-Err.ensures.fault
