use Rattle.etps_session.specs.Commands.{plain_command}
use Rattle.etps_script.proofs.steps.submit.Goals as goal

pub returns-in-Err-clause-refused : goal.returns-in-Err-clause-refused
returns-in-Err-clause-refused c = c.unaccepted.ensures c.args.session.now (plain_command c.args.command) c.in-Err.ensures.refused
