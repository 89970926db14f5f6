use Rattle.tps_print.proofs.Taken.{takes_one}
use Rattle.tps_print.proofs.names.take_name.Goals as goal

pub returns-clause-taken : goal.returns-clause-taken
returns-clause-taken c = takes_one c.args.taken.now c.insert.new.self c.args.name.now c.in_ok-text.text c.in_ok-text.ensures.text c.in_ok-insert.ensures.updates
