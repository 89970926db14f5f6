use Rattle.tps_print.proofs.Binders.{bound_names_are}
use Rattle.tps_print.proofs.laws.bound_names.Goals as goal

pub returns : goal.returns
returns c = bound_names_are
