use Rattle.tps_print.proofs.LaidOut.{layout_of}
use Rattle.tps_print.proofs.laws.layouts.Goals as goal

pub returns : goal.returns
returns c = layout_of
