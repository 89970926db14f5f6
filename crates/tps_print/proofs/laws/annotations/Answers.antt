use Rattle.tps_print.proofs.Annotated.{annotated}
use Rattle.tps_print.proofs.laws.annotations.Goals as goal

pub returns : goal.returns
returns c = annotated
