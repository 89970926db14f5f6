use Rattle.tps_reader.proofs.Texts.{one_depth}
use Rattle.tps_reader.proofs.laws.group_depths.Goals as goal

pub returns : goal.returns
returns c = one_depth
