use Rattle.tps_print.proofs.Phrased.{tokens_read}
use Rattle.tps_print.proofs.laws.phrases.Goals as goal

pub returns : goal.returns
returns c = tokens_read
