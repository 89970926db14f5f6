use Rattle.tps_reader.proofs.Texts.{one_cut, one_formula}
use Rattle.tps_reader.proofs.laws.texts.Goals as goal

pub returns : goal.returns
returns c = record { tokens = one_cut; formula = one_formula }
