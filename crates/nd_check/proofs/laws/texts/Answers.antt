use Rattle.nd_check.proofs.Kept.{written_is_read}
use Rattle.nd_check.proofs.laws.texts.Goals as goal

pub returns-clause-read : goal.returns-clause-read
returns-clause-read c = written_is_read
