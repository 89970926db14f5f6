use Rattle.proof_text.proofs.Kept.{written_is_read}
use Rattle.proof_text.proofs.laws.texts.Goals as goal

pub returns-clause-read : goal.returns-clause-read
returns-clause-read c = written_is_read
