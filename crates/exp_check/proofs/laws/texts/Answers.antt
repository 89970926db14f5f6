use Rattle.exp_check.proofs.Reading.{proof_is_read, proof_is_typed}
use Rattle.exp_check.proofs.laws.texts.Goals as goal

pub returns : goal.returns
returns c = record { typed = proof_is_typed; read = proof_is_read }
