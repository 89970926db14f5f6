use Rattle.std.proofs.Common.{Ok}
use Rattle.core_text.proofs.Results.{fault_first}
use Rattle.proof_text.specs.Reading.{proof_judged}
use Rattle.proof_text.specs.Texts.{plain_proof}
use Rattle.proof_text.specs.Views.{plain_parts}
use Rattle.proof_text.proofs.texts.read_form.Goals as goal

pub returns-in-Err : goal.returns-in-Err
returns-in-Err c =
    let p = plain_proof c.in_ok-proof.proof in
    let q = plain_parts c.in_ok-parts.parts in
    rw (c.in_ok-parts.ensures, c.in_ok-proof.ensures) (fault_first c.in-Err.fault (proof_judged p q) (λ done. Ok p) c.in-Err.ensures)
