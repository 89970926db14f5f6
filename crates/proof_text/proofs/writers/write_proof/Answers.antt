use Rattle.std.proofs.Common.{◌≡◌, ℕ, List, [], ◌∷◌, ◌++◌, sym, ◌∙◌, ap, subst}
use Rattle.core_text.specs.Written.{written}
use Rattle.proof_text.specs.Texts.{IsProofText, plain_proof, proof_form}
use Rattle.proof_text.proofs.Kept.{written_is_text}
use Rattle.proof_text.proofs.writers.write_proof.Goals as goal

pub returns-clause-read : goal.returns-clause-read
returns-clause-read c = λ typed low.
    let p = plain_proof c.args.proof.now in
    let text : c.push.new.self ≡ written (proof_form p) ++ 10 ∷ [] =
    c.in_ok-push.ensures.ok ∙ ap (λ l. l ++ 10 ∷ []) (c.in_ok-append_proof.ensures.text ∙ ap (λ l. l ++ written (proof_form p)) c.new-out.ensures) in
    subst (λ (l : List ℕ). IsProofText l p) (sym text) (written_is_text p c.in_ok-append_proof.ensures.names c.in_ok-append_proof.ensures.numbers typed low)
