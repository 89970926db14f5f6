-- From a form's proof to that of the bytes.
use Rattle.std.proofs.Common.{◌≡◌, ◌≢◌, ℕ, List, IfErr, IfOk, Result, Ok, Err, sym, ◌∙◌, subst}
use Rattle.core_text.specs.Forms.{Form, IsTextOf}
use Rattle.core_text.specs.Judged.{Answers}
use Rattle.core_text.specs.Placed.{IsPlacedText, Placed, form}
use Rattle.core_text.specs.declared.faults.TextFault.{TextFault}
use Rattle.core_text.specs.declared.faults.TextFault.TheVariants.{Memory}
use Rattle.core_text.proofs.Results.{answer_read, answer_refused}
use Rattle.core_text.proofs.Texts.{one_form}
use Rattle.proof_text.specs.declared.texts.ProofText.{ProofText}
use Rattle.proof_text.specs.Reading.{proof_at}
use Rattle.proof_text.specs.Texts.{IsProofText, Proof, plain_proof, proof_form}
use Rattle.proof_text.proofs.Table.{proof_read, proof_spelled}

-- a text of no form is no proof text
pub no_text : (bytes : List ℕ) → ((f : Form) → IsTextOf bytes f → ⊥) → (p : Proof) → IsProofText bytes p → ⊥
no_text bytes isnt p h = isnt (proof_form p) h.text

module _ (bytes : List ℕ) (f : Placed) (text : IsPlacedText bytes f) where
  read_text : (p : Proof) → proof_at f ≡ Ok p → IsProofText bytes p
  read_text p e =
      let read = proof_read f p e in
      record { text = subst (IsTextOf bytes) read.0 text.text; names = read.1; typed = read.2 }

  text_read : (p : Proof) → IsProofText bytes p → proof_at f ≡ Ok p
  text_read p h = proof_spelled p f (one_form bytes (form f) (proof_form p) text.text h.text) h.names h.typed

  module _ (r : Result ProofText TextFault) (answers : Answers plain_proof r (proof_at f)) where
    pub found : IfOk r (λ x. IsProofText bytes (plain_proof x))
    found = answer_read plain_proof r (proof_at f) answers (IsProofText bytes) read_text

    pub none : IfErr r (λ e. e ≢ Memory → (p : Proof) → IsProofText bytes p → ⊥)
    none = answer_refused plain_proof r (proof_at f) answers (IsProofText bytes) text_read

    pub only : IfOk r (λ x. (p : Proof) → IsProofText bytes p → p ≡ plain_proof x)
    only = go r answers
      where
        same : (p q : Proof) → proof_at f ≡ Ok p → proof_at f ≡ Ok q → p ≡ q
        same p q d e = let both : ◌≡◌ {A = Result Proof TextFault} (Ok p) (Ok q) = sym d ∙ e in cc

        go : (r : Result ProofText TextFault) → Answers plain_proof r (proof_at f) → IfOk r (λ x. (p : Proof) → IsProofText bytes p → p ≡ plain_proof x)
        go (Ok x) h = λ p t. same p (plain_proof x) (text_read p t) h
        go (Err e) h = tt
