-- From a form's outline to that of the bytes.
use Rattle.std.proofs.Common.{◌≡◌, ◌≢◌, ℕ, List, IfErr, IfOk, Result, Ok, Err, sym, ◌∙◌, subst}
use Rattle.core_text.specs.Forms.{Form, IsTextOf}
use Rattle.core_text.specs.Judged.{Answers}
use Rattle.core_text.specs.Placed.{IsPlacedText, Placed, form}
use Rattle.core_text.specs.declared.faults.TextFault.{TextFault}
use Rattle.core_text.specs.declared.faults.TextFault.TheVariants.{Memory}
use Rattle.core_text.proofs.Results.{answer_read, answer_refused}
use Rattle.core_text.proofs.Texts.{one_form}
use Rattle.nd_rules.specs.Lines.{DeductionLine}
use Rattle.nd_check.specs.Forms.{derivation_form}
use Rattle.nd_check.specs.Reading.{derivation_at}
use Rattle.nd_check.specs.Texts.{IsDerivationText}
use Rattle.nd_check.proofs.Table.{derivation_read, derivation_spelled}

-- a text of no form is no derivation text
pub no_text : (bytes : List ℕ) → ((f : Form) → IsTextOf bytes f → ⊥) → (ls : List DeductionLine) → IsDerivationText bytes ls → ⊥
no_text bytes isnt ls h = isnt (derivation_form ls) h.text

module _ (bytes : List ℕ) (f : Placed) (text : IsPlacedText bytes f) where
  read_text : (ls : List DeductionLine) → derivation_at f ≡ Ok ls → IsDerivationText bytes ls
  read_text ls e =
      let read = derivation_read f ls e in
      record { text = subst (IsTextOf bytes) read.spelled text.text; some = read.some; names = read.names; outline = read.outline }

  text_read : (ls : List DeductionLine) → IsDerivationText bytes ls → derivation_at f ≡ Ok ls
  text_read ls h = derivation_spelled ls f (record { spelled = one_form bytes (form f) (derivation_form ls) text.text h.text; some = h.some; names = h.names; outline = h.outline })

  same : (ls ms : List DeductionLine) → derivation_at f ≡ Ok ls → derivation_at f ≡ Ok ms → ls ≡ ms
  same ls ms d e = let both : ◌≡◌ {A = Result (List DeductionLine) TextFault} (Ok ls) (Ok ms) = sym d ∙ e in cc

  module _ (r : Result (List DeductionLine) TextFault) (answers : Answers (λ ls. ls) r (derivation_at f)) where
    pub found : IfOk r (λ x. IsDerivationText bytes x)
    found = answer_read (λ ls. ls) r (derivation_at f) answers (IsDerivationText bytes) read_text

    pub none : IfErr r (λ e. e ≢ Memory → (ls : List DeductionLine) → IsDerivationText bytes ls → ⊥)
    none = answer_refused (λ ls. ls) r (derivation_at f) answers (IsDerivationText bytes) text_read

    pub only : IfOk r (λ x. (ls : List DeductionLine) → IsDerivationText bytes ls → ls ≡ x)
    only = go r answers
      where
        go : (r : Result (List DeductionLine) TextFault) → Answers (λ ls. ls) r (derivation_at f) → IfOk r (λ x. (ls : List DeductionLine) → IsDerivationText bytes ls → ls ≡ x)
        go (Ok x) h = λ ls t. same ls x (text_read ls t) h
        go (Err e) h = tt
