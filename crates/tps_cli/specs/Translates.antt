-- What `translate` answers to its input.
use Rattle.std.specs.Prelude.{ℕ, List}
use Rattle.proof_text.specs.Texts.{Proof, IsProofText, IsWithinLimits}
use Rattle.exp_check.specs.Proofs.{IsProof}
use Rattle.nd_rules.specs.Lines.{DeductionLine}
use Rattle.nd_rules.specs.Outlines.{IsDerivation}
use Rattle.nd_check.specs.Texts.{IsDerivationText, IsWrittenDerivation}
use Rattle.hol_terms.specs.Terms.{Term}
use Rattle.tps_cli.specs.Proofs.{IsRejected, IsNoProofText}
use Rattle.tps_cli.specs.declared.status.Status.{Status}
use Rattle.tps_cli.specs.declared.status.Status.TheVariants.{Done, No, Words, BadText, TooLong, ReadFault, WriteFault, Memory}

-- The output is what is written for a derivation of the formula, which has no hypotheses: its spaced text and LF. Within the limits of reading
-- it is a text of that derivation.
pub record IsDerivationOf (formula : Term) (out : List ℕ) : Type 0 where
  pub lines : List DeductionLine
  pub derivation : IsDerivation lines formula
  pub written : IsWrittenDerivation out lines
  pub read : IsWithinLimits out → IsDerivationText out lines

-- the bytes are the text of an expansion proof, and the output is a derivation of its formula, as it is written there
pub record IsTranslated (bytes out : List ℕ) : Type 0 where
  pub proof : Proof
  pub text : IsProofText bytes proof
  pub holds : IsProof proof
  pub derivation : IsDerivationOf proof.formula out

-- yes exactly to the texts of expansion proofs, and no exactly to the other proof texts
abbrev pub TranslatesTo : List ℕ → Status → List ℕ → Type 0
TranslatesTo bytes Done out = IsTranslated bytes out
TranslatesTo bytes No out = IsRejected bytes out
TranslatesTo bytes BadText out = IsNoProofText bytes out
TranslatesTo bytes Words out = ⊥
TranslatesTo bytes TooLong out = ⊥
TranslatesTo bytes ReadFault out = ⊥
TranslatesTo bytes WriteFault out = ⊥
TranslatesTo bytes Memory out = ⊥
