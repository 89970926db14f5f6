-- What is written for a proof and for a derivation is read again.
use Rattle.std.proofs.Common.{◌≡◌, ℕ, List, subst}
use Rattle.hol_terms.specs.Terms.{Term}
use Rattle.nd_rules.specs.Lines.{DeductionLine}
use Rattle.nd_rules.specs.Outlines.{IsDerivation}
use Rattle.nd_check.specs.Texts.{IsWrittenDerivation}
use Rattle.nd_check.proofs.Kept.{written_is_read}
use Rattle.proof_text.specs.Texts.{IsWrittenProof, Proof}
use Rattle.exp_check.specs.Proofs.{IsProof}
use Rattle.exp_check.proofs.Reading.{proof_is_read}
use Rattle.plain_search.specs.Proofs.{IsLeastProof}
use Rattle.tps_cli.specs.declared.options.Budget.{Budget}
use Rattle.tps_cli.specs.Proves.{IsProved, StandsFor}
use Rattle.tps_cli.specs.Translates.{IsDerivationOf}

pub derivation_written : (formula : Term) (lines : List DeductionLine) (out : List ℕ) → IsDerivation lines formula → IsWrittenDerivation out lines → IsDerivationOf formula out
derivation_written formula lines out derivation written = record {
  lines = lines;
  derivation = derivation;
  written = written;
  read = λ limits. (written_is_read out lines written limits.short limits.shallow).0;
}

pub proof_written :
    (budget : Budget) (bytes out : List ℕ) (formula : Term) (proof text : Proof) → StandsFor bytes formula → IsLeastProof formula budget.weight budget.level proof
    → text ≡ proof → IsWrittenProof out text → IsProved budget bytes out
proof_written budget bytes out formula proof text stands least same written =
    let is_written = subst (IsWrittenProof out) same written in
    let holds : IsProof proof = (least.in_budget.standing, least.in_budget.proof) in
    record {
      formula = formula;
      text = stands;
      proof = proof;
      least = least;
      written = is_written;
      read = λ limits. (proof_is_read out proof holds is_written limits).0;
    }
