-- What `prove` answers to its input.
use Rattle.std.specs.Prelude.{◌≡◌, ℕ, List, [], ◌∷◌, ◌++◌, codes, decimal, Some}
use Rattle.hol_terms.specs.Terms.{Term, truth_type}
use Rattle.plain_search.specs.Proofs.{IsLeastProof, IsProofInBudget}
use Rattle.proof_text.specs.Texts.{IsProofText, IsWithinLimits, IsWrittenProof, Proof}
use Rattle.tps_reader.specs.Faults.{IsFormulaText}
use Rattle.tps_reader.specs.Raws.{RawFormula}
use Rattle.type_infer.specs.Faults.{IsOnlyAnnotation}
use Rattle.tps_cli.specs.declared.options.Budget.{Budget}
use Rattle.tps_cli.specs.declared.status.Status.{Status}
use Rattle.tps_cli.specs.declared.status.Status.TheVariants.{Done, No, Words, BadText, TooLong, ReadFault, WriteFault, Memory}

-- the bytes are a formula text, and the formula is the only one that it can stand for
abbrev pub StandsFor : List ℕ → Term → Type 0
StandsFor bytes formula = (raw : RawFormula) × IsFormulaText bytes raw × IsOnlyAnnotation raw (Some truth_type) [] formula

-- The output is what is written for an expansion proof of the formula that the bytes stand for, one in the budget, with the least weight there:
-- its spaced text and LF. Within the limits of reading it is a text of that proof.
pub record IsProved (budget : Budget) (bytes out : List ℕ) : Type 0 where
  pub formula : Term
  pub text : StandsFor bytes formula
  pub proof : Proof
  pub least : IsLeastProof formula budget.weight budget.level proof
  pub written : IsWrittenProof out proof
  pub read : IsWithinLimits out → IsProofText out proof

-- no expansion proof of the formula that the bytes stand for is in the budget, and the output names the weight that was asked
pub record IsUnknown (budget : Budget) (bytes out : List ℕ) : Type 0 where
  pub formula : Term
  pub text : StandsFor bytes formula
  pub none : (p : Proof) → IsProofInBudget formula budget.weight budget.level p → ⊥
  pub output : out ≡ codes "UNKNOWN " ++ (decimal budget.weight ++ 10 ∷ [])

-- the bytes are the text of no formula, or of more than one, and nothing is put out
abbrev pub IsNoFormula : List ℕ → List ℕ → Type 0
IsNoFormula bytes out = ((formula : Term) → StandsFor bytes formula → ⊥) × (out ≡ [])

-- yes exactly where the budget holds an expansion proof of the formula, and no exactly where it holds none
abbrev pub ProvesTo : Budget → List ℕ → Status → List ℕ → Type 0
ProvesTo budget bytes Done out = IsProved budget bytes out
ProvesTo budget bytes No out = IsUnknown budget bytes out
ProvesTo budget bytes BadText out = IsNoFormula bytes out
ProvesTo budget bytes Words out = ⊥
ProvesTo budget bytes TooLong out = ⊥
ProvesTo budget bytes ReadFault out = ⊥
ProvesTo budget bytes WriteFault out = ⊥
ProvesTo budget bytes Memory out = ⊥
