-- What a command answers that takes the text of a derivation.
use Rattle.std.specs.Prelude.{◌≡◌, ◌≢◌, ℕ, List, [], ◌∷◌, ◌++◌}
use Rattle.hol_terms.specs.Terms.{Term}
use Rattle.nd_rules.specs.Lines.{DeductionLine}
use Rattle.nd_rules.specs.Outlines.{IsDerivation}
use Rattle.nd_check.specs.Texts.{IsDerivationText}
use Rattle.nd_check.specs.Verifying.{IsFirstFault, fault_line}
use Rattle.nd_check.specs.declared.verifying.VerifyFault.{VerifyFault}
use Rattle.nd_check.specs.declared.verifying.VerifyFault.TheVariants.{Memory as Wanting}

-- the bytes are the text of the lines, which are a derivation of the formula
pub record HoldsDerivation (bytes : List ℕ) (lines : List DeductionLine) (formula : Term) : Type 0 where
  pub text : IsDerivationText bytes lines
  pub derivation : IsDerivation lines formula

-- the bytes are the text of lines that are no derivation, and the output tells the first fault
pub record IsRefused (bytes out : List ℕ) : Type 0 where
  pub lines : List DeductionLine
  pub text : IsDerivationText bytes lines
  pub refused : (formula : Term) → IsDerivation lines formula → ⊥
  pub fault : VerifyFault
  pub named : fault ≢ Wanting
  pub first : IsFirstFault lines fault
  pub output : out ≡ fault_line fault ++ 10 ∷ []

-- the bytes aren't a derivation text, and nothing is put out
abbrev pub IsNoDerivationText : List ℕ → List ℕ → Type 0
IsNoDerivationText bytes out = ((lines : List DeductionLine) → IsDerivationText bytes lines → ⊥) × (out ≡ [])
