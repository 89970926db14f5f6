-- What `verify` answers to its input.
use Rattle.std.specs.Prelude.{◌≡◌, ℕ, List, [], ◌∷◌, ◌++◌, codes}
use Rattle.hol_terms.specs.Terms.{Term}
use Rattle.core_text.specs.CoreForms.{term_form}
use Rattle.core_text.specs.Written.{written}
use Rattle.nd_rules.specs.Lines.{DeductionLine}
use Rattle.tps_cli.specs.Derivations.{HoldsDerivation, IsRefused, IsNoDerivationText}
use Rattle.tps_cli.specs.declared.status.Status.{Status}
use Rattle.tps_cli.specs.declared.status.Status.TheVariants.{Done, No, Words, BadText, TooLong, ReadFault, WriteFault, Memory}

-- VERIFIED, and the core text of the formula
abbrev pub verified_line : Term → List ℕ
verified_line formula = codes "VERIFIED " ++ written (term_form formula) ++ 10 ∷ []

-- the bytes are the text of a derivation, and the output names its formula
abbrev pub IsVerified : List ℕ → List ℕ → Type 0
IsVerified bytes out = (lines : List DeductionLine) × (formula : Term) × HoldsDerivation bytes lines formula × (out ≡ verified_line formula)

-- yes exactly to the texts of derivations, and no exactly to the other derivation texts
abbrev pub VerifiesTo : List ℕ → Status → List ℕ → Type 0
VerifiesTo bytes Done out = IsVerified bytes out
VerifiesTo bytes No out = IsRefused bytes out
VerifiesTo bytes BadText out = IsNoDerivationText bytes out
VerifiesTo bytes Words out = ⊥
VerifiesTo bytes TooLong out = ⊥
VerifiesTo bytes ReadFault out = ⊥
VerifiesTo bytes WriteFault out = ⊥
VerifiesTo bytes Memory out = ⊥
