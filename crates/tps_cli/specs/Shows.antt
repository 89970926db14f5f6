-- What `show` answers to its input.
use Rattle.std.specs.Prelude.{◌≡◌, ℕ, List, [], ◌∷◌, ◌++◌}
use Rattle.hol_terms.specs.Terms.{Term}
use Rattle.nd_rules.specs.Lines.{DeductionLine}
use Rattle.tps_print.specs.Printed.{printed_line}
use Rattle.tps_cli.specs.Derivations.{HoldsDerivation, IsRefused, IsNoDerivationText}
use Rattle.tps_cli.specs.declared.status.Status.{Status}
use Rattle.tps_cli.specs.declared.status.Status.TheVariants.{Done, No, Words, BadText, TooLong, ReadFault, WriteFault, Memory}

-- each line as it is printed, with LF after it
abbrev pub printed_lines : List DeductionLine → List ℕ
printed_lines [] = []
printed_lines (l ∷ ls) = printed_line l ++ 10 ∷ printed_lines ls

-- the bytes are the text of a derivation, and the output is its printed lines
abbrev pub IsShown : List ℕ → List ℕ → Type 0
IsShown bytes out = (lines : List DeductionLine) × (formula : Term) × HoldsDerivation bytes lines formula × (out ≡ printed_lines lines)

-- yes exactly to the texts of derivations, and no exactly to the other derivation texts
abbrev pub ShowsTo : List ℕ → Status → List ℕ → Type 0
ShowsTo bytes Done out = IsShown bytes out
ShowsTo bytes No out = IsRefused bytes out
ShowsTo bytes BadText out = IsNoDerivationText bytes out
ShowsTo bytes Words out = ⊥
ShowsTo bytes TooLong out = ⊥
ShowsTo bytes ReadFault out = ⊥
ShowsTo bytes WriteFault out = ⊥
ShowsTo bytes Memory out = ⊥
