-- Laws of derivation texts. Each is the clause of a function of the module `laws`.
use Rattle.std.specs.Prelude.{◌≡◌, ℕ, ◌<◌, ◌≤◌, List, [], ◌∷◌, ◌++◌, length}
use Rattle.core_text.specs.Forms.{nesting}
use Rattle.core_text.specs.Tokens.{depth_of}
use Rattle.core_text.specs.Written.{written}
use Rattle.nd_rules.specs.Lines.{DeductionLine}
use Rattle.nd_rules.specs.Outlines.{IsOutline}
use Rattle.nd_check.specs.Forms.{derivation_form}
use Rattle.nd_check.specs.Texts.{IsDerivationText, IsWrittenDerivation, LinesHaveNames, LinesHaveNumerals}

-- a text says one outline at most
abbrev pub SaysOneOutline : Type 0
SaysOneOutline = (bytes : List ℕ) (ls ms : List DeductionLine) → IsDerivationText bytes ls → IsDerivationText bytes ms → ls ≡ ms

-- what is written for an outline of at least one line, whose numbers have 64 bits, is a text of it, within the limits of reading
abbrev pub WrittenIsDerivationText : Type 0
WrittenIsDerivationText =
    (ls : List DeductionLine) → 0 < length ls → LinesHaveNames ls → LinesHaveNumerals ls → IsOutline ls → nesting (derivation_form ls) ≤ 5000
    → IsDerivationText (written (derivation_form ls) ++ 10 ∷ []) ls

-- what is written for lines, where it has at most 1,048,576 bytes and is nested at most 5,000 deep, is a text of these lines and of no others
abbrev pub WrittenIsRead : Type 0
WrittenIsRead =
    (bytes : List ℕ) (ls : List DeductionLine) → IsWrittenDerivation bytes ls → length bytes ≤ 1048576 → depth_of bytes ≤ 5000
    → IsDerivationText bytes ls × ((ms : List DeductionLine) → IsDerivationText bytes ms → ms ≡ ls)
