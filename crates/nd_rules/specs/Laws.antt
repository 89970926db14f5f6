-- Laws of outlines that grow. Each is the clause of a function of the module `laws`.
use Rattle.std.specs.Prelude.{◌≡◌, ◌≢◌, ℕ, ◌<◌, ◌≤◌, List, Option, Some, None}
use Rattle.nd_rules.specs.Lines.{Justification, hypothesis, planned, DeductionLine, line_of}
use Rattle.nd_rules.specs.Outlines.{with_line, with_why}
use Rattle.nd_rules.specs.Rules.{IsJustified}

-- n says what m says: the same formula under the same hypotheses, and it is a hypothesis where m is one
pub record SaysTheSame (m n : DeductionLine) : Type 0 where
  pub formula : n.formula ≡ m.formula
  pub hypotheses : n.hypotheses ≡ m.hypotheses
  pub assumed : m.why ≡ hypothesis → n.why ≡ hypothesis

-- so of two lines that may be missing
abbrev pub SayTheSame : Option DeductionLine → Option DeductionLine → Type 0
SayTheSame None None = Unit {0}
SayTheSame None (Some n) = ⊥
SayTheSame (Some m) None = ⊥
SayTheSame (Some m) (Some n) = SaysTheSame m n

-- a line that is justified by lines is justified by others that say the same up to its number
abbrev pub StaysJustified : Type 0
StaysJustified =
    (lines others : List DeductionLine) (l : DeductionLine) → ((n : ℕ) → n ≤ l.number → SayTheSame (line_of lines n) (line_of others n))
    → IsJustified lines l → IsJustified others l

-- so it stays justified where a line with a greater number is added
abbrev pub StaysUnderLater : Type 0
StaysUnderLater = (lines : List DeductionLine) (l m : DeductionLine) → l.number < m.number → IsJustified lines l → IsJustified (with_line lines m) l

-- and where any other line is added
abbrev pub StaysUnderOthers : Type 0
StaysUnderOthers =
    (lines : List DeductionLine) (l m : DeductionLine) → line_of lines m.number ≡ None → l.number ≢ m.number → IsJustified lines l → IsJustified (with_line lines m) l

-- and where it is put in itself
abbrev pub StaysPutIn : Type 0
StaysPutIn = (lines : List DeductionLine) (l : DeductionLine) → IsJustified lines l → IsJustified (with_line lines l) l

-- line n has no justification yet, where it is there
abbrev pub IsPlannedAt : List DeductionLine → ℕ → Type 0
IsPlannedAt lines n = (m : DeductionLine) → line_of lines n ≡ Some m → m.why ≡ planned

-- and where a planned line gets a justification
abbrev pub StaysUnderReasons : Type 0
StaysUnderReasons = (lines : List DeductionLine) (l : DeductionLine) (n : ℕ) (why : Justification) → IsPlannedAt lines n → IsJustified lines l → IsJustified (with_why lines n why) l
