-- The first fault of an outline as a derivation.
use Rattle.std.specs.Prelude.{◌≡◌, ◌≢◌, ℕ, List, [], ◌∷◌, ◌++◌, All, codes, decimal}
use Rattle.hol_terms.specs.Terms.{Term}
use Rattle.nd_rules.specs.Lines.{planned, DeductionLine}
use Rattle.nd_rules.specs.Rules.{IsJustified, IsFirstRefusal}
use Rattle.nd_rules.specs.Words.{fault_words}
use Rattle.nd_rules.specs.declared.faults.RuleFault.TheVariants.{Memory as RuleMemory}
use Rattle.nd_check.specs.declared.verifying.VerifyFault.{VerifyFault}
use Rattle.nd_check.specs.declared.verifying.VerifyFault.TheVariants.{Memory, BadLine, Unfinished, NotClosed}

-- the line is justified by the lines, and not planned
abbrev pub IsFinished : List DeductionLine → DeductionLine → Type 0
IsFinished lines l = IsJustified lines l × (l.why ≢ planned)

-- l is the last of the lines
abbrev pub IsLast : List DeductionLine → DeductionLine → Type 0
IsLast lines l = (before : List DeductionLine) × (lines ≡ before ++ l ∷ [])

-- the formula is that of the last line
abbrev pub IsConclusion : List DeductionLine → Term → Type 0
IsConclusion lines formula = (l : DeductionLine) × IsLast lines l × (l.formula ≡ formula)

-- the fault of one line: it is planned, or else refused
abbrev pub IsLineFault : List DeductionLine → DeductionLine → VerifyFault → Type 0
IsLineFault lines l Memory = Unit {0}
IsLineFault lines l (BadLine n fault) = (n ≡ l.number) × (l.why ≢ planned) × (fault ≢ RuleMemory) × IsFirstRefusal lines l fault
IsLineFault lines l (Unfinished n) = (n ≡ l.number) × (l.why ≡ planned)
IsLineFault lines l (NotClosed n) = ⊥

-- so of the first line that has one
pub record IsFirstLineFault (lines : List DeductionLine) (e : VerifyFault) : Type 0 where
  pub before : List DeductionLine
  pub line : DeductionLine
  pub after : List DeductionLine
  pub split : lines ≡ before ++ line ∷ after
  pub finished : All (IsFinished lines) before
  pub fault : IsLineFault lines line e

-- all lines are finished, and the last one, of number n, has hypotheses
pub record IsOpenAt (lines : List DeductionLine) (n : ℕ) : Type 0 where
  pub finished : All (IsFinished lines) lines
  pub line : DeductionLine
  pub last : IsLast lines line
  pub number : n ≡ line.number
  pub open_line : line.hypotheses ≢ []

-- the first fault of the lines: that of the first line that is planned or isn't justified, or else of the last line
abbrev pub IsFirstFault : List DeductionLine → VerifyFault → Type 0
IsFirstFault lines Memory = Unit {0}
IsFirstFault lines (BadLine n fault) = IsFirstLineFault lines (BadLine n fault)
IsFirstFault lines (Unfinished n) = IsFirstLineFault lines (Unfinished n)
IsFirstFault lines (NotClosed n) = IsOpenAt lines n

-- what is said of a fault: LINE, the number of the line, and the fault
abbrev pub fault_line : VerifyFault → List ℕ
fault_line Memory = []
fault_line (BadLine n fault) = codes "LINE " ++ decimal n ++ 32 ∷ fault_words fault
fault_line (Unfinished n) = codes "LINE " ++ decimal n ++ codes " PLANNED"
fault_line (NotClosed n) = codes "LINE " ++ decimal n ++ codes " NOTCLOSED"
