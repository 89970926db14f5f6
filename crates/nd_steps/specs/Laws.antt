-- Laws of deductions that grow. Each is the clause of a function of the module `laws`.
use Rattle.std.specs.Prelude.{◌≡◌, ℕ, ◌+◌, ◌≤◌, List, [], length, All, Contains}
use Rattle.hol_terms.specs.Lists.{IsAboveLast}
use Rattle.hol_terms.specs.Terms.{SimpleType, Term}
use Rattle.nd_rules.specs.Lines.{DeductionLine}
use Rattle.nd_rules.specs.Outlines.{IsDerivation}
use Rattle.nd_steps.specs.Deductions.{IsDeduction, Assumes, Proves, AreAssumptions, IsFreeInNone, Grows}

-- lines that grow, and grow again, have grown
abbrev pub GrowsOn : Type 0
GrowsOn = (first second third : List DeductionLine) → Grows first second → Grows second third → Grows first third

-- what lines prove and assume stays so when they grow
abbrev pub ProvesStays : Type 0
ProvesStays = (old new : List DeductionLine) (n : ℕ) (hyps : List ℕ) (formula : Term) → Grows old new → Proves old n hyps formula → Proves new n hyps formula

abbrev pub AssumesStays : Type 0
AssumesStays = (old new : List DeductionLine) (n : ℕ) (formula : Term) → Grows old new → Assumes old n formula → Assumes new n formula

abbrev pub AssumptionsStay : Type 0
AssumptionsStay = (old new : List DeductionLine) (hyps : List ℕ) → Grows old new → AreAssumptions old hyps → AreAssumptions new hyps

abbrev pub FreeInNoneStays : Type 0
FreeInNoneStays =
    (old new : List DeductionLine) (hyps name : List ℕ) (s : SimpleType) → Grows old new → AreAssumptions old hyps → IsFreeInNone old hyps name s → IsFreeInNone new hyps name s

-- a line has one formula
abbrev pub ProvesOne : Type 0
ProvesOne = (lines : List DeductionLine) (n : ℕ) (hyps others : List ℕ) (a b : Term) → Proves lines n hyps a → Proves lines n others b → a ≡ b

abbrev pub AssumesOne : Type 0
AssumesOne = (lines : List DeductionLine) (n : ℕ) (a b : Term) → Assumes lines n a → Assumes lines n b → a ≡ b

-- weakening: a line proves its formula from more hypotheses too
abbrev pub ProvesFromMore : Type 0
ProvesFromMore = (lines : List DeductionLine) (n : ℕ) (hyps others : List ℕ) (formula : Term) → All (Contains others) hyps → Proves lines n hyps formula → Proves lines n others formula

-- a hypothesis proves its formula from itself
abbrev pub AssumesProves : Type 0
AssumesProves = (lines : List DeductionLine) (n : ℕ) (hyps : List ℕ) (formula : Term) → IsDeduction lines → Contains hyps n → Assumes lines n formula → Proves lines n hyps formula

-- the number of a hypothesis is at most the number of lines
abbrev pub AssumesWithin : Type 0
AssumesWithin = (lines : List DeductionLine) (n : ℕ) (formula : Term) → IsDeduction lines → Assumes lines n formula → n ≤ length lines

-- so the next line's number is above them
abbrev pub NextIsAbove : Type 0
NextIsAbove = (lines : List DeductionLine) (hyps : List ℕ) → IsDeduction lines → AreAssumptions lines hyps → IsAboveLast hyps (length lines + 1)

-- a deduction whose last line proves a formula from no hypotheses is a derivation of it
abbrev pub EndsInDerivation : Type 0
EndsInDerivation = (lines : List DeductionLine) (formula : Term) → IsDeduction lines → Proves lines (length lines) [] formula → IsDerivation lines formula
