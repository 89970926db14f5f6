-- Deductions that are built line by line, and what their lines say.
use Rattle.std.specs.Prelude.{◌≡◌, ◌≢◌, ℕ, ◌+◌, List, [], ◌∷◌, ◌++◌, length, All, Contains, Some}
use Rattle.hol_terms.specs.Terms.{SimpleType, Term}
use Rattle.hol_terms.specs.FreeVariables.{IsFree}
use Rattle.nd_rules.specs.Lines.{Justification, hypothesis, planned, DeductionLine, line_of}
use Rattle.nd_rules.specs.Outlines.{IsOutline}
use Rattle.nd_rules.specs.Rules.{IsJustified}

-- the lines have the numbers n, n + 1, n + 2, and so on
abbrev pub IsNumberedFrom : ℕ → List DeductionLine → Type 0
IsNumberedFrom n [] = Unit {0}
IsNumberedFrom n (l ∷ rest) = (l.number ≡ n) × IsNumberedFrom (n + 1) rest

-- Lines with the numbers 1, 2, 3, .., well-formed, each justified by the lines and none planned.
pub record IsDeduction (lines : List DeductionLine) : Type 0 where
  pub numbered : IsNumberedFrom 1 lines
  pub outline : IsOutline lines
  pub justified : All (IsJustified lines) lines
  pub finished : All (λ (l : DeductionLine). l.why ≢ planned) lines

-- line n is a hypothesis with that formula
pub record Assumes (lines : List DeductionLine) (n : ℕ) (formula : Term) : Type 0 where
  pub line : DeductionLine
  pub found : line_of lines n ≡ Some line
  pub assumed : line.why ≡ hypothesis
  pub says : line.formula ≡ formula

-- line n has that formula, and rests on hypotheses of the list alone
pub record Proves (lines : List DeductionLine) (n : ℕ) (hyps : List ℕ) (formula : Term) : Type 0 where
  pub line : DeductionLine
  pub found : line_of lines n ≡ Some line
  pub rests : All (Contains hyps) line.hypotheses
  pub says : line.formula ≡ formula

-- each of these lines proves the formula at its place
abbrev pub ProveAll : List DeductionLine → List ℕ → List ℕ → List Term → Type 0
ProveAll lines [] hyps formulas = formulas ≡ []
ProveAll lines (n ∷ ns) hyps formulas =
    (formula : Term) × Proves lines n hyps formula × (rest : List Term) × ProveAll lines ns hyps rest × (formulas ≡ formula ∷ rest)

-- each of these numbers is that of a hypothesis
abbrev pub AreAssumptions : List DeductionLine → List ℕ → Type 0
AreAssumptions lines hyps = All (λ h. (formula : Term) × Assumes lines h formula) hyps

-- the variable is free in none of these hypotheses
abbrev pub IsFreeInNone : List DeductionLine → List ℕ → List ℕ → SimpleType → Type 0
IsFreeInNone lines hyps name s = All (λ h. (formula : Term) → Assumes lines h formula → IsFree name s formula → ⊥) hyps

-- new is old with further lines
abbrev pub Grows : List DeductionLine → List DeductionLine → Type 0
Grows old new = (more : List DeductionLine) × (new ≡ old ++ more)

-- the next line, with these hypotheses, this formula and this justification
abbrev pub next_line : List DeductionLine → List ℕ → Term → Justification → DeductionLine
next_line lines hyps formula why = record { number = length lines + 1; hypotheses = hyps; formula = formula; why = why }

-- the lines with it justify it
abbrev pub IsNextJustified : List DeductionLine → List ℕ → Term → Justification → Type 0
IsNextJustified lines hyps formula why = IsJustified (lines ++ next_line lines hyps formula why ∷ []) (next_line lines hyps formula why)

-- new is old with the next line, of number n
pub record AddsLine (old new : List DeductionLine) (n : ℕ) (hyps : List ℕ) (formula : Term) (why : Justification) : Type 0 where
  pub number : n ≡ length old + 1
  pub lines : new ≡ old ++ next_line old hyps formula why ∷ []

-- new is old with so many further lines, the last of which is n and proves the formula
pub record Derives (added : ℕ) (old new : List DeductionLine) (n : ℕ) (hyps : List ℕ) (formula : Term) : Type 0 where
  pub grown : Grows old new
  pub longer : length new ≡ length old + added
  pub last : n ≡ length new
  pub proves : Proves new n hyps formula
