-- Outlines, and derivations: lists of lines with rising numbers.
use Rattle.std.specs.Prelude.{◌≡◌, ◌≢◌, ℕ, ◌<◌, ◌≤◌, ◌==◌, nat_lt, if◌then◌else◌, not, List, [], ◌∷◌, ◌++◌, length, slice_index, filter, map, All}
use Rattle.std.specs.List.Sorted.{IsStrictlyIncreasing}
use Rattle.hol_terms.specs.Terms.{SimpleType, Term}
use Rattle.hol_terms.specs.Typing.{Typed, IsFormula}
use Rattle.nd_rules.specs.Lines.{Justification, hypothesis, deduction, universal_instance, generalization, existential, choice, conversion, assignments, planned, DeductionLine, numbers_of}
use Rattle.nd_rules.specs.Rules.{IsJustified}

-- the term of a justification, where it has one, has a type and no loose index
abbrev pub HasTypedTerms : Justification → Type 0
HasTypedTerms hypothesis = Unit {0}
HasTypedTerms (deduction d h) = Unit {0}
HasTypedTerms (universal_instance d t) = (s : SimpleType) × Typed [] t s
HasTypedTerms (generalization d a) = Unit {0}
HasTypedTerms (existential d t) = (s : SimpleType) × Typed [] t s
HasTypedTerms (choice e h d a) = Unit {0}
HasTypedTerms (conversion d) = Unit {0}
HasTypedTerms (assignments ds) = Unit {0}
HasTypedTerms planned = Unit {0}

-- a line with a formula, rising hypotheses and a typed term
abbrev pub IsWellFormed : DeductionLine → Type 0
IsWellFormed l = IsFormula l.formula × IsStrictlyIncreasing l.hypotheses × HasTypedTerms l.why

-- well-formed lines with strictly rising numbers
pub record IsOutline (lines : List DeductionLine) : Type 0 where
  pub rising : IsStrictlyIncreasing (numbers_of lines)
  pub formed : All IsWellFormed lines

-- A derivation of a formula: a nonempty outline of lines each of which is justified by the lines and none is planned; the last line has
-- the formula, and no hypotheses.
pub record IsDerivation (lines : List DeductionLine) (formula : Term) : Type 0 where
  pub outline : IsOutline lines
  pub justified : All (IsJustified lines) lines
  pub finished : All (λ (l : DeductionLine). l.why ≢ planned) lines
  pub before : List DeductionLine
  pub last : DeductionLine
  pub ends : lines ≡ before ++ last ∷ []
  pub proves : last.formula ≡ formula
  pub closed : last.hypotheses ≡ []

-- the place of a number among rising ones: the numbers before it are smaller, and those from it on greater
pub record IsGapFor (numbers : List ℕ) (n i : ℕ) : Type 0 where
  pub within : i ≤ length numbers
  pub smaller : (j : ℕ) → j < i → slice_index numbers j < n
  pub greater : (j : ℕ) → i ≤ j → j < length numbers → n < slice_index numbers j

-- the lines with one more, before the first that hasn't a smaller number
abbrev pub with_line : List DeductionLine → DeductionLine → List DeductionLine
with_line [] l = l ∷ []
with_line (m ∷ rest) l = if nat_lt m.number l.number then m ∷ with_line rest l else l ∷ m ∷ rest

-- the lines without that of a number
abbrev pub without_line : List DeductionLine → ℕ → List DeductionLine
without_line lines n = filter (λ (m : DeductionLine). not (m.number == n)) lines

-- the lines where that of a number has another justification
abbrev pub with_why : List DeductionLine → ℕ → Justification → List DeductionLine
with_why lines n why = map (λ (m : DeductionLine). if m.number == n then record m { why = why } else m) lines
