-- Derivation texts: which bytes are the text of which outline.
use Rattle.std.specs.Prelude.{◌≡◌, ℕ, ◌<◌, ◌^◌, List, [], ◌∷◌, ◌++◌, length}
use Rattle.hol_terms.specs.Names.{IsName}
use Rattle.core_text.specs.CoreForms.{HasNames}
use Rattle.core_text.specs.Forms.{IsTextOf}
use Rattle.core_text.specs.Written.{written}
use Rattle.nd_rules.specs.Lines.{Justification, hypothesis, deduction, universal_instance, generalization, existential, choice, conversion, assignments, planned, DeductionLine, cited}
use Rattle.nd_rules.specs.Outlines.{IsOutline}
use Rattle.nd_check.specs.Forms.{derivation_form}

-- the name of a justification is one, and so are the names of its term
abbrev pub WhyHasNames : Justification → Type 0
WhyHasNames hypothesis = Unit {0}
WhyHasNames (deduction d h) = Unit {0}
WhyHasNames (universal_instance d t) = HasNames t
WhyHasNames (generalization d a) = IsName a
WhyHasNames (existential d t) = HasNames t
WhyHasNames (choice e h d a) = IsName a
WhyHasNames (conversion d) = Unit {0}
WhyHasNames (assignments ds) = Unit {0}
WhyHasNames planned = Unit {0}

abbrev pub LineHasNames : DeductionLine → Type 0
LineHasNames l = HasNames l.formula × WhyHasNames l.why

-- all names are names, as in each line that the program holds
abbrev pub LinesHaveNames : List DeductionLine → Type 0
LinesHaveNames [] = Unit {0}
LinesHaveNames (l ∷ ls) = LineHasNames l × LinesHaveNames ls

-- each number has 64 bits
abbrev pub AreNumerals : List ℕ → Type 0
AreNumerals [] = Unit {0}
AreNumerals (n ∷ ns) = (n < 2 ^ 64) × AreNumerals ns

-- and so has each of a line: its own, its hypotheses and those that it cites
abbrev pub LineHasNumerals : DeductionLine → Type 0
LineHasNumerals l = (l.number < 2 ^ 64) × AreNumerals l.hypotheses × AreNumerals (cited l.why)

abbrev pub LinesHaveNumerals : List DeductionLine → Type 0
LinesHaveNumerals [] = Unit {0}
LinesHaveNumerals (l ∷ ls) = LineHasNumerals l × LinesHaveNumerals ls

-- the bytes are the text of these lines: of at least one, with rising numbers, rising hypotheses, formulas and typed terms
pub record IsDerivationText (bytes : List ℕ) (lines : List DeductionLine) : Type 0 where
  pub text : IsTextOf bytes (derivation_form lines)
  pub some : 0 < length lines
  pub names : LinesHaveNames lines
  pub outline : IsOutline lines

-- The bytes are what is written for these lines: their form with one space between members, none after ( and none before ), and LF at the
-- end. There is at least one line, the lines are an outline, all names are names, and all numbers have 64 bits.
pub record IsWrittenDerivation (bytes : List ℕ) (lines : List DeductionLine) : Type 0 where
  pub same : bytes ≡ written (derivation_form lines) ++ 10 ∷ []
  pub some : 0 < length lines
  pub outline : IsOutline lines
  pub names : LinesHaveNames lines
  pub numbers : LinesHaveNumerals lines
