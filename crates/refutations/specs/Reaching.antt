-- How far a deduction grows.
use Rattle.std.specs.Prelude.{◌≤◌, ◌+◌, ℕ, List, length}
use Rattle.hol_terms.specs.Terms.{Term}
use Rattle.nd_rules.specs.Lines.{DeductionLine}
use Rattle.nd_steps.specs.Deductions.{Proves, Grows}

-- new is old with at most so many further lines, and line n proves the formula
pub record Reaches (most : ℕ) (old new : List DeductionLine) (n : ℕ) (hyps : List ℕ) (formula : Term) : Type 0 where
  pub grown : Grows old new
  pub few : length new ≤ length old + most
  pub proves : Proves new n hyps formula
