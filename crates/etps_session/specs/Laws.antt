-- Laws of sessions. Each is the clause of a function of the module `laws`.
use Rattle.std.specs.Prelude.{◌≢◌, ◌↔◌, ℕ, List, Contains, None}
use Rattle.std.specs.List.Sorted.{IsStrictlyIncreasing}
use Rattle.nd_rules.specs.Lines.{DeductionLine}
use Rattle.etps_session.specs.Answers.{Accepts}
use Rattle.etps_session.specs.Commands.{Request}
use Rattle.etps_session.specs.Tables.{in_order, table_formula}

-- the table has a formula for each request that is accepted
abbrev pub AcceptedHasFormula : Type 0
AcceptedHasFormula = (lines : List DeductionLine) (r : Request) → Accepts lines r → table_formula lines r ≢ None

-- hypotheses in order rise, and are those that were given
abbrev pub HypothesesRise : Type 0
HypothesesRise = (ns : List ℕ) → IsStrictlyIncreasing (in_order ns) × ((n : ℕ) → Contains (in_order ns) n ↔ Contains ns n)
