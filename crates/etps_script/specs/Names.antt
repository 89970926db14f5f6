-- The names that an outline knows, as they are kept from step to step.
use Rattle.std.specs.Prelude.{◌≡◌, ℕ, List, length}
use Rattle.nd_rules.specs.Lines.{DeductionLine}
use Rattle.etps_session.specs.Commands.{Request, number_of}
use Rattle.etps_session.specs.Replays.{taken}
use Rattle.etps_script.specs.Tallies.{AreAtOneType, AreFreeIn, AreTallied}
use Rattle.etps_script.specs.declared.known.KnownNames.{KnownNames}

-- the names of the tally are those of its variables, and the known ones stand at one type only
pub record AreCollected (names : KnownNames) : Type 0 where
  pub tallied : AreTallied names.tally.variables names.tally.names names.tally.shared
  pub seen : names.tally.seen ≡ names.tally.variables
  pub known : AreAtOneType names.tally.variables names.known

-- and the variables are those of the lines
pub record AreNamesOf (lines : List DeductionLine) (names : KnownNames) : Type 0 where
  pub collected : AreCollected names
  pub free : AreFreeIn lines names.tally.variables

-- the lines are those to which a request of this number led, from so many lines, which know the names
pub record IsStepAfter (names : KnownNames) (count number : ℕ) (lines : List DeductionLine) : Type 0 where
  pub before : List DeductionLine
  pub request : Request
  pub names_before : AreNamesOf before names
  pub counted : count ≡ length before
  pub numbered : number ≡ number_of request
  pub step : lines ≡ taken before request
