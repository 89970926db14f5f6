-- What a session keeps beside its outline, so that requests can be taken back.
use Rattle.std.specs.Prelude.{◌≡◌, ℕ, List, [], ◌∷◌, map, Option, Some, None}
use Rattle.hol_terms.specs.Terms.{plain_term}
use Rattle.nd_rules.specs.Lines.{DeductionLine, line_of, planned}
use Rattle.nd_rules.specs.Outlines.{with_why, without_line}
use Rattle.etps_session.specs.Answers.{Accepts}
use Rattle.etps_session.specs.Commands.{Request, number_of, plain_command}
use Rattle.etps_session.specs.Replays.{Goal, first_lines, replay_from, taken}
use Rattle.etps_session.specs.declared.steps.Change.{Change}
use Rattle.etps_session.specs.declared.steps.Change.TheVariants.{Added, Justified}
use Rattle.etps_session.specs.declared.steps.Step.{Step}
use Rattle.etps_session.specs.declared.steps.GoalLine.{GoalLine}

abbrev pub plain_goal : GoalLine → Goal
plain_goal g = record { number = g.number; formula = plain_term g.formula }

-- what a line with the number of a request becomes: it is added, or justified
abbrev pub change_of : Option DeductionLine → Change
change_of None = Added
change_of (Some m) = Justified

-- a request with what became of its line
abbrev pub Trace : Type 0
Trace = Request × Change

abbrev pub plain_step : Step → Trace
plain_step s = (plain_command s.command, s.change)

abbrev pub requests_of : List Trace → List Request
requests_of steps = map (λ (s : Trace). s.0) steps

-- the lines with a change taken back
abbrev pub taken_back : Change → List DeductionLine → ℕ → List DeductionLine
taken_back Added lines n = without_line lines n
taken_back Justified lines n = with_why lines n planned

-- each request is accepted in turn, with this change
abbrev pub AreTraced : List DeductionLine → List Trace → Type 0
AreTraced lines [] = Unit {0}
AreTraced lines (s ∷ steps) =
    Accepts lines s.0 × (s.1 ≡ change_of (line_of lines (number_of s.0))) × AreTraced (taken lines s.0) steps

-- the outline is that of the goal and the requests, each of which was accepted, and none without a goal
pub record IsSession (goal : Option Goal) (steps : List Trace) (lines : List DeductionLine) : Type 0 where
  pub outline : lines ≡ replay_from (first_lines goal) (requests_of steps)
  pub traced : AreTraced (first_lines goal) steps
  pub idle : goal ≡ None → steps ≡ []
