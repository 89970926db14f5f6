-- How far a session has come.
use Rattle.std.specs.Prelude.{◌≡◌, ℕ, List, [], ◌∷◌, ◌++◌, nat_le, false, Option, Some, None, is_some, find, filter}
use Rattle.std.specs.Option.{option_map}
use Rattle.nd_rules.specs.Lines.{DeductionLine}
use Rattle.etps_session.specs.Answers.{IsStarted, is_planned}
use Rattle.etps_session.specs.Commands.{Request, number_of}
use Rattle.etps_session.specs.Replays.{Goal, SessionState, replay}
use Rattle.etps_session.specs.declared.faults.UndoFault.{UndoFault}
use Rattle.etps_session.specs.declared.faults.UndoFault.TheVariants as undo

-- the lines up to a number
abbrev pub lines_upto : List DeductionLine → ℕ → List DeductionLine
lines_upto lines n = filter (λ (l : DeductionLine). nat_le l.number n) lines

-- the number of the first planned line; since numbers rise it is the least
abbrev pub first_planned_in : List DeductionLine → Option ℕ
first_planned_in lines = option_map (λ (l : DeductionLine). l.number) (find (λ (l : DeductionLine). is_planned l.why) lines)

-- that of the first planned line up to the goal's
abbrev pub first_planned_for : Option Goal → List DeductionLine → Option ℕ
first_planned_for None lines = None
first_planned_for (Some g) lines = first_planned_in (lines_upto lines g.number)

-- a goal was started, and no line up to the goal's is planned
abbrev pub IsDone : SessionState → Type 0
IsDone s = IsStarted s × (first_planned_for s.goal (replay s) ≡ None)

-- the request that was accepted last is taken back
pub record IsUndone (old new : SessionState) (n : ℕ) : Type 0 where
  pub last : Request
  pub before : old.requests ≡ new.requests ++ last ∷ []
  pub goal : new.goal ≡ old.goal
  pub number : n ≡ number_of last

-- why nothing is undone
abbrev pub IsUndoFault : SessionState → UndoFault → Type 0
IsUndoFault s undo.NoGoal = is_some s.goal ≡ false
IsUndoFault s undo.NothingToUndo = IsStarted s × (s.requests ≡ [])
