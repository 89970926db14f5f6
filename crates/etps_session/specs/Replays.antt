-- What a session holds, and the outline to which its requests lead.
use Rattle.std.specs.Prelude.{◌≡◌, ℕ, List, [], ◌∷◌, ◌++◌, Option, Some, None}
use Rattle.hol_terms.specs.Terms.{Term}
use Rattle.nd_rules.specs.Lines.{DeductionLine, line_of, planned}
use Rattle.nd_rules.specs.Outlines.{with_line, with_why}
use Rattle.etps_session.specs.Commands.{Request, number_of}
use Rattle.etps_session.specs.Tables.{table_line}

-- the number and the formula of the line that is to be proved
pub record Goal : Type 0 where
  pub number : ℕ
  pub formula : Term

-- the goal, where one was started, and the requests accepted since then
pub record SessionState : Type 0 where
  pub goal : Option Goal
  pub requests : List Request

-- where no goal was started, no request is accepted
pub record IsIdleWithoutGoal (s : SessionState) : Type 0 where
  pub idle : s.goal ≡ None → s.requests ≡ []

-- the goal as a planned line without hypotheses
abbrev pub goal_line : Goal → DeductionLine
goal_line g = record { number = g.number; hypotheses = []; formula = g.formula; why = planned }

-- the line: put in, or for a planned line that is there its justification
abbrev pub put_at : Option DeductionLine → List DeductionLine → DeductionLine → List DeductionLine
put_at None lines l = with_line lines l
put_at (Some m) lines l = with_why lines l.number l.why

-- the lines where a request is accepted
abbrev pub taken : List DeductionLine → Request → List DeductionLine
taken lines r = put_at (line_of lines (number_of r)) lines (table_line lines r)

-- and where several are, one after the other
abbrev pub replay_from : List DeductionLine → List Request → List DeductionLine
replay_from lines [] = lines
replay_from lines (r ∷ rs) = replay_from (taken lines r) rs

-- the outline with which a session begins: the goal's line alone
abbrev pub first_lines : Option Goal → List DeductionLine
first_lines None = []
first_lines (Some g) = goal_line g ∷ []

-- the outline of a session: the goal's line, planned, and then each request in turn
abbrev pub replay : SessionState → List DeductionLine
replay s = replay_from (first_lines s.goal) s.requests

-- the session with one request more
abbrev pub with_request : SessionState → Request → SessionState
with_request s r = record s { requests = s.requests ++ r ∷ [] }
