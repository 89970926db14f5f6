-- The reply to each command of a script, and the session to which the command leads.
use Rattle.std.specs.Prelude.{◌≡◌, ◌≢◌, ◌⊎◌, ℕ, List, [], ◌++◌, true, false, Option, Some, None, is_some, codes, decimal}
use Rattle.hol_terms.specs.Terms.{Term, truth_type}
use Rattle.tps_reader.specs.Raws.{RawFormula}
use Rattle.type_infer.specs.Faults.{IsOnlyAnnotation}
use Rattle.nd_rules.specs.Lines.{DeductionLine, line_of}
use Rattle.nd_rules.specs.declared.faults.RuleFault.{RuleFault}
use Rattle.nd_rules.specs.declared.faults.RuleFault.TheVariants as rule
use Rattle.tps_print.specs.Printed.{printed_line}
use Rattle.etps_session.specs.Answers.{IsAccepted, IsRefusal, IsStarted, is_number_taken}
use Rattle.etps_session.specs.Commands.{Request, number_of}
use Rattle.etps_session.specs.Progress.{IsUndoFault, IsUndone, first_planned_for}
use Rattle.etps_session.specs.Replays.{Goal, SessionState, replay, with_request}
use Rattle.etps_session.specs.declared.faults.UndoFault.{UndoFault}
use Rattle.script_text.specs.Commands.{ScriptRequest, say_nothing, say_prove, say_undo, say_done}
use Rattle.etps_script.specs.Phrases.{IsUntyped}
use Rattle.etps_script.specs.Refusals.{refused_reply, undo_refusal}
use Rattle.etps_script.specs.Requests.{Asks, AsksNothing, is_taken}
use Rattle.etps_script.specs.declared.refusals.Refusal.{Refusal}
use Rattle.etps_script.specs.declared.refusals.Refusal.TheVariants as refusal

-- the reply is OK and the printed line of the number, as the line stands in the outline
abbrev pub Shows : SessionState → ℕ → List ℕ → Type 0
Shows s n out = (l : DeductionLine) × (line_of (replay s) n ≡ Some l) × (out ≡ codes "OK " ++ printed_line l)

-- PROVE

-- the session with this goal, to which no request was accepted yet
abbrev pub beginning : ℕ → Term → SessionState
beginning n t = record { goal = Some (record { number = n; formula = t }); requests = [] }

-- a session begins anew, with the only formula for which the phrase stands where no name is known
pub record IsBegun (n : ℕ) (raw : RawFormula) (new : SessionState) (out : List ℕ) : Type 0 where
  pub goal : Term
  pub only : IsOnlyAnnotation raw (Some truth_type) [] goal
  pub begun : new ≡ beginning n goal
  pub reply : Shows new n out

-- there is no such formula
pub record IsNotBegun (s : SessionState) (raw : RawFormula) (new : SessionState) (out : List ℕ) : Type 0 where
  pub fault : Refusal
  pub told : fault ≢ refusal.Memory
  pub untyped : IsUntyped raw (Some truth_type) [] fault
  pub kept : new ≡ s
  pub reply : out ≡ refused_reply fault

-- UNDO

-- the request that was accepted last is taken back, and its number told
abbrev pub IsTakenBack : SessionState → SessionState → List ℕ → Type 0
IsTakenBack s new out = IsStarted s × ((n : ℕ) × IsUndone s new n × (out ≡ codes "UNDONE " ++ decimal n))

-- nothing is undone
abbrev pub IsNotTakenBack : SessionState → SessionState → List ℕ → Type 0
IsNotTakenBack s new out = (fault : UndoFault) × IsUndoFault s fault × (new ≡ s) × (out ≡ refused_reply (undo_refusal fault))

-- DONE

-- the reply by the goal and the first planned line up to it
abbrev pub progress_reply : Option Goal → Option ℕ → List ℕ
progress_reply None first = refused_reply refusal.NoGoal
progress_reply (Some g) None = codes "DONE"
progress_reply (Some g) (Some n) = codes "OPEN " ++ decimal n

-- whether the goal is derived, or which line is the first that isn't justified
abbrev pub done_reply : SessionState → List ℕ
done_reply s = progress_reply s.goal (first_planned_for s.goal (replay s))

-- Steps

-- a goal was started, and the number of the step isn't taken
abbrev pub IsOpenTo : SessionState → ScriptRequest → Type 0
IsOpenTo s c = IsStarted s × (is_taken (replay s) c ≡ false)

-- the first refusal of a request by the session
abbrev pub IsUnaccepted : SessionState → Request → Refusal → Type 0
IsUnaccepted s r refusal.Memory = Unit {0}
IsUnaccepted s r refusal.NoGoal = is_some s.goal ≡ false
IsUnaccepted s r refusal.NumberTaken = IsStarted s × (is_number_taken (replay s) r ≡ true)
IsUnaccepted s r (refusal.Rule fault) = (fault ≢ rule.Memory) × IsRefusal (replay s) r fault
IsUnaccepted s r e = ⊥

-- the request of the step is refused by the rules
abbrev pub IsAgainstRules : List DeductionLine → ScriptRequest → RuleFault → Type 0
IsAgainstRules lines c fault = (r : Request) × Asks lines c r × (fault ≢ rule.Memory) × IsRefusal lines r fault

-- The first refusal of a step: no goal was started, its number is taken, it asks nothing of the session, or the rules refuse what it
-- asks. Want of memory is free.
abbrev pub IsRefused : SessionState → ScriptRequest → Refusal → Type 0
IsRefused s c refusal.Memory = Unit {0}
IsRefused s c refusal.NoGoal = is_some s.goal ≡ false
IsRefused s c refusal.NumberTaken = IsStarted s × (is_taken (replay s) c ≡ true)
IsRefused s c refusal.NoTyping = IsOpenTo s c × AsksNothing (replay s) c refusal.NoTyping
IsRefused s c refusal.Ambiguous = IsOpenTo s c × AsksNothing (replay s) c refusal.Ambiguous
IsRefused s c (refusal.Rule fault) = IsOpenTo s c × (AsksNothing (replay s) c (refusal.Rule fault) ⊎ IsAgainstRules (replay s) c fault)
IsRefused s c refusal.NothingToUndo = ⊥

-- the session accepts the request of the step
pub record IsTaken (s : SessionState) (c : ScriptRequest) (new : SessionState) (n : ℕ) : Type 0 where
  pub request : Request
  pub asked : Asks (replay s) c request
  pub accepted : IsAccepted s request
  pub taken : new ≡ with_request s request
  pub number : n ≡ number_of request

-- the step is accepted, and its line shown
abbrev pub IsStep : SessionState → ScriptRequest → SessionState → List ℕ → Type 0
IsStep s c new out = (n : ℕ) × IsTaken s c new n × Shows new n out

-- the step is refused, which changes nothing
pub record IsNoStep (s : SessionState) (c : ScriptRequest) (new : SessionState) (out : List ℕ) : Type 0 where
  pub fault : Refusal
  pub told : fault ≢ refusal.Memory
  pub refused : IsRefused s c fault
  pub kept : new ≡ s
  pub reply : out ≡ refused_reply fault

-- Commands

-- The session s answers the reply to the command, and becomes the new one: nothing to a blank line; to PROVE the goal's line, or why its
-- phrase has no types; to UNDO the number of what is taken back, or why there is none; to DONE whether the goal is derived; to a step its
-- line, or the first refusal.
abbrev pub Replied : SessionState → ScriptRequest → SessionState → List ℕ → Type 0
Replied s say_nothing new out = (new ≡ s) × (out ≡ [])
Replied s (say_prove n a) new out = IsBegun n a new out ⊎ IsNotBegun s a new out
Replied s say_undo new out = IsTakenBack s new out ⊎ IsNotTakenBack s new out
Replied s say_done new out = (new ≡ s) × (out ≡ done_reply s)
Replied s c new out = IsStep s c new out ⊎ IsNoStep s c new out

-- Want of memory

-- the session is as it was, or begins anew with the only formula for which the phrase stands
abbrev pub MayHaveBegun : SessionState → ℕ → RawFormula → SessionState → Type 0
MayHaveBegun s n raw new = (new ≡ s) ⊎ ((goal : Term) × IsOnlyAnnotation raw (Some truth_type) [] goal × (new ≡ beginning n goal))

-- the session is as it was, or the request that was accepted last is taken back
abbrev pub MayHaveUndone : SessionState → SessionState → Type 0
MayHaveUndone s new = (new ≡ s) ⊎ ((n : ℕ) × IsUndone s new n)

-- the session is as it was, or has accepted the request of the step
abbrev pub MayHaveTaken : SessionState → ScriptRequest → SessionState → Type 0
MayHaveTaken s c new = (new ≡ s) ⊎ ((n : ℕ) × IsTaken s c new n)

-- The session s becomes the new one where memory runs out for the command or for the reply: it is as it was, or PROVE has begun anew,
-- UNDO has taken one request back, or the step was accepted.
abbrev pub IsLeftBy : SessionState → ScriptRequest → SessionState → Type 0
IsLeftBy s say_nothing new = new ≡ s
IsLeftBy s (say_prove n a) new = MayHaveBegun s n a new
IsLeftBy s say_undo new = MayHaveUndone s new
IsLeftBy s say_done new = new ≡ s
IsLeftBy s c new = MayHaveTaken s c new
