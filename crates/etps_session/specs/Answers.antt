-- What a session answers to a request: the first refusal, or that it is accepted.
use Rattle.std.specs.Prelude.{◌≡◌, ◌≢◌, List, Bool, true, false, not, ◌||◌, Option, Some, None, is_some}
use Rattle.hol_terms.specs.Terms.{Term}
use Rattle.nd_rules.specs.Lines.{DeductionLine, Justification, hypothesis, deduction, universal_instance, generalization, existential, choice, conversion, assignments, planned, line_of}
use Rattle.nd_rules.specs.Rules.{HasShape, IsFirstRefusal, IsJustified, NamesEarlier}
use Rattle.nd_rules.specs.declared.faults.RuleFault.{RuleFault}
use Rattle.nd_rules.specs.declared.faults.RuleFault.TheVariants as rule
use Rattle.etps_session.specs.Commands.{Request, number_of, why_of}
use Rattle.etps_session.specs.Replays.{SessionState, replay}
use Rattle.etps_session.specs.Tables.{table_formula, table_line}
use Rattle.etps_session.specs.declared.faults.SessionFault.{SessionFault}
use Rattle.etps_session.specs.declared.faults.SessionFault.TheVariants.{NoGoal, NumberTaken, Rule, Memory}

abbrev pub is_planned : Justification → Bool
is_planned hypothesis = false
is_planned (deduction d h) = false
is_planned (universal_instance d t) = false
is_planned (generalization d a) = false
is_planned (existential d t) = false
is_planned (choice e h d a) = false
is_planned (conversion d) = false
is_planned (assignments ds) = false
is_planned planned = true

-- the line of the number is finished, or is there where a line is to be planned
abbrev pub is_taken : Option DeductionLine → Justification → Bool
is_taken None w = false
is_taken (Some m) w = is_planned w || not (is_planned m.why)

abbrev pub is_number_taken : List DeductionLine → Request → Bool
is_number_taken lines r = is_taken (line_of lines (number_of r)) (why_of r)

-- the line to be judged: that of the table, or the planned line of its number with the justification
abbrev pub line_at : Option DeductionLine → DeductionLine → DeductionLine
line_at None l = l
line_at (Some m) l = record m { why = l.why }

abbrev pub judged_line : List DeductionLine → Request → DeductionLine
judged_line lines r = line_at (line_of lines (number_of r)) (table_line lines r)

-- its formula is that of the table, where the table has one
abbrev pub FitsTable : List DeductionLine → Request → Type 0
FitsTable lines r = (a : Term) → table_formula lines r ≡ Some a → (judged_line lines r).formula ≡ a

-- the lines accept the request
pub record Accepts (lines : List DeductionLine) (r : Request) : Type 0 where
  pub free : is_number_taken lines r ≡ false
  pub fits : FitsTable lines r
  pub justified : IsJustified lines (judged_line lines r)

-- The first refusal of a line in the order of the rules, where beside the form that its rule wants something else is asked of its form.
abbrev pub IsRefusalBeside : Type 0 → List DeductionLine → DeductionLine → RuleFault → Type 0
IsRefusalBeside Fits lines l rule.Memory = Unit {0}
IsRefusalBeside Fits lines l (rule.NoLine k) = IsFirstRefusal lines l (rule.NoLine k)
IsRefusalBeside Fits lines l (rule.NotEarlier k) = IsFirstRefusal lines l (rule.NotEarlier k)
IsRefusalBeside Fits lines l rule.Shape = NamesEarlier lines l × (HasShape lines l l.why × Fits → ⊥)
IsRefusalBeside Fits lines l rule.Hyps = Fits × IsFirstRefusal lines l rule.Hyps
IsRefusalBeside Fits lines l (rule.VariableFree k) = Fits × IsFirstRefusal lines l (rule.VariableFree k)
IsRefusalBeside Fits lines l (rule.NotFollows true_atoms) = Fits × IsFirstRefusal lines l (rule.NotFollows true_atoms)
IsRefusalBeside Fits lines l (rule.NotConvertible s t) = Fits × IsFirstRefusal lines l (rule.NotConvertible s t)
IsRefusalBeside Fits lines l rule.WrongType = Fits × IsFirstRefusal lines l rule.WrongType

-- the first refusal of a request whose number is free: a formula that isn't the table's hasn't the form that is wanted
abbrev pub IsRefusal : List DeductionLine → Request → RuleFault → Type 0
IsRefusal lines r fault = IsRefusalBeside (FitsTable lines r) lines (judged_line lines r) fault

-- a goal was started
abbrev pub IsStarted : SessionState → Type 0
IsStarted s = is_some s.goal ≡ true

-- the session accepts the request
abbrev pub IsAccepted : SessionState → Request → Type 0
IsAccepted s r = IsStarted s × Accepts (replay s) r

-- the first refusal of a request by the lines of a session: no goal was started, its number is taken, or the rules refuse its line. Want
-- of memory comes only where the rules are asked, and is free there.
abbrev pub IsAnswer : Bool → List DeductionLine → Request → SessionFault → Type 0
IsAnswer started lines r NoGoal = started ≡ false
IsAnswer started lines r NumberTaken = (started ≡ true) × (is_number_taken lines r ≡ true)
IsAnswer started lines r (Rule fault) = (started ≡ true) × (is_number_taken lines r ≡ false) × (fault ≢ rule.Memory) × IsRefusal lines r fault
IsAnswer started lines r Memory = (started ≡ true) × (is_number_taken lines r ≡ false)

-- the first refusal of the request
abbrev pub IsFirstAnswer : SessionState → Request → SessionFault → Type 0
IsFirstAnswer s r fault = IsAnswer (is_some s.goal) (replay s) r fault
