-- What a line of a script asks for, without the pointers that the program's own commands have.
use Rattle.std.specs.Prelude.{ℕ, List}
use Rattle.tps_reader.specs.Raws.{RawFormula, plain_raw}
use Rattle.script_text.specs.declared.commands.ScriptCommand.{ScriptCommand}
use Rattle.script_text.specs.declared.commands.ScriptCommand.TheVariants as script

-- Nothing (a blank line), a new goal, a step of a deduction (the requests to a session, with phrases in place of terms), the last step
-- taken back, or the question whether the goal is derived.
pub data ScriptRequest : Type 0 where
  say_nothing : ScriptRequest
  say_prove : ℕ → RawFormula → ScriptRequest
  say_plan : ℕ → List ℕ → RawFormula → ScriptRequest
  say_suppose : ℕ → RawFormula → ScriptRequest
  say_deduce : ℕ → ℕ → ℕ → ScriptRequest
  say_instantiate : ℕ → ℕ → RawFormula → ScriptRequest
  say_generalize : ℕ → ℕ → RawFormula → ScriptRequest
  say_witness : ℕ → ℕ → RawFormula → RawFormula → ScriptRequest
  say_choose : ℕ → ℕ → ℕ → ℕ → List ℕ → ScriptRequest
  say_convert : ℕ → ℕ → RawFormula → ScriptRequest
  say_follow : ℕ → List ℕ → RawFormula → ScriptRequest
  say_undo : ScriptRequest
  say_done : ScriptRequest

abbrev pub plain_script : ScriptCommand → ScriptRequest
plain_script script.Blank = say_nothing
plain_script (script.Prove n a) = say_prove n (plain_raw a)
plain_script (script.Plan n hs a) = say_plan n hs (plain_raw a)
plain_script (script.P n a) = say_suppose n (plain_raw a)
plain_script (script.Deduct n d h) = say_deduce n d h
plain_script (script.Ui n d t) = say_instantiate n d (plain_raw t)
plain_script (script.Ugen n d a) = say_generalize n d (plain_raw a)
plain_script (script.Egen n d t a) = say_witness n d (plain_raw t) (plain_raw a)
plain_script (script.Rulec n e h d a) = say_choose n e h d a
plain_script (script.Lambda n d a) = say_convert n d (plain_raw a)
plain_script (script.Rulep n ds a) = say_follow n ds (plain_raw a)
plain_script script.Undo = say_undo
plain_script script.Done = say_done
