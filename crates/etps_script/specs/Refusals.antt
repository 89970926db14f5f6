-- The words by which refusals are told.
use Rattle.std.specs.Prelude.{ℕ, List, [], ◌++◌, codes, decimal}
use Rattle.nd_rules.specs.Words.{fault_words}
use Rattle.etps_session.specs.declared.faults.UndoFault.{UndoFault}
use Rattle.etps_session.specs.declared.faults.UndoFault.TheVariants as undo
use Rattle.tps_reader.specs.declared.faults.RawFault.TheVariants as raw_fault
use Rattle.script_text.specs.declared.faults.CommandFault.{CommandFault}
use Rattle.script_text.specs.declared.faults.CommandFault.TheVariants as line_fault
use Rattle.etps_script.specs.declared.refusals.Refusal.{Refusal}
use Rattle.etps_script.specs.declared.refusals.Refusal.TheVariants as refusal

-- why a command is refused: no goal was started, its number is taken, a phrase stands for no term or for more than one, the rules refuse
-- its line, or nothing is left to undo; nothing is told of running out of memory
abbrev pub words : Refusal → List ℕ
words refusal.Memory = []
words refusal.NoGoal = codes "NOGOAL"
words refusal.NumberTaken = codes "NUMBER"
words refusal.NoTyping = codes "NOTYPING"
words refusal.Ambiguous = codes "AMBIGUOUS"
words (refusal.Rule fault) = fault_words fault
words refusal.NothingToUndo = codes "UNDO"

-- the reply to a command that is refused
abbrev pub refused_reply : Refusal → List ℕ
refused_reply e = codes "REFUSED " ++ words e

-- why nothing is undone
abbrev pub undo_refusal : UndoFault → Refusal
undo_refusal undo.NoGoal = refusal.NoGoal
undo_refusal undo.NothingToUndo = refusal.NothingToUndo

-- the reply to a line that isn't that of a command, with the place of its first fault
abbrev pub refused_line : CommandFault → List ℕ
refused_line (line_fault.Raw raw_fault.NotUtf8) = codes "REFUSED UTF8"
refused_line (line_fault.Raw (raw_fault.BadCharacter place)) = codes "REFUSED SYNTAX " ++ decimal place
refused_line (line_fault.Raw (raw_fault.TooDeep depth)) = codes "REFUSED DEEP"
refused_line (line_fault.Raw (raw_fault.Unexpected place)) = codes "REFUSED SYNTAX " ++ decimal place
refused_line (line_fault.Raw raw_fault.Memory) = []
refused_line line_fault.Unknown = codes "REFUSED COMMAND"
refused_line line_fault.Memory = []
