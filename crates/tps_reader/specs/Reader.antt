-- What the program's own frames and modes stand for.
use Rattle.std.specs.Prelude.{◌≡◌, ℕ, List, map, reverse, Option, Some, None, Result, Ok, Err}
use Rattle.std.specs.Option.{option_map}
use Rattle.hol_terms.specs.Terms.{plain_constant, plain_type}
use Rattle.tps_reader.specs.Raws.{plain_raw}
use Rattle.tps_reader.specs.Machine.{Role, a_name, a_truth, a_binder, an_infix, an_opening, a_closing, a_dot, a_tilde, a_parenthesis, another, Frame as PlainFrame, open_bracket, open_dot, open_negation, open_binding, open_side, open_application, Target as PlainTarget, for_variable, for_binding, for_quantifier, Mode as PlainMode, State, wanting, having, naming, binding, binding_name, typing, ending}
use Rattle.tps_reader.specs.declared.roles.Role.{Role as WordRole}
use Rattle.tps_reader.specs.declared.roles.Role.TheVariants as role
use Rattle.tps_reader.specs.declared.faults.RawFault.{RawFault}
use Rattle.tps_reader.specs.declared.faults.RawFault.TheVariants as fault
use Rattle.tps_reader.specs.declared.frames.Frame.{Frame}
use Rattle.tps_reader.specs.declared.frames.Frame.TheVariants as frame
use Rattle.tps_reader.specs.declared.frames.Target.{Target}
use Rattle.tps_reader.specs.declared.frames.Target.TheVariants as target
use Rattle.tps_reader.specs.declared.frames.Mode.{Mode}
use Rattle.tps_reader.specs.declared.frames.Mode.TheVariants as mode

abbrev pub plain_role : WordRole → Role
plain_role (role.Name name) = a_name name
plain_role (role.Truth value) = a_truth value
plain_role (role.Binder b) = a_binder b
plain_role (role.Infix op) = an_infix op
plain_role role.Opening = an_opening
plain_role role.Closing = a_closing
plain_role role.Dot = a_dot
plain_role role.Tilde = a_tilde
plain_role role.Parenthesis = a_parenthesis
plain_role role.Other = another

abbrev pub plain_frame : Frame → PlainFrame
plain_frame (frame.Bracket place) = open_bracket place
plain_frame (frame.Dot place) = open_dot place
plain_frame (frame.Negation place) = open_negation place
plain_frame (frame.Binding b name ty place) = open_binding b name (option_map plain_type ty) place
plain_frame (frame.Side op left) = open_side op (plain_raw left)
plain_frame (frame.Application f) = open_application (plain_raw f)

-- the innermost frame first
abbrev pub plain_frames : List Frame → List PlainFrame
plain_frames frames = reverse (map plain_frame frames)

abbrev pub plain_target : Target → PlainTarget
plain_target (target.Variable name place) = for_variable name place
plain_target (target.Binding b name place) = for_binding b name place
plain_target (target.Quantifier b place) = for_quantifier b place

abbrev pub plain_mode : Mode → PlainMode
plain_mode mode.Wanting = wanting
plain_mode (mode.Having v) = having (plain_raw v)
plain_mode (mode.Naming name here) = naming name here
plain_mode (mode.Binding b here) = binding b here
plain_mode (mode.BindingName b name here) = binding_name b name here
plain_mode (mode.Typing to part around) = typing (plain_target to) (option_map plain_type part) (reverse (map (λ ty. option_map plain_type ty) around.items))
plain_mode (mode.Ending con here) = ending (plain_constant con) here

abbrev pub plain_state : List Frame → Mode → State
plain_state frames mode = (plain_frames frames, plain_mode mode)

-- The answer to a token at a place: the next state, or that none such may follow.
abbrev pub Answers : ℕ → Option State → List Frame → Result Mode RawFault → Type 0
Answers here found frames (Ok next) = found ≡ Some (plain_frames frames, plain_mode next)
Answers here found frames (Err (fault.Unexpected place)) = (place ≡ here) × (found ≡ None)
Answers here found frames (Err fault.NotUtf8) = ⊥
Answers here found frames (Err (fault.BadCharacter place)) = ⊥
Answers here found frames (Err (fault.TooDeep depth)) = ⊥
Answers here found frames (Err fault.Memory) = Unit {0}
