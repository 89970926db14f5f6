-- How formula text is read token by token, with what waits for an operand kept in a list.
use Rattle.std.specs.Prelude.{ℕ, nat_lt, Bool, true, false, if◌then◌else◌, List, [], ◌∷◌, codes, encode_utf8_all, Option, Some, None}
use Rattle.std.specs.Option.{option_map}
use Rattle.hol_terms.specs.Terms.{SimpleType, Constant, negation}
use Rattle.core_text.specs.Words.{is_name, same_bytes}
use Rattle.tps_reader.specs.Grammar.{infix_constant, infix_rank, is_letters, joined, moved, quantifier_constant, right_rank, truth_constant, with_letters}
use Rattle.tps_reader.specs.Raws.{RawFormula, raw_variable, raw_constant, raw_application, raw_binding, raw_connective, raw_negation, place_of}
use Rattle.tps_reader.specs.Tokens.{Sign, open_square, close_square, open_round, close_round, dot, tilde, semicolon, number, word, Token, token}
use Rattle.tps_reader.specs.declared.raws.Binder.{Binder}
use Rattle.tps_reader.specs.declared.raws.Binder.TheVariants as binder
use Rattle.tps_reader.specs.declared.raws.Infix.{Infix}
use Rattle.tps_reader.specs.declared.raws.Infix.TheVariants as joint

-- what a token is outside written types
pub data Role : Type 0 where
  a_name : List ℕ → Role
  a_truth : Bool → Role
  a_binder : Binder → Role
  an_infix : Infix → Role
  an_opening a_closing a_dot a_tilde a_parenthesis another : Role

abbrev pub name_or_other : List ℕ → Role
name_or_other w = if is_name (encode_utf8_all w) then a_name w else another

abbrev pub word_role : List ℕ → Role
word_role w =
    if same_bytes w (codes "AND") then an_infix joint.And else (if same_bytes w (codes "OR") then an_infix joint.Or else (if same_bytes w (codes "IMPLIES") then an_infix joint.Implies
    else (if same_bytes w (codes "EQUIV") then an_infix joint.Equiv else (if same_bytes w (codes "TRUTH") then a_truth true else (if same_bytes w (codes "FALSEHOOD") then a_truth false
    else (if same_bytes w (codes "FORALL") then a_binder binder.Forall else (if same_bytes w (codes "EXISTS") then a_binder binder.Exists else (if same_bytes w (codes "LAMBDA") then a_binder binder.Lambda
    else name_or_other w))))))))

abbrev pub role_of : Sign → Role
role_of open_square = an_opening
role_of close_square = a_closing
role_of open_round = a_parenthesis
role_of close_round = another
role_of dot = a_dot
role_of tilde = a_tilde
role_of semicolon = another
role_of (number n) = another
role_of (word w) = word_role w

-- What waits for an operand: an open bracket, a dot, a negation or a binder with its place, a left side with its connective, or
-- what is to be applied.
pub data Frame : Type 0 where
  open_bracket open_dot open_negation : ℕ → Frame
  open_binding : Binder → List ℕ → Option SimpleType → ℕ → Frame
  open_side : Infix → RawFormula → Frame
  open_application : RawFormula → Frame

-- how tightly the operand has to bind; none goes past a bracket
abbrev pub wanted_rank : Frame → ℕ
wanted_rank (open_bracket place) = 0
wanted_rank (open_dot place) = 1
wanted_rank (open_negation place) = 5
wanted_rank (open_binding b name ty place) = 5
wanted_rank (open_side op left) = right_rank op
wanted_rank (open_application f) = 7

-- the raw formula with its operand
abbrev pub filled : Frame → RawFormula → RawFormula
filled (open_bracket place) v = moved place v
filled (open_dot place) v = moved place v
filled (open_negation place) v = raw_negation v place
filled (open_binding b name ty place) v = raw_binding b name ty v place
filled (open_side op left) v = raw_connective op left v (place_of left)
filled (open_application f) v = raw_application f v (place_of f)

-- each frame whose operand binds tighter than this takes it
abbrev pub settled : ℕ → List Frame → RawFormula → List Frame × RawFormula
settled least [] v = ([], v)
settled least (f ∷ fs) v = if nat_lt least (wanted_rank f) then settled least fs (filled f v) else (f ∷ fs, v)

-- what a written type is for: a variable with its place, a variable of a binder, or a quantifier alone with the place of its bracket
pub data Target : Type 0 where
  for_variable : List ℕ → ℕ → Target
  for_binding : Binder → List ℕ → ℕ → Target
  for_quantifier : Binder → ℕ → Target

-- What was read last: an operand is wanted, or was read; a name whose type may follow; a binder; a binder with a name whose type may
-- follow; a written type that isn't closed, with its innermost part and the parts around it; or a constant that is to be closed by
-- a bracket.
pub data Mode : Type 0 where
  wanting : Mode
  having : RawFormula → Mode
  naming : List ℕ → ℕ → Mode
  binding : Binder → ℕ → Mode
  binding_name : Binder → List ℕ → ℕ → Mode
  typing : Target → Option SimpleType → List (Option SimpleType) → Mode
  ending : Constant → ℕ → Mode

abbrev pub State : Type 0
State = List Frame × Mode

-- the frame waits for an operand
abbrev pub waiting : Frame → List Frame → State
waiting f fs = (f ∷ fs, wanting)

-- an atom is applied at once
abbrev pub with_atom : List Frame → RawFormula → State
with_atom fs v = ((settled 6 fs v).0, having (settled 6 fs v).1)

-- a constant that a bracket is to close
abbrev pub to_end : Option Constant → List Frame → ℕ → Option State
to_end None fs place = None
to_end (Some con) fs place = Some (fs, ending con place)

-- the place of an open bracket
abbrev pub bracket_place : Frame → Option ℕ
bracket_place (open_bracket place) = Some place
bracket_place (open_dot place) = None
bracket_place (open_negation place) = None
bracket_place (open_binding b name ty place) = None
bracket_place (open_side op left) = None
bracket_place (open_application f) = None

-- the place of the innermost frame, where it is an open bracket, and what is around it
abbrev pub opened : List Frame → Option (ℕ × List Frame)
opened [] = None
opened (f ∷ fs) = option_map (λ place. (place, fs)) (bracket_place f)

-- a connective in brackets of its own
abbrev pub lone_connective : Infix → List Frame → Option State
lone_connective op [] = None
lone_connective op (open_bracket place ∷ fs) = to_end (infix_constant op) fs place
lone_connective op (open_dot place ∷ fs) = None
lone_connective op (open_negation place ∷ fs) = None
lone_connective op (open_binding b name ty place ∷ fs) = None
lone_connective op (open_side joint left ∷ fs) = None
lone_connective op (open_application f ∷ fs) = None

-- a bracket that closes what stands directly inside an open one
abbrev pub in_bracket : Constant → List Frame → Option State
in_bracket con [] = None
in_bracket con (open_bracket place ∷ fs) = Some (with_atom fs (raw_constant con place))
in_bracket con (open_dot place ∷ fs) = None
in_bracket con (open_negation place ∷ fs) = None
in_bracket con (open_binding b name ty place ∷ fs) = None
in_bracket con (open_side joint left ∷ fs) = None
in_bracket con (open_application f ∷ fs) = None

-- `~` in brackets of its own
abbrev pub lone_negation : List Frame → Option State
lone_negation [] = None
lone_negation (open_bracket place ∷ fs) = None
lone_negation (open_dot place ∷ fs) = None
lone_negation (open_negation place ∷ fs) = in_bracket negation fs
lone_negation (open_binding b name ty place ∷ fs) = None
lone_negation (open_side joint left ∷ fs) = None
lone_negation (open_application f ∷ fs) = None

-- where an operand is wanted
abbrev pub want : List Frame → Role → ℕ → Option State
want fs (a_name name) place = Some (fs, naming name place)
want fs (a_truth value) place = Some (with_atom fs (raw_constant (truth_constant value) place))
want fs (a_binder b) place = Some (fs, binding b place)
want fs (an_infix op) place = lone_connective op fs
want fs an_opening place = Some (open_bracket place ∷ fs, wanting)
want fs a_closing place = lone_negation fs
want fs a_dot place = Some (open_dot place ∷ fs, wanting)
want fs a_tilde place = Some (open_negation place ∷ fs, wanting)
want fs a_parenthesis place = None
want fs another place = None

-- the innermost group is whole
abbrev pub group_end : List Frame → RawFormula → Option State
group_end [] v = None
group_end (open_bracket place ∷ fs) v = Some (with_atom fs (moved place v))
group_end (open_dot place ∷ fs) v = None
group_end (open_negation place ∷ fs) v = None
group_end (open_binding b name ty place ∷ fs) v = None
group_end (open_side joint left ∷ fs) v = None
group_end (open_application f ∷ fs) v = None

abbrev pub with_side : Infix → List Frame × RawFormula → State
with_side op left = (open_side op left.1 ∷ left.0, wanting)

-- after an operand
abbrev pub have : List Frame → RawFormula → Role → ℕ → Option State
have fs v (a_name name) place = want (open_application v ∷ fs) (a_name name) place
have fs v (a_truth value) place = want (open_application v ∷ fs) (a_truth value) place
have fs v (a_binder b) place = None
have fs v (an_infix op) place = Some (with_side op (settled (infix_rank op) fs v))
have fs v an_opening place = want (open_application v ∷ fs) an_opening place
have fs v a_closing place = group_end (settled 0 fs v).0 (settled 0 fs v).1
have fs v a_dot place = want (open_application v ∷ fs) a_dot place
have fs v a_tilde place = None
have fs v a_parenthesis place = None
have fs v another place = None

-- a type that is whole
abbrev pub type_end : List Frame → Target → SimpleType → Option State
type_end fs (for_variable name place) ty = Some (with_atom fs (raw_variable name (Some ty) place))
type_end fs (for_binding b name place) ty = Some (open_binding b name (Some ty) place ∷ fs, wanting)
type_end fs (for_quantifier b place) ty = to_end (quantifier_constant b ty) fs place

-- a parenthesis closes a part of a type
abbrev pub part_end : List Frame → Target → SimpleType → List (Option SimpleType) → Option State
part_end fs target ty [] = type_end fs target ty
part_end fs target ty (outer ∷ around) = Some (fs, typing target (Some (joined outer ty)) around)

abbrev pub parenthesis_end : List Frame → Target → Option SimpleType → List (Option SimpleType) → Option State
parenthesis_end fs target None around = None
parenthesis_end fs target (Some ty) around = part_end fs target ty around

abbrev pub letters_step : List Frame → Target → Option SimpleType → List (Option SimpleType) → List ℕ → Option State
letters_step fs target part around w = if is_letters w then Some (fs, typing target (with_letters part w) around) else None

-- in a written type
abbrev pub type_step : List Frame → Target → Option SimpleType → List (Option SimpleType) → Sign → Option State
type_step fs target part around open_square = None
type_step fs target part around close_square = None
type_step fs target part around open_round = Some (fs, typing target None (part ∷ around))
type_step fs target part around close_round = parenthesis_end fs target part around
type_step fs target part around dot = None
type_step fs target part around tilde = None
type_step fs target part around semicolon = None
type_step fs target part around (number n) = None
type_step fs target part around (word w) = letters_step fs target part around w

-- the written type of a quantifier in brackets of its own
abbrev pub quantifier_type : Binder → List Frame → Option State
quantifier_type b [] = None
quantifier_type binder.Forall (open_bracket place ∷ fs) = Some (fs, typing (for_quantifier binder.Forall place) None [])
quantifier_type binder.Exists (open_bracket place ∷ fs) = Some (fs, typing (for_quantifier binder.Exists place) None [])
quantifier_type binder.Lambda (open_bracket place ∷ fs) = None
quantifier_type b (open_dot place ∷ fs) = None
quantifier_type b (open_negation place ∷ fs) = None
quantifier_type b (open_binding c name ty place ∷ fs) = None
quantifier_type b (open_side joint left ∷ fs) = None
quantifier_type b (open_application f ∷ fs) = None

-- after a binder
abbrev pub bind : List Frame → Binder → ℕ → Role → Option State
bind fs b here (a_name name) = Some (fs, binding_name b name here)
bind fs b here (a_truth value) = None
bind fs b here (a_binder c) = None
bind fs b here (an_infix op) = None
bind fs b here an_opening = None
bind fs b here a_closing = None
bind fs b here a_dot = None
bind fs b here a_tilde = None
bind fs b here a_parenthesis = quantifier_type b fs
bind fs b here another = None

-- after a name, whose type may follow
abbrev pub is_parenthesis : Role → Bool
is_parenthesis a_parenthesis = true
is_parenthesis role = false

abbrev pub after_name : List Frame → List ℕ → ℕ → Role → ℕ → Option State
after_name fs name here role place =
    if is_parenthesis role then Some (fs, typing (for_variable name here) None [])
    else have (settled 6 fs (raw_variable name None here)).0 (settled 6 fs (raw_variable name None here)).1 role place

-- after a binder and a name, whose type may follow
abbrev pub after_bound : List Frame → Binder → List ℕ → ℕ → Role → ℕ → Option State
after_bound fs b name here role place =
    if is_parenthesis role then Some (fs, typing (for_binding b name here) None []) else want (open_binding b name None here ∷ fs) role place

-- after a constant in brackets of its own
abbrev pub is_closing : Role → Bool
is_closing a_closing = true
is_closing role = false

abbrev pub constant_end : List Frame → Constant → ℕ → Role → Option State
constant_end fs con here role = if is_closing role then Some (with_atom fs (raw_constant con here)) else None

-- one token more, `None` where none such may follow
abbrev pub step : State → Token → Option State
step (fs, wanting) (token s place long) = want fs (role_of s) place
step (fs, having v) (token s place long) = have fs v (role_of s) place
step (fs, naming name here) (token s place long) = after_name fs name here (role_of s) place
step (fs, binding b here) (token s place long) = bind fs b here (role_of s)
step (fs, binding_name b name here) (token s place long) = after_bound fs b name here (role_of s) place
step (fs, typing target part around) (token s place long) = type_step fs target part around s
step (fs, ending con here) (token s place long) = constant_end fs con here (role_of s)

-- the state after tokens
abbrev pub run : List Token → Option State → Option State
run [] state = state
run (t ∷ ts) None = None
run (t ∷ ts) (Some state) = run ts (step state t)

-- the phrase, where all groups are closed
abbrev pub whole : List Frame × RawFormula → Option RawFormula
whole ([], v) = Some v
whole ((f ∷ fs), v) = None

abbrev pub finish : State → Option RawFormula
finish (fs, wanting) = None
finish (fs, having v) = whole (settled 0 fs v)
finish (fs, naming name here) = whole (settled 0 fs (raw_variable name None here))
finish (fs, binding b here) = None
finish (fs, binding_name b name here) = None
finish (fs, typing target part around) = None
finish (fs, ending con here) = None

-- the phrase that the tokens are
abbrev pub finish_in : Option State → Option RawFormula
finish_in None = None
finish_in (Some state) = finish state

abbrev pub begun : State
begun = ([], wanting)

abbrev pub parsed : List Token → Option RawFormula
parsed ts = finish_in (run ts (Some begun))
