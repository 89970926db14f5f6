-- How a name with its written type is read token by token.
use Rattle.std.specs.Prelude.{ℕ, ◌+◌, ◌-◌, nat_eq, Bool, true, false, if◌then◌else◌, List, [], ◌∷◌, encode_utf8_all, is_some, Option, Some, None}
use Rattle.core_text.specs.Words.{is_name}
use Rattle.tps_reader.specs.Grammar.{is_letters}
use Rattle.tps_reader.specs.Tokens.{Sign, open_square, close_square, open_round, close_round, dot, tilde, semicolon, number, word, Token, sign_of}
use Rattle.script_text.specs.declared.variables.Reading.{Reading}
use Rattle.script_text.specs.declared.variables.Reading.TheVariants as reading

-- the name that a token says
abbrev pub name_in : Sign → Option (List ℕ)
name_in open_square = None
name_in close_square = None
name_in open_round = None
name_in close_round = None
name_in dot = None
name_in tilde = None
name_in semicolon = None
name_in (number n) = None
name_in (word w) = if is_name (encode_utf8_all w) then Some w else None

abbrev pub after_nothing : Sign → Option Reading
after_nothing s = if is_some (name_in s) then Some reading.Bare else None

abbrev pub after_bare : Sign → Option Reading
after_bare open_square = None
after_bare close_square = None
after_bare open_round = Some (reading.Within 0 false)
after_bare close_round = None
after_bare dot = None
after_bare tilde = None
after_bare semicolon = None
after_bare (number n) = None
after_bare (word w) = None

-- a part of the type is closed
abbrev pub part_closed : ℕ → Bool → Option Reading
part_closed around false = None
part_closed around true = if nat_eq around 0 then Some reading.Closed else Some (reading.Within (around - 1) true)

abbrev pub after_within : ℕ → Bool → Sign → Option Reading
after_within around filled open_square = None
after_within around filled close_square = None
after_within around filled open_round = Some (reading.Within (around + 1) false)
after_within around filled close_round = part_closed around filled
after_within around filled dot = None
after_within around filled tilde = None
after_within around filled semicolon = None
after_within around filled (number n) = None
after_within around filled (word w) = if is_letters w then Some (reading.Within around true) else None

-- one token more, `None` where none such may follow
abbrev pub read_next : Reading → Sign → Option Reading
read_next reading.NoName s = after_nothing s
read_next reading.Bare s = after_bare s
read_next (reading.Within around filled) s = after_within around filled s
read_next reading.Closed s = None

abbrev pub read_on : List Token → Option Reading → Option Reading
read_on [] state = state
read_on (t ∷ ts) None = None
read_on (t ∷ ts) (Some state) = read_on ts (read_next state (sign_of t))

abbrev pub is_whole : Reading → Bool
is_whole reading.NoName = false
is_whole reading.Bare = true
is_whole (reading.Within around filled) = false
is_whole reading.Closed = true

abbrev pub whole_in : Option Reading → Bool
whole_in None = false
whole_in (Some state) = is_whole state
