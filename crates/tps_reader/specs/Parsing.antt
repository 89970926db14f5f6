-- Where reading token by token stops.
use Rattle.std.specs.Prelude.{◌≡◌, ◌⊎◌, ◌++◌, ◌∷◌, ℕ, List, Some, None}
use Rattle.tps_reader.specs.Machine.{State, begun, finish, run, step}
use Rattle.tps_reader.specs.Tokens.{Sign, Token, token}
use Rattle.tps_reader.specs.declared.faults.RawFault.{RawFault}
use Rattle.tps_reader.specs.declared.faults.RawFault.TheVariants.{NotUtf8, BadCharacter, TooDeep, Unexpected, Memory}

-- reading stops at a token
pub record DiesAt (ts : List Token) (place : ℕ) : Type 0 where
  pub before : List Token
  pub s : Sign
  pub long : ℕ
  pub after : List Token
  pub state : State
  pub parts : ts ≡ before ++ (token s place long ∷ after)
  pub runs : run before (Some begun) ≡ Some state
  pub dies : step state (token s place long) ≡ None

-- all tokens are read, and they are no whole phrase
pub record EndsEarly (ts : List Token) : Type 0 where
  pub state : State
  pub runs : run ts (Some begun) ≡ Some state
  pub open_end : finish state ≡ None

abbrev pub IsParseFault : List Token → ℕ → RawFault → Type 0
IsParseFault ts last NotUtf8 = ⊥
IsParseFault ts last (BadCharacter place) = ⊥
IsParseFault ts last (TooDeep depth) = ⊥
IsParseFault ts last (Unexpected place) = DiesAt ts place ⊎ ((place ≡ last) × EndsEarly ts)
IsParseFault ts last Memory = Unit {0}
