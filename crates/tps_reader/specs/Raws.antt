-- Raw formulas as plain trees, without the pointers that the program's own have.
use Rattle.std.specs.Prelude.{ℕ, List, Option, option_map}
use Rattle.hol_terms.specs.Terms.{SimpleType, Constant, plain_type, plain_constant}
use Rattle.tps_reader.specs.declared.raws.Binder.{Binder}
use Rattle.tps_reader.specs.declared.raws.Infix.{Infix}
use Rattle.tps_reader.specs.declared.raws.Raw.{Raw}
use Rattle.tps_reader.specs.declared.raws.Raw.TheVariants as raw

-- a name with the type written at it, if there is one; a constant; a phrase applied to a phrase; a binder with its variable and its
-- scope; two sides with a connective; a negation. Each ends with the place at which it begins.
pub data RawFormula : Type 0 where
  raw_variable : List ℕ → Option SimpleType → ℕ → RawFormula
  raw_constant : Constant → ℕ → RawFormula
  raw_application : RawFormula → RawFormula → ℕ → RawFormula
  raw_binding : Binder → List ℕ → Option SimpleType → RawFormula → ℕ → RawFormula
  raw_connective : Infix → RawFormula → RawFormula → ℕ → RawFormula
  raw_negation : RawFormula → ℕ → RawFormula

-- the plain tree of a phrase
abbrev pub plain_raw : Raw → RawFormula
plain_raw (raw.Var name ty place) = raw_variable name (option_map plain_type ty) place
plain_raw (raw.Con con place) = raw_constant (plain_constant con) place
plain_raw (raw.App' p f q a place) = raw_application (plain_raw f) (plain_raw a) place
plain_raw (raw.Bind' binder name ty p body place) = raw_binding binder name (option_map plain_type ty) (plain_raw body) place
plain_raw (raw.Bin' op p left q right place) = raw_connective op (plain_raw left) (plain_raw right) place
plain_raw (raw.Not' p below place) = raw_negation (plain_raw below) place

-- the place at which a phrase begins
abbrev pub place_of : RawFormula → ℕ
place_of (raw_variable name ty place) = place
place_of (raw_constant con place) = place
place_of (raw_application f a place) = place
place_of (raw_binding binder name ty body place) = place
place_of (raw_connective op left right place) = place
place_of (raw_negation below place) = place
