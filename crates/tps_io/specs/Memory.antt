-- What a source and a sink over memory are, and which parts of them no call changes.
use Rattle.std.specs.Prelude.{◌≡◌, ℕ, List}

-- a source: the bytes that are left, how many it gives a call at most, the numbers (from 1) of the
-- calls that fail, how many calls were made, and how many of them failed
pub record Supply : Type 0 where
  pub left : List ℕ
  pub piece : ℕ
  pub failing : List ℕ
  pub calls : ℕ
  pub faults : ℕ

-- a sink: the bytes that it took, how many it takes a call at most and how many in all, and the
-- calls as for a source
pub record Store : Type 0 where
  pub written : List ℕ
  pub piece : ℕ
  pub room : ℕ
  pub failing : List ℕ
  pub calls : ℕ
  pub faults : ℕ

-- what a source gives a call at most, and which of its calls fail, stays
pub record KeepsSupply (old new : Supply) : Type 0 where
  pub piece : new.piece ≡ old.piece
  pub failing : new.failing ≡ old.failing

-- what a sink takes a call and in all at most, and which of its calls fail, stays
pub record KeepsStore (old new : Store) : Type 0 where
  pub piece : new.piece ≡ old.piece
  pub room : new.room ≡ old.room
  pub failing : new.failing ≡ old.failing

-- a reader or a writer of std, and how many of the calls that it was passed failed
pub record Counted (T : Type 0) : Type 0 where
  pub inner : T
  pub faults : ℕ
