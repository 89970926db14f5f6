-- A variable that is free in some of a list of lines.
use Rattle.std.specs.Prelude.{◌≡◌, ℕ, List, ◌∷◌, ◌++◌, All}
use Rattle.hol_terms.specs.Terms.{SimpleType}
use Rattle.hol_terms.specs.FreeVariables.{IsFree}
use Rattle.nd_rules.specs.Lines.{DeductionLine, IsLine}

-- the variable is free in line n
abbrev pub IsFreeAt : List DeductionLine → DeductionLine → List ℕ → SimpleType → ℕ → Type 0
IsFreeAt lines l a s n = (m : DeductionLine) × IsLine lines l n m × IsFree a s m.formula

-- k is the first number of the list for which P holds
pub record IsFirstOf (P : ℕ → Type 0) (numbers : List ℕ) (k : ℕ) : Type 0 where
  pub before : List ℕ
  pub after : List ℕ
  pub split : numbers ≡ before ++ k ∷ after
  pub none_before : All (λ n. P n → ⊥) before
  pub holds : P k
