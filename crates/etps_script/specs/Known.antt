-- The names that the lines of an outline know.
use Rattle.std.specs.Prelude.{◌≡◌, ◌⊎◌, ℕ, List, [], ◌∷◌, Contains}
use Rattle.hol_terms.specs.FreeVariables.{IsFree}
use Rattle.hol_terms.specs.Terms.{SimpleType, Variable}
use Rattle.nd_rules.specs.Lines.{DeductionLine}

-- the variable is free in the formula of one of the lines
abbrev pub IsFreeIn : List DeductionLine → List ℕ → SimpleType → Type 0
IsFreeIn [] name s = ⊥
IsFreeIn (l ∷ lines) name s = IsFree name s l.formula ⊎ IsFreeIn lines name s

-- no variable that is free in the formulas of the lines has the name but the one of this type
abbrev pub IsOnlyType : List DeductionLine → List ℕ → SimpleType → Type 0
IsOnlyType lines name s = (r : SimpleType) → IsFreeIn lines name r → r ≡ s

-- the list has exactly the variables whose name is free in the formulas of the lines at one type only
pub record AreKnown (lines : List DeductionLine) (known : List Variable) : Type 0 where
  pub free : (name : List ℕ) (s : SimpleType) → Contains known (name, s) → IsFreeIn lines name s
  pub only : (name : List ℕ) (s : SimpleType) → Contains known (name, s) → IsOnlyType lines name s
  pub all : (name : List ℕ) (s : SimpleType) → IsFreeIn lines name s → IsOnlyType lines name s → Contains known (name, s)
