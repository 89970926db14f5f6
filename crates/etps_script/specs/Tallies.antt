-- How the variables of an outline are collected.
use Rattle.std.specs.Prelude.{◌≡◌, ◌⊎◌, List, ◌∷◌, [], ◌++◌, Bool, true, false, ℕ, Contains}
use Rattle.hol_terms.specs.FreeVariables.{IsFree}
use Rattle.hol_terms.specs.Terms.{SimpleType, Term, Variable, truth_type}
use Rattle.nd_rules.specs.Lines.{DeductionLine}
use Rattle.etps_script.specs.Known.{IsFreeIn}

-- the new list holds one variable more, if it wasn't there
pub record IsGained (old new : List Variable) (v : Variable) : Type 0 where
  pub kept : (w : Variable) → Contains old w → Contains new w
  pub gained : Contains new v
  pub only : (w : Variable) → Contains new w → Contains old w ⊎ (w ≡ v)

-- the name is put into a set of names where that is asked
abbrev pub IsMarked : List Variable → List Variable → Bool → List ℕ → Type 0
IsMarked old new true name = IsGained old new (name, truth_type)
IsMarked old new false name = new ≡ old

-- the new list holds the free variables of a term too
pub record GainsFree (old new : List Variable) (t : Term) : Type 0 where
  pub kept : (name : List ℕ) (s : SimpleType) → Contains old (name, s) → Contains new (name, s)
  pub gained : (name : List ℕ) (s : SimpleType) → IsFree name s t → Contains new (name, s)
  pub only : (name : List ℕ) (s : SimpleType) → Contains new (name, s) → Contains old (name, s) ⊎ IsFree name s t

-- the list holds exactly the variables that are free in the formulas of the lines
pub record AreFreeIn (lines : List DeductionLine) (variables : List Variable) : Type 0 where
  pub free : (name : List ℕ) (s : SimpleType) → Contains variables (name, s) → IsFreeIn lines name s
  pub all : (name : List ℕ) (s : SimpleType) → IsFreeIn lines name s → Contains variables (name, s)

-- the list holds such variables, and all but those of the lines that are left
pub record AreFreeBefore (lines rest : List DeductionLine) (variables : List Variable) : Type 0 where
  pub free : (name : List ℕ) (s : SimpleType) → Contains variables (name, s) → IsFreeIn lines name s
  pub left : (name : List ℕ) (s : SimpleType) → IsFreeIn rest name s → IsFreeIn lines name s
  pub all : (name : List ℕ) (s : SimpleType) → IsFreeIn lines name s → Contains variables (name, s) ⊎ IsFreeIn rest name s

-- the names of the variables, and those that variables of different types share; a name stands as a variable of type O
pub record AreTallied (variables names shared : List Variable) : Type 0 where
  pub named : (name : List ℕ) (s : SimpleType) → Contains variables (name, s) → Contains names (name, truth_type)
  pub some_type : (name : List ℕ) → Contains names (name, truth_type) → (s : SimpleType) × Contains variables (name, s)
  pub two_types : (name : List ℕ) → Contains shared (name, truth_type)
      → (s : SimpleType) × (r : SimpleType) × Contains variables (name, s) × Contains variables (name, r) × (s ≡ r → ⊥)
  pub one_type : (name : List ℕ) → (Contains shared (name, truth_type) → ⊥) → (s r : SimpleType) → Contains variables (name, s) → Contains variables (name, r) → s ≡ r

-- the variable is added unless its name is in the set
pub record IsKept (shared old new : List Variable) (v : Variable) : Type 0 where
  pub out : Contains shared (v.0, truth_type) → new ≡ old
  pub put : (Contains shared (v.0, truth_type) → ⊥) → new ≡ old ++ v ∷ []

-- the known variables are those whose names aren't in the set
pub record AreUnshared (shared variables known : List Variable) : Type 0 where
  pub there : (v : Variable) → Contains known v → Contains variables v
  pub apart : (v : Variable) → Contains known v → Contains shared (v.0, truth_type) → ⊥
  pub all : (v : Variable) → Contains variables v → (Contains shared (v.0, truth_type) → ⊥) → Contains known v

-- the list begins with the first one
abbrev pub IsBeginning : List Variable → List Variable → Type 0
IsBeginning first whole = (more : List Variable) × (whole ≡ first ++ more)

-- the known variables are those whose name is among the variables at one type only
pub record AreAtOneType (variables known : List Variable) : Type 0 where
  pub there : (name : List ℕ) (s : SimpleType) → Contains known (name, s) → Contains variables (name, s)
  pub only : (name : List ℕ) (s r : SimpleType) → Contains known (name, s) → Contains variables (name, r) → r ≡ s
  pub all : (name : List ℕ) (s : SimpleType) → Contains variables (name, s) → ((r : SimpleType) → Contains variables (name, r) → r ≡ s) → Contains known (name, s)
