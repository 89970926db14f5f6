-- Conditions as cells and pairs of numbers that are to be the same.
use Rattle.std.specs.Prelude.{ℕ, ◌<◌, ◌≤◌, List, [], ◌∷◌, length, get_or, slice_get, Some, ◌≡◌}
use Rattle.hol_terms.specs.Terms.{SimpleType, truth_type, Variable}
use Rattle.type_infer.specs.declared.cells.Cell.{Cell}
use Rattle.type_infer.specs.Cells.{Models, IsStore, AgreeBelow}
use Rattle.type_infer.specs.Conditions.{PlainEquation, is_type, is_named, is_given, is_function, PlainCondition, MeetsAll}
use Rattle.type_infer.specs.Merging.{AreBelow, AllSame}

-- all numbers of the equation are below n
abbrev pub IsWithin : ℕ → PlainEquation → Type 0
IsWithin n (is_type i j) = (i < n) × (j < n)
IsWithin n (is_named i name) = i < n
IsWithin n (is_given i s) = i < n
IsWithin n (is_function i j k) = (i < n) × (j < n) × (k < n)

abbrev pub AreWithin : ℕ → List PlainCondition → Type 0
AreWithin n [] = Unit {0}
AreWithin n (condition ∷ conditions) = IsWithin n condition.1 × AreWithin n conditions

-- the number that is kept with each name has the name's type
abbrev pub NamesAgree : (List ℕ → SimpleType) → (ℕ → SimpleType) → List Variable → List ℕ → Type 0
NamesAgree names types set firsts = (m : ℕ) (v : Variable) → slice_get set m ≡ Some v → types (get_or firsts m 0) ≡ names v.0

-- the cells and the pairs say what the conditions say of the numbers below count; the names of the set are kept with the type O
pub record IsLoaded (count : ℕ) (conditions : List PlainCondition) (cells : List Cell) (pending : List (ℕ × ℕ)) (set : List Variable) (firsts : List ℕ) : Type 0 where
  pub store : IsStore cells
  pub enough : count ≤ length cells
  pub below : AreBelow (length cells) pending
  pub as_many : length firsts ≡ length set
  pub firsts_inside : (m : ℕ) → m < length firsts → get_or firsts m 0 < length cells
  pub marked : (m : ℕ) (v : Variable) → slice_get set m ≡ Some v → v.1 ≡ truth_type
  pub named : (types : ℕ → SimpleType) → (names : List ℕ → SimpleType) × NamesAgree names types set firsts
  pub keeps : (names : List ℕ → SimpleType) (types : ℕ → SimpleType) → NamesAgree names types set firsts → Models types cells → AllSame types pending → MeetsAll names types conditions
  pub goes_on : (names : List ℕ → SimpleType) (types : ℕ → SimpleType) → MeetsAll names types conditions
      → (others : ℕ → SimpleType) × AgreeBelow count others types × NamesAgree names others set firsts × Models others cells × AllSame others pending
