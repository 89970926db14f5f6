-- The types of known names, as a set of names tells them.
use Rattle.std.specs.Prelude.{ℕ, ◌<◌, List, length, get_or, slice_get, Some, None, ◌≡◌}
use Rattle.std.specs.Option.{option_map}
use Rattle.hol_terms.specs.Terms.{SimpleType, truth_type, Variable}
use Rattle.type_infer.specs.Annotations.{known_type}

abbrev pub type_beside : Variable → SimpleType
type_beside v = v.1

-- the set has the names, each with the type O; the place of each is that of the first variable of the name
pub record TellsKnown (known set : List Variable) (places : List ℕ) : Type 0 where
  pub as_many : length places ≡ length set
  pub inside : (m : ℕ) → m < length places → get_or places m 0 < length known
  pub marked : (m : ℕ) (v : Variable) → slice_get set m ≡ Some v → v.1 ≡ truth_type
  pub there : (m : ℕ) (v : Variable) → slice_get set m ≡ Some v → known_type known v.0 ≡ option_map type_beside (slice_get known (get_or places m 0))
  pub none : (name : List ℕ) → ((m : ℕ) → slice_get set m ≡ Some (name, truth_type) → ⊥) → known_type known name ≡ None
