-- A search for values that fit a circuit.
use Rattle.std.specs.Prelude.{ℕ, ◌<◌, ◌≤◌, List, length, Bool, false, slice_get, slice_index_or, ◌≡◌, Some, None}
use Rattle.std.specs.declared.option.Option.{Option}
use Rattle.rulep_decide.specs.declared.trails.Trail.{Trail}
use Rattle.rulep_decide.specs.declared.search.Outcome.{Outcome}
use Rattle.rulep_decide.specs.declared.search.Outcome.TheVariants.{Model, Split, Refuted}
use Rattle.rulep_decide.specs.declared.search.Advanced.{Advanced}
use Rattle.rulep_decide.specs.declared.search.Advanced.TheVariants.{Found, Further, NoneFits}
use Rattle.rulep_decide.specs.Circuits.{Node, atom, always, opposite, both, demand, IsCircuit, IsValuation}
use Rattle.rulep_decide.specs.Trails.{steps_of, IsTrail, IsSound, Refutes, turns_left}

-- a trail for the nodes, each step of which is decided or forced
pub record IsGood (nodes : List Node) (trail : Trail) : Type 0 where
  pub circuit : IsCircuit nodes
  pub table : IsTrail trail
  pub count : length trail.values.items ≡ length nodes
  pub sound : IsSound nodes (steps_of trail)

-- forced steps were added
pub record Grows (nodes : List Node) (old new : Trail) : Type 0 where
  pub good : IsGood nodes new
  pub longer : length (steps_of old) ≤ length (steps_of new)
  pub turns : turns_left (length nodes) (steps_of new) ≤ turns_left (length nodes) (steps_of old)

-- a step of the search is one of finitely many
pub record Advances (nodes : List Node) (old new : Trail) : Type 0 where
  pub good : IsGood nodes new
  pub fewer : turns_left (length nodes) (steps_of new) < turns_left (length nodes) (steps_of old)

-- the values of a list by their places, false beyond it
abbrev pub assigned : List Bool → ℕ → Bool
assigned values i = slice_index_or values i false

-- the values keep those of the table
abbrev pub Keeps : List (Option Bool) → List Bool → Type 0
Keeps table values = (i : ℕ) (b : Bool) → i < length values → slice_get table i ≡ Some (Some b) → assigned values i ≡ b

abbrev pub IsKnown : List (Option Bool) → ℕ → Type 0
IsKnown table i = (b : Bool) × (slice_get table i ≡ Some (Some b))

-- the values on which it depends whether node i fits
abbrev pub AreKnown : List (Option Bool) → ℕ → Node → Type 0
AreKnown table i (atom a) = Unit {0}
AreKnown table i always = IsKnown table i
AreKnown table i (opposite j) = IsKnown table i × IsKnown table j
AreKnown table i (both j k) = IsKnown table i × IsKnown table j × IsKnown table k
AreKnown table i (demand j b) = IsKnown table i × IsKnown table j

-- values that fit all nodes, a node without a value to be decided, or none that agree with the trail
abbrev pub IsOutcome : List Node → Trail → Outcome → Type 0
IsOutcome nodes trail (Model values) = (length values.items ≡ length nodes) × IsValuation (assigned values.items) nodes
IsOutcome nodes trail (Split literal) = slice_get trail.values.items literal.node ≡ Some None
IsOutcome nodes trail Refuted = Refutes nodes (steps_of trail)

-- values that fit all nodes were found, the search went on, or none fit
abbrev pub IsAdvance : List Node → Trail → Trail → Advanced → Type 0
IsAdvance nodes old new (Found values) = (length values.items ≡ length nodes) × IsValuation (assigned values.items) nodes
IsAdvance nodes old new Further = Advances nodes old new
IsAdvance nodes old new NoneFits = (w : ℕ → Bool) → IsValuation w nodes → ⊥
