-- The open terms among those that were found at expansion nodes.
use Rattle.std.specs.Prelude.{ℕ, ◌==◌, List, map, filter, drop, Bool}
use Rattle.std.specs.List.{list_any}
use Rattle.refutations.specs.declared.nodes.Front.{Front}
use Rattle.refutations.specs.Opens.{Open, open_term}

-- the occurrence stands in the order at this place or after it
abbrev pub is_waiting : List ℕ → ℕ → ℕ → Bool
is_waiting order done e = list_any (λ k. k == e) (drop done order)

-- the terms whose turn isn't over, of those that were found, each with the number of its occurrence
abbrev pub terms_of : List ℕ → ℕ → List (ℕ × Front) → List Open
terms_of order done entries = map (λ (entry : ℕ × Front). open_term entry.1) (filter (λ (entry : ℕ × Front). is_waiting order done entry.0) entries)
