-- The dependency relation of the occurrences of an expansion tree, and the orders that keep it. After Miller 1987.
use Rattle.std.specs.Prelude.{◌≡◌, ◌-◌, ◌<◌, ◌≤◌, ℕ, ◌==◌, if◌then◌else◌, List, All, Contains, length, nat_eq, Option, Some, None, slice_get}
use Rattle.std.specs.List.{IsDistinct}
use Rattle.hol_terms.specs.FreeVariables.{IsFree}
use Rattle.expansion_tree.specs.Occurrences.{Occurrence}
use Rattle.expansion_tree.specs.Standing.{Selection}
use Rattle.dependency.specs.Graphs.{IsClosedChain, StandsInOrder}

-- the occurrence of a number, from 1
abbrev pub occurrence_at : List Occurrence → ℕ → Option Occurrence
occurrence_at occurrences e = if e == 0 then None else slice_get occurrences (e - 1)

-- the node stands in the tree of the occurrence's branch
abbrev pub IsNodeOf : ℕ → Occurrence → Type 0
IsNodeOf node o = (o.first ≤ node) × (node ≤ o.last)

-- occurrence e is directly before occurrence f: some variable selected below e is free in the term of f
pub record Before (occurrences : List Occurrence) (selections : List Selection) (e f : ℕ) : Type 0 where
  pub upper : Occurrence
  pub is_upper : occurrence_at occurrences e ≡ Some upper
  pub later : Occurrence
  pub is_later : occurrence_at occurrences f ≡ Some later
  pub selection : Selection
  pub selected : Contains selections selection
  pub below : IsNodeOf selection.node upper
  pub used : IsFree selection.variable.0 selection.variable.1 later.term

-- occurrence f lies below occurrence e: its branch stands in the tree of the branch of e
pub record Below (occurrences : List Occurrence) (e f : ℕ) : Type 0 where
  pub upper : Occurrence
  pub is_upper : occurrence_at occurrences e ≡ Some upper
  pub inner : Occurrence
  pub is_inner : occurrence_at occurrences f ≡ Some inner
  pub starts : upper.first < inner.first
  pub ends : inner.last ≤ upper.last

-- no closed chain of occurrences, each directly before the next
abbrev pub IsAcyclic : List Occurrence → List Selection → Type 0
IsAcyclic occurrences selections = (chain : List ℕ) → IsClosedChain (Before occurrences selections) chain → ⊥

-- all occurrences, each once, before those that it is directly before and before those below it
pub record IsOrder (occurrences : List Occurrence) (selections : List Selection) (order : List ℕ) : Type 0 where
  pub numbers : All (λ e. (1 ≤ e) × (e ≤ length occurrences)) order
  pub all : (e : ℕ) → 1 ≤ e → e ≤ length occurrences → Contains order e
  pub once : IsDistinct nat_eq order
  pub before : StandsInOrder (Before occurrences selections) order
  pub below : StandsInOrder (Below occurrences) order
