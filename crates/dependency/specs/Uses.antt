-- The uses of selected variables in a term.
use Rattle.std.specs.Prelude.{◌≡◌, ◌<◌, ℕ, List, [], ◌∷◌, ◌++◌, length, map, Option, Some, None, slice_index}
use Rattle.hol_terms.specs.Terms.{Term, free, bound, constant, application, abstraction, Variable}
use Rattle.hol_terms.specs.Places.{place_of}
use Rattle.expansion_tree.specs.Occurrences.{Occurrence}
use Rattle.expansion_tree.specs.Standing.{Selection}
use Rattle.dependency.specs.Graphs.{predecessors}
use Rattle.dependency.specs.Dependencies.{occurrence_at}

-- the selected variables alone
abbrev pub variables_of : List Selection → List Variable
variables_of selections = map (λ s. s.variable) selections

-- the number that stands at a place, where there is one
abbrev pub owner_at : List ℕ → Option ℕ → List ℕ
owner_at owners None = []
owner_at owners (Some k) = slice_index owners k ∷ []

-- the numbers of the variables that are free in a term, at each of their occurrences
abbrev pub uses_of : List Variable → List ℕ → Term → List ℕ
uses_of variables owners (free n s) = owner_at owners (place_of (n, s) variables)
uses_of variables owners (bound i) = []
uses_of variables owners (constant c) = []
uses_of variables owners (application f a) = uses_of variables owners f ++ uses_of variables owners a
uses_of variables owners (abstraction s b) = uses_of variables owners b

-- the predecessors of the occurrences that have a row
pub record AreRows (occurrences : List Occurrence) (parents : List ℕ) (variables : List Variable) (owners : List ℕ) (rows : List (List ℕ)) : Type 0 where
  pub root : predecessors rows 0 ≡ []
  pub each : (f : ℕ) (p : Occurrence) → f < length rows → occurrence_at occurrences f ≡ Some p → predecessors rows f ≡ slice_index parents f ∷ uses_of variables owners p.term
