-- Trees that some mating makes proofs.
use Rattle.std.specs.Prelude.{◌<◌, ◌≤◌, ℕ, List, All, Bool, Contains}
use Rattle.hol_terms.specs.Terms.{Term}
use Rattle.hol_terms.specs.Truth.{IsAtom, IsTautology}
use Rattle.dependency.specs.Dependencies.{IsAcyclic}
use Rattle.expansion_tree.specs.Faults.{IsTree}
use Rattle.expansion_tree.specs.Occurrences.{occurrences_of}
use Rattle.expansion_tree.specs.Standing.{Standing, deep_formula, leaves, paths, selections}
use Rattle.expansion_tree.specs.Trees.{ExpansionTree}
use Rattle.vertical_paths.specs.Matings.{IsGood, Spans}

-- The tree is an expansion tree of the formula with atoms at its leaves, no occurrence depends on itself in a circle, and its deep formula
-- is a tautology: so the mating of all its good pairs spans.
pub record CanBeMated (formula : Term) (tree : ExpansionTree) : Type 0 where
  pub standing : Standing
  pub is_tree : IsTree formula tree standing
  pub atoms : All (λ (leaf : Bool × Term). IsAtom leaf.1) (leaves standing)
  pub acyclic : IsAcyclic (occurrences_of tree) (selections standing)
  pub tautology : IsTautology (deep_formula standing)

-- the mating has good pairs of the formula's tree alone, and spans
pub record IsSpannedBy (formula : Term) (tree : ExpansionTree) (mating : List (ℕ × ℕ)) : Type 0 where
  pub standing : Standing
  pub is_tree : IsTree formula tree standing
  pub good : All (IsGood (leaves standing)) mating
  pub spans : Spans mating (paths standing)

-- the second mating has the pairs of the first one, no other pairs but good ones, and each good pair of leaf i with one from low on and
-- below high
pub record HasPairs (leaves : List (Bool × Term)) (i low high : ℕ) (old new : List (ℕ × ℕ)) : Type 0 where
  pub good : All (IsGood leaves) old → All (IsGood leaves) new
  pub kept : (pair : ℕ × ℕ) → Contains old pair → Contains new pair
  pub all : (j : ℕ) → low ≤ j → j < high → IsGood leaves (i, j) → Contains new (i, j)
