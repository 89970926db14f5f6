-- What the steps of a check find.
use Rattle.std.specs.Prelude.{◌≡◌, ℕ, List, Some, All, nat_eq}
use Rattle.std.specs.List.{IsDistinct}
use Rattle.hol_terms.specs.Terms.{Term}
use Rattle.expansion_tree.specs.Faults.{IsFirstFault}
use Rattle.expansion_tree.specs.Fitted.{FittedTree}
use Rattle.expansion_tree.specs.Occurrences.{occurrences_of}
use Rattle.expansion_tree.specs.Trees.{ExpansionTree}
use Rattle.vertical_paths.specs.Matings.{IsGood, IsFirstBad, Spans, first_open}
use Rattle.dependency.specs.Graphs.{IsClosedChain}
use Rattle.dependency.specs.Dependencies.{Before, IsAcyclic, IsOrder}
use Rattle.exp_check.specs.declared.faults.CheckFault.{CheckFault}
use Rattle.exp_check.specs.declared.faults.CheckFault.TheVariants.{Memory, Fit, BadPair, Cycle, OpenPath}

-- the tree doesn't fit
abbrev pub IsFirstFitFault : Term → ExpansionTree → CheckFault → Type 0
IsFirstFitFault formula tree Memory = Unit {0}
IsFirstFitFault formula tree (Fit fault) = IsFirstFault formula tree fault
IsFirstFitFault formula tree (BadPair k) = ⊥
IsFirstFitFault formula tree (Cycle chain) = ⊥
IsFirstFitFault formula tree (OpenPath path) = ⊥

-- the occurrences of a fitted tree have no order
abbrev pub IsOrdersFault : FittedTree → CheckFault → Type 0
IsOrdersFault f Memory = Unit {0}
IsOrdersFault f (Fit fault) = ⊥
IsOrdersFault f (BadPair k) = ⊥
IsOrdersFault f (Cycle chain) = IsClosedChain (Before (occurrences_of f.tree) f.selection_list) chain × IsDistinct nat_eq chain
IsOrdersFault f (OpenPath path) = ⊥

-- some path holds no pair
abbrev pub IsPathsFault : FittedTree → List (ℕ × ℕ) → CheckFault → Type 0
IsPathsFault f mating Memory = Unit {0}
IsPathsFault f mating (Fit fault) = ⊥
IsPathsFault f mating (BadPair k) = ⊥
IsPathsFault f mating (Cycle chain) = ⊥
IsPathsFault f mating (OpenPath path) = first_open mating f.path_list ≡ Some path

-- each pair is good, the occurrences have this order, and each path holds a pair
pub record IsJudged (f : FittedTree) (mating : List (ℕ × ℕ)) (order : List ℕ) : Type 0 where
  pub good : All (IsGood f.leaf_list) mating
  pub ordered : IsOrder (occurrences_of f.tree) f.selection_list order
  pub acyclic : IsAcyclic (occurrences_of f.tree) f.selection_list
  pub spans : Spans mating f.path_list

-- the first of these that fails
abbrev pub IsFirstJudged : FittedTree → List (ℕ × ℕ) → CheckFault → Type 0
IsFirstJudged f mating Memory = Unit {0}
IsFirstJudged f mating (Fit fault) = ⊥
IsFirstJudged f mating (BadPair k) = IsFirstBad f.leaf_list mating k
IsFirstJudged f mating (Cycle chain) = All (IsGood f.leaf_list) mating × IsOrdersFault f (Cycle chain)
IsFirstJudged f mating (OpenPath path) =
    All (IsGood f.leaf_list) mating × IsAcyclic (occurrences_of f.tree) f.selection_list × (first_open mating f.path_list ≡ Some path)
