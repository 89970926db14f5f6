-- Expansion trees whose branches are added one after the other, each at a step. After Miller 1987.
use Rattle.std.specs.Prelude.{◌<◌, ◌≤◌, ℕ, List, [], ◌∷◌, ◌++◌, Bool, All, Contains, map, nat_eq}
use Rattle.std.specs.List.{IsDistinct, sum_by}
use Rattle.hol_terms.specs.Terms.{Term, Variable}
use Rattle.hol_terms.specs.FreeVariables.{IsFree}
use Rattle.expansion_tree.specs.declared.trees.Op.{Op}
use Rattle.expansion_tree.specs.Occurrences.{term_weight}
use Rattle.expansion_tree.specs.Standing.{Standing, at_leaf, at_constant, at_negation, at_connective, at_selection, at_expansion, StandingBranches, none_standing, branch_standing}

-- An expansion tree as it stands at a formula, where each branch has beside its term the step at which it is added.
mutual
  pub data StagedTree : Type 0 where
    staged_leaf : Bool → Term → StagedTree
    staged_constant : Bool → Bool → StagedTree
    staged_negation : StagedTree → StagedTree
    staged_connective : Op → Bool → StagedTree → StagedTree → StagedTree
    staged_selection : Variable → StagedTree → StagedTree
    staged_expansion : Bool → StagedBranches → StagedTree

  pub data StagedBranches : Type 0 where
    none_staged : StagedBranches
    branch_staged : Term → ℕ → StagedTree → StagedBranches → StagedBranches

abbrev mutual
  -- the tree without the steps
  pub standing_of : StagedTree → Standing
  standing_of (staged_leaf p a) = at_leaf p a
  standing_of (staged_constant p v) = at_constant p v
  standing_of (staged_negation g) = at_negation (standing_of g)
  standing_of (staged_connective op p g h) = at_connective op p (standing_of g) (standing_of h)
  standing_of (staged_selection v g) = at_selection v (standing_of g)
  standing_of (staged_expansion p bs) = at_expansion p (standing_branches_of bs)

  pub standing_branches_of : StagedBranches → StandingBranches
  standing_branches_of none_staged = none_standing
  standing_branches_of (branch_staged u step g bs) = branch_standing u (standing_of g) (standing_branches_of bs)

abbrev mutual
  -- the selected variables in the order of their nodes, each with the step of the innermost branch around it, and where there is none
  -- with the step above
  pub staged_variables : ℕ → StagedTree → List (Variable × ℕ)
  staged_variables above (staged_leaf p a) = []
  staged_variables above (staged_constant p v) = []
  staged_variables above (staged_negation g) = staged_variables above g
  staged_variables above (staged_connective op p g h) = staged_variables above g ++ staged_variables above h
  staged_variables above (staged_selection v g) = (v, above) ∷ staged_variables above g
  staged_variables above (staged_expansion p bs) = branch_staged_variables above bs

  pub branch_staged_variables : ℕ → StagedBranches → List (Variable × ℕ)
  branch_staged_variables above none_staged = []
  branch_staged_variables above (branch_staged u step g bs) = staged_variables step g ++ branch_staged_variables above bs

-- how a branch is added: the step of the innermost branch around it, its own step, and its term
pub record Stage : Type 0 where
  pub above : ℕ
  pub step : ℕ
  pub term : Term

abbrev mutual
  -- the stages of the branches in preorder, a branch before those in its tree; what no branch is around has the step above
  pub stages : ℕ → StagedTree → List Stage
  stages above (staged_leaf p a) = []
  stages above (staged_constant p v) = []
  stages above (staged_negation g) = stages above g
  stages above (staged_connective op p g h) = stages above g ++ stages above h
  stages above (staged_selection v g) = stages above g
  stages above (staged_expansion p bs) = branch_stages above bs

  pub branch_stages : ℕ → StagedBranches → List Stage
  branch_stages above none_staged = []
  branch_stages above (branch_staged u step g bs) = record { above = above; step = step; term = u } ∷ stages step g ++ branch_stages above bs

-- the steps of the branches, in preorder
abbrev pub steps_of : StagedTree → List ℕ
steps_of g = map (λ (x : Stage). x.step) (stages 0 g)

-- the weight of a staged tree: that of the terms of its stages
abbrev pub staged_weight : StagedTree → ℕ
staged_weight g = sum_by (λ (x : Stage). term_weight x.term) (stages 0 g)

-- each branch is added after those around it, and after the branches in which the selected variables of its term stand; what stands in
-- no branch is there from the beginning, which is step 0
pub record IsInOrder (g : StagedTree) : Type 0 where
  pub inside : (x : Stage) → Contains (stages 0 g) x → x.above < x.step
  pub used : (x : Stage) (v : Variable) (step : ℕ) → Contains (stages 0 g) x → Contains (staged_variables 0 g) (v, step) → IsFree v.0 v.1 x.term → step < x.step

-- the branches have the steps from 1 to n, each one of them
pub record HasEachStep (n : ℕ) (g : StagedTree) : Type 0 where
  pub numbers : All (λ step. (1 ≤ step) × (step ≤ n)) (steps_of g)
  pub all : (step : ℕ) → 1 ≤ step → step ≤ n → Contains (steps_of g) step
  pub once : IsDistinct nat_eq (steps_of g)
