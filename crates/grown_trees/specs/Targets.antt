-- How far a search has come towards a proof that lies within its budget.
use Rattle.std.specs.Prelude.{◌≡◌, ◌<◌, ◌≤◌, ℕ, List, Bool, ◌⊎◌, All}
use Rattle.hol_terms.specs.Terms.{Term, Variable}
use Rattle.hol_terms.specs.Truth.{IsTautology}
use Rattle.dependency.specs.Stages.{Stage, StagedTree, staged_leaf, staged_constant, staged_negation, staged_connective, staged_selection, staged_expansion, StagedBranches, none_staged, branch_staged, standing_of, stages, IsInOrder, HasEachStep}
use Rattle.expansion_tree.specs.Budgets.{Head, heads_of, HasVariableHead, IsInSignature, IsSelected, IsFill}
use Rattle.expansion_tree.specs.Faults.{IsTree}
use Rattle.expansion_tree.specs.Standing.{Standing, at_leaf, at_constant, at_negation, at_connective, at_selection, at_expansion, StandingBranches, none_standing, branch_standing, deep_formula, leaves, selected_variables}
use Rattle.expansion_tree.specs.Trees.{ExpansionTree}

-- the branches ms are the branches ns with one more among them: the term u with the tree n
abbrev pub IsInserted : Term → Standing → StandingBranches → StandingBranches → Type 0
IsInserted u n none_standing ms = ms ≡ branch_standing u n none_standing
IsInserted u n (branch_standing w m ns) ms =
    (ms ≡ branch_standing u n (branch_standing w m ns))
    ⊎ ((rest : StandingBranches) × IsInserted u n ns rest × (ms ≡ branch_standing w m rest))

abbrev mutual
  -- The tree s has the nodes of g, the same selected variables, and of each expansion node exactly the branches that are added up to
  -- step k, in any order. The formulas of leaves may differ.
  pub Matches : ℕ → StagedTree → Standing → Type 0
  Matches k (staged_leaf p a) s = (b : Term) × (s ≡ at_leaf p b)
  Matches k (staged_constant p v) s = (w : Bool) × (s ≡ at_constant p w)
  Matches k (staged_negation g) s = (n : Standing) × Matches k g n × (s ≡ at_negation n)
  Matches k (staged_connective op p g h) s = (m : Standing) × (n : Standing) × Matches k g m × Matches k h n × (s ≡ at_connective op p m n)
  Matches k (staged_selection v g) s = (n : Standing) × Matches k g n × (s ≡ at_selection v n)
  Matches k (staged_expansion p bs) s = (ns : StandingBranches) × BranchesMatch k bs ns × (s ≡ at_expansion p ns)

  pub BranchesMatch : ℕ → StagedBranches → StandingBranches → Type 0
  BranchesMatch k none_staged ms = ms ≡ none_standing
  BranchesMatch k (branch_staged u step g bs) ms =
      ((k < step) × BranchesMatch k bs ms)
      ⊎ ((step ≤ k) × (n : Standing) × (ns : StandingBranches) × Matches k g n × BranchesMatch k bs ns × IsInserted u n ns ms)

-- the heads of a term are in the signature of the formula at the level, or among the selected variables
abbrev pub IsOverHeads : Term → ℕ → List Variable → Term → Type 0
IsOverHeads formula level selected u = All (λ (h : Head). IsInSignature formula level h ⊎ IsSelected selected h) (heads_of u)

-- A tree of n branches, added in order one at a step, that is a proof of the formula within a budget of this level: an expansion tree of
-- the formula whose deep formula is a tautology, with variables as heads at the leaves, and terms over the signature and the selected
-- variables.
pub record IsTarget (formula : Term) (level n : ℕ) (g : StagedTree) : Type 0 where
  pub tree : ExpansionTree
  pub is_tree : IsTree formula tree (standing_of g)
  pub atoms : All (λ (leaf : Bool × Term). HasVariableHead leaf.1) (leaves (standing_of g))
  pub heads : All (λ (x : Stage). IsOverHeads formula level (selected_variables (standing_of g)) x.term) (stages 0 g)
  pub in_order : IsInOrder g
  pub steps : HasEachStep n g
  pub tautology : IsTautology (deep_formula (standing_of g))

-- a variable that a search may select: it isn't FILL at a base type
abbrev pub AreNoFill : List Variable → Type 0
AreNoFill vs = All (λ (v : Variable). IsFill v → ⊥) vs
