-- Trees that a search goes through, branch by branch, within a weight.
use Rattle.std.specs.Prelude.{◌≤◌, ℕ}
use Rattle.hol_terms.specs.Terms.{Term}
use Rattle.expansion_tree.specs.Faults.{IsTree}
use Rattle.expansion_tree.specs.Occurrences.{tree_weight}
use Rattle.expansion_tree.specs.Standing.{Standing, selected_variables}
use Rattle.expansion_tree.specs.Trees.{ExpansionTree}
use Rattle.grown_trees.specs.Growths.{AreGrown, IsBare, IsGrown}
use Rattle.grown_trees.specs.Targets.{AreNoFill, IsOverHeads}

-- Among the trees that are searched is a bare tree of the formula, and with each tree, for each branch that could be added to it within
-- the weight, the tree with that branch, but for the names of the variables that the branch selects. None of these is FILL at a base type.
pub record IsSearched (formula : Term) (weight level : ℕ) (Searched : Standing → Type 0) : Type 0 where
  pub start : (s : Standing) × (t : ExpansionTree) × Searched s × IsTree formula t s × IsBare s × AreNoFill (selected_variables s)
  pub grows : (s : Standing) (t : ExpansionTree) (u : Term) (b' s' : Standing) (t' : ExpansionTree) → Searched s → IsTree formula t s → IsGrown u b' s s' → IsBare b' → IsTree formula t' s' → IsOverHeads formula level (selected_variables s) u → tree_weight t' ≤ weight → (r : Standing) × (b : Standing) × (w : ExpansionTree) × Searched r × AreGrown u b b' s r s' × IsBare b × IsTree formula w r × AreNoFill (selected_variables r)
