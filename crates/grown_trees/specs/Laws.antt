-- Laws of grown trees, by which a search that adds branch after branch comes to each proof. Each is a clause of a function of the module
-- `laws`.
use Rattle.std.specs.Prelude.{◌≡◌, ◌<◌, ◌≤◌, ◌+◌, ℕ, List, Contains, length}
use Rattle.hol_terms.specs.Terms.{Term}
use Rattle.hol_terms.specs.Typing.{IsFormula}
use Rattle.hol_terms.specs.Truth.{IsTautology}
use Rattle.dependency.specs.Dependencies.{IsAcyclic}
use Rattle.dependency.specs.Stages.{StagedTree, staged_weight}
use Rattle.expansion_tree.specs.Budgets.{IsInBudget}
use Rattle.expansion_tree.specs.Faults.{IsTree}
use Rattle.expansion_tree.specs.Occurrences.{occurrences_of, tree_weight}
use Rattle.expansion_tree.specs.Standing.{Standing, deep_formula, selected_variables, selections}
use Rattle.expansion_tree.specs.Trees.{ExpansionTree}
use Rattle.grown_trees.specs.Growths.{AreGrown, IsBare, IsGrown}
use Rattle.grown_trees.specs.Searches.{IsSearched}
use Rattle.grown_trees.specs.Targets.{AreNoFill, IsOverHeads, IsTarget, Matches}

-- an expansion proof within the budget is a target when its branches are added in order, one at a step
abbrev pub HasTarget : Type 0
HasTarget =
    (formula : Term) (weight level : ℕ) (t : ExpansionTree) (s : Standing) → IsTree formula t s → IsAcyclic (occurrences_of t) (selections s)
    → IsTautology (deep_formula s) → IsInBudget formula weight level t s
    → (g : StagedTree) × IsTarget formula level (length (occurrences_of t)) g × (staged_weight g ≡ tree_weight t)

-- a bare tree of the formula has come to step 0 of each target, but for the target's names
abbrev pub BareMatches : Type 0
BareMatches =
    (formula : Term) (level n : ℕ) (g : StagedTree) (t : ExpansionTree) (s : Standing) → IsFormula formula → IsTarget formula level n g
    → IsTree formula t s → IsBare s → AreNoFill (selected_variables s)
    → (h : StagedTree) × IsTarget formula level n h × (staged_weight h ≡ staged_weight g) × Matches 0 h s

-- a tree that has come to step k of a target comes to the next step by one more branch, whose term is over the signature and what the
-- tree selects already, and whose tree is bare
abbrev pub HasNextStep : Type 0
HasNextStep =
    (formula : Term) (level n k : ℕ) (g : StagedTree) (t : ExpansionTree) (s : Standing) → IsFormula formula → IsTarget formula level n g
    → IsTree formula t s → Matches k g s → k < n
    → (u : Term) × (b' : Standing) × (s' : Standing) × (t' : ExpansionTree)
    × IsGrown u b' s s' × IsBare b' × IsTree formula t' s' × Matches (k + 1) g s' × IsOverHeads formula level (selected_variables s) u

-- and so does a namesake of that tree, whose new branch selects other variables, but for the target's names
abbrev pub NamesakeMatches : Type 0
NamesakeMatches =
    (formula : Term) (level n k : ℕ) (g : StagedTree) (u : Term) (b b' s r s' : Standing) (t t' : ExpansionTree) → IsFormula formula
    → IsTarget formula level n g → Matches (k + 1) g s' → AreGrown u b b' s r s' → IsTree formula t r → IsTree formula t' s'
    → AreNoFill (selected_variables r) → IsBare b → IsBare b' → Matches k g s
    → (h : StagedTree) × IsTarget formula level n h × (staged_weight h ≡ staged_weight g) × Matches (k + 1) h r

-- the deep formula of a tree that has come to the last step is a tautology
abbrev pub LastStepIsProof : Type 0
LastStepIsProof =
    (formula : Term) (level n : ℕ) (g : StagedTree) (t : ExpansionTree) (s : Standing) → IsFormula formula → IsTarget formula level n g
    → IsTree formula t s → Matches n g s → IsTautology (deep_formula s)

-- and its weight is that of the target
abbrev pub LastStepWeighs : Type 0
LastStepWeighs =
    (formula : Term) (level n : ℕ) (g : StagedTree) (t : ExpansionTree) (s : Standing) → IsTarget formula level n g → IsTree formula t s
    → Matches n g s → tree_weight t ≡ staged_weight g

-- and before the last step a tree weighs at most as much
abbrev pub EachStepWeighsAtMost : Type 0
EachStepWeighsAtMost =
    (formula : Term) (level n k : ℕ) (g : StagedTree) (t : ExpansionTree) (s : Standing) → IsTarget formula level n g → IsTree formula t s
    → Matches k g s → tree_weight t ≤ staged_weight g

-- so a search that goes through these trees and leaves out no branch comes to a proof within the weight where there is one within the
-- budget
abbrev pub SearchFinds : Type 0
SearchFinds =
    (formula : Term) (weight level : ℕ) (t : ExpansionTree) (s : Standing) (trees : List Standing) → IsFormula formula
    → IsSearched formula weight level (Contains trees) → IsTree formula t s → IsAcyclic (occurrences_of t) (selections s) → IsTautology (deep_formula s)
    → IsInBudget formula weight level t s
    → (r : Standing) × (w : ExpansionTree) × Contains trees r × IsTree formula w r × IsTautology (deep_formula r) × (tree_weight w ≤ weight)
