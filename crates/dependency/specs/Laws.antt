-- Laws of the dependency relation, which the layers above rest on. Each is the clause of a function of the module `laws`.
use Rattle.std.specs.Prelude.{◌≡◌, ℕ, List, Bool, length}
use Rattle.hol_terms.specs.Terms.{Term}
use Rattle.expansion_tree.specs.Trees.{ExpansionTree}
use Rattle.expansion_tree.specs.Occurrences.{occurrences_of, tree_weight}
use Rattle.expansion_tree.specs.Standing.{Standing, Stands, selections}
use Rattle.dependency.specs.Dependencies.{IsAcyclic, IsOrder}
use Rattle.dependency.specs.Stages.{StagedTree, standing_of, stages, staged_weight, IsInOrder, HasEachStep}

-- where the occurrences of a tree aren't directly before one another in a closed chain, they have an order
abbrev pub HasOrder : Type 0
HasOrder = (t : ExpansionTree) (s : Standing) → IsAcyclic (occurrences_of t) (selections s) → (order : List ℕ) × IsOrder (occurrences_of t) (selections s) order

-- where the branches of a tree are added in order, no occurrences are directly before one another in a closed chain
abbrev pub StagesAreAcyclic : Type 0
StagesAreAcyclic =
    (p : Bool) (a : Term) (t : ExpansionTree) (s : Standing) (g : StagedTree) → Stands p a t s → standing_of g ≡ s → IsInOrder g → IsAcyclic (occurrences_of t) (selections s)

-- where no occurrences are directly before one another in a closed chain, the branches of the tree are added in order, one at a step
abbrev pub HasStages : Type 0
HasStages =
    (p : Bool) (a : Term) (t : ExpansionTree) (s : Standing) → Stands p a t s → IsAcyclic (occurrences_of t) (selections s)
    → (g : StagedTree) × (standing_of g ≡ s) × IsInOrder g × HasEachStep (length (occurrences_of t)) g

-- the stages of a tree are as many as its occurrences
abbrev pub StagesAreOccurrences : Type 0
StagesAreOccurrences =
    (p : Bool) (a : Term) (t : ExpansionTree) (s : Standing) (g : StagedTree) → Stands p a t s → standing_of g ≡ s → length (stages 0 g) ≡ length (occurrences_of t)

-- and weigh as much
abbrev pub StagesWeighAsTree : Type 0
StagesWeighAsTree = (p : Bool) (a : Term) (t : ExpansionTree) (s : Standing) (g : StagedTree) → Stands p a t s → standing_of g ≡ s → staged_weight g ≡ tree_weight t
