-- A proof within a budget is a target when its branches are added in order.
use Rattle.std.proofs.Common.{◌≡◌, ℕ, List, Bool, true, All, Contains, length, map, sym, ap, subst, ◌∙◌}
use Rattle.std.proofs.lemmas.List.Elements.{All-contains, All-from_recursion}
use Rattle.hol_terms.specs.Terms.{Term}
use Rattle.hol_terms.specs.Truth.{IsTautology}
use Rattle.expansion_tree.specs.Trees.{ExpansionTree}
use Rattle.expansion_tree.specs.Budgets.{HasVariableHead, IsInBudget}
use Rattle.expansion_tree.specs.Faults.{IsTree}
use Rattle.expansion_tree.specs.Occurrences.{Occurrence, occurrences_of, tree_weight}
use Rattle.expansion_tree.specs.Standing.{Standing, deep_formula, leaves, selected_variables, selections}
use Rattle.dependency.specs.Dependencies.{IsAcyclic}
use Rattle.dependency.specs.Stages.{StagedTree, standing_of, Stage, stages, staged_weight}
use Rattle.dependency.proofs.Elements.{Contains-image, image_of}
use Rattle.dependency.proofs.Placed.{occurrence_there, stage_there, occurrences_in, occurrences_standing, places, places-occurrences, places-stages}
use Rattle.dependency.proofs.Staging.{acyclic_staged}
use Rattle.dependency.proofs.Weighing.{stages_weigh}
use Rattle.grown_trees.specs.Targets.{IsOverHeads, IsTarget}
use Rattle.grown_trees.proofs.Every.{every_contained}

-- the terms of the stages are those of the occurrences
stages_over : (formula : Term) (weight level : ℕ) (t : ExpansionTree) (s : Standing) (g : StagedTree) → IsTree formula t s → IsInBudget formula weight level t s → standing_of g ≡ s
    → All (λ (x : Stage). IsOverHeads formula level (selected_variables (standing_of g)) x.term) (stages 0 g)
stages_over formula weight level t s g tree budget same =
    let R : Stage → Type 0 = λ x. IsOverHeads formula level (selected_variables (standing_of g)) x.term in
    let listed : occurrences_of t ≡ map occurrence_there (places 1 0 g) =
    occurrences_standing t true tree.normal s tree.stands ∙ ap (occurrences_in 1) (sym same) ∙ sym (places-occurrences 1 0 g) in
    All-from_recursion R (stages 0 g) (every_contained R (stages 0 g) (λ x there.
    let q = image_of stage_there (places 1 0 g) x (subst (λ (l : List Stage). Contains l x) (sym (places-stages 1 0 g)) there) in
    let among : Contains (occurrences_of t) (occurrence_there q.0) =
    subst (λ (l : List Occurrence). Contains l (occurrence_there q.0)) (sym listed) (Contains-image occurrence_there (places 1 0 g) q.0 q.1) in
    let own = All-contains (λ (o : Occurrence). IsOverHeads formula level (selected_variables s) o.term) (occurrences_of t) (occurrence_there q.0) budget.heads among in
    subst R q.2 (subst (λ (s : Standing). IsOverHeads formula level (selected_variables s) q.0.term) (sym same) own)))

pub has_target : (formula : Term) (weight level : ℕ) (t : ExpansionTree) (s : Standing) → IsTree formula t s → IsAcyclic (occurrences_of t) (selections s) → IsTautology (deep_formula s)
    → IsInBudget formula weight level t s → (g : StagedTree) × IsTarget formula level (length (occurrences_of t)) g × (staged_weight g ≡ tree_weight t)
has_target formula weight level t s tree acyclic tautology budget =
    let staged = acyclic_staged true tree.normal t s tree.stands acyclic in
    let g : StagedTree = staged.0 in
    let same : standing_of g ≡ s = staged.1 in (
      g,
      record {
        tree = t;
        is_tree = subst (IsTree formula t) (sym same) tree;
        atoms = subst (λ (s : Standing). All (λ (leaf : Bool × Term). HasVariableHead leaf.1) (leaves s)) (sym same) budget.atoms;
        heads = stages_over formula weight level t s g tree budget same;
        in_order = staged.2;
        steps = staged.3;
        tautology = subst (λ (s : Standing). IsTautology (deep_formula s)) (sym same) tautology;
      },
      stages_weigh true tree.normal t s g tree.stands same,
    )
