-- The stages of a staged tree are as many as the occurrences of its tree, and have their terms.
use Rattle.std.proofs.Common.{◌≡◌, List, [], ◌∷◌, Bool, length, map, refl, sym, ◌∙◌, ap, arith}
use Rattle.std.specs.List.{sum_by}
use Rattle.std.proofs.lemmas.List.{length-map}
use Rattle.std.proofs.lemmas.List.Sums.{sum_by-cons}
use Rattle.hol_terms.specs.Terms.{Term}
use Rattle.expansion_tree.specs.Trees.{ExpansionTree}
use Rattle.expansion_tree.specs.Occurrences.{occurrences_of, term_weight, tree_weight, weight_of_all}
use Rattle.expansion_tree.specs.Standing.{Standing, Stands}
use Rattle.dependency.specs.Stages.{StagedTree, standing_of, Stage, stages, staged_weight}
use Rattle.dependency.proofs.Placed.{Place, occurrence_there, occurrences_in, occurrences_standing, places, places-occurrences, places-stages, stage_there}

listed : (p : Bool) (a : Term) (t : ExpansionTree) (s : Standing) (g : StagedTree) → Stands p a t s → standing_of g ≡ s → occurrences_of t ≡ map occurrence_there (places 1 0 g)
listed p a t s g stands same = occurrences_standing t p a s stands ∙ ap (occurrences_in 1) (sym same) ∙ sym (places-occurrences 1 0 g)

pub stages_many : (p : Bool) (a : Term) (t : ExpansionTree) (s : Standing) (g : StagedTree) → Stands p a t s → standing_of g ≡ s → length (stages 0 g) ≡ length (occurrences_of t)
stages_many p a t s g stands same =
    let qs : List Place = places 1 0 g in
    ap length (sym (places-stages 1 0 g)) ∙ length-map qs stage_there ∙ sym (length-map qs occurrence_there) ∙ ap length (sym (listed p a t s g stands same))

weights : (qs : List Place) → sum_by (λ (x : Stage). term_weight x.term) (map stage_there qs) ≡ weight_of_all (map occurrence_there qs)
weights [] = refl
weights (q ∷ qs) =
    let first = sum_by-cons (λ (x : Stage). term_weight x.term) (stage_there q) (map stage_there qs) in
    let rest = weights qs in
    omega (arith, first, rest)

pub stages_weigh : (p : Bool) (a : Term) (t : ExpansionTree) (s : Standing) (g : StagedTree) → Stands p a t s → standing_of g ≡ s → staged_weight g ≡ tree_weight t
stages_weigh p a t s g stands same =
    ap (sum_by (λ (x : Stage). term_weight x.term)) (sym (places-stages 1 0 g)) ∙ weights (places 1 0 g) ∙ ap weight_of_all (sym (listed p a t s g stands same))
