use Rattle.std.proofs.Common.{[], true, sym, ◌∙◌, subst}
use Rattle.hol_terms.specs.Terms.{Term, plain_term, truth_type}
use Rattle.hol_conv.proofs.Normals.{one_normal_form}
use Rattle.expansion_tree.specs.Standing.{Stands}
use Rattle.expansion_tree.specs.Trees.{plain_tree}
use Rattle.dependency.specs.Stages.{standing_of}
use Rattle.plain_search.proofs.tasks.Task.extended.Goals as goal

pub extensions-requires-clause-stands : goal.extensions-requires-clause-stands
extensions-requires-clause-stands c =
    let candidate = c.requires.candidate.1 in
    let same = one_normal_form [] (plain_term c.args.self.now.formula) candidate.is_tree.normal (plain_term c.args.self.now.normal) truth_type candidate.is_tree.is_normal c.requires.task.normal in
    (standing_of candidate.staged, subst (λ (a : Term). Stands true a (plain_tree c.args.growth.now.tree) (standing_of candidate.staged)) (same ∙ sym c.in_ok-formula.ensures) candidate.is_tree.stands)
