use Rattle.std.proofs.Common.{◌∙◌, [], ◌∷◌}
use Rattle.std.proofs.lemmas.List.{append-nil}
use Rattle.expansion_tree.specs.Matrices.{joined, matrix_paths}
use Rattle.vertical_paths.specs.Walks.{behind}
use Rattle.vertical_paths.proofs.Joined.{behind-none, joined-with_unit}
use Rattle.vertical_paths.proofs.walk.Walk.new.Goals as goal

pub returns-clause-paths : goal.returns-clause-paths
returns-clause-paths c =
    let paths = matrix_paths c.args.matrix.now in
    rw (c.in_ok-push.ensures.items, c.new-tasks.ensures.items, c.in_ok-prefix.ensures.leaves, c.new-2.ensures.items)
    (append-nil (behind [] (joined paths ([] ∷ []))) ∙ behind-none (joined paths ([] ∷ [])) ∙ joined-with_unit paths)
