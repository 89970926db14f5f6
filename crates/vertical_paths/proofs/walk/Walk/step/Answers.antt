use Rattle.std.proofs.Common.{sym, ◌∙◌, ap}
use Rattle.vertical_paths.specs.Walks.{untried_by, paths_via}
use Rattle.vertical_paths.proofs.Joined.{joined-unit}
use Rattle.vertical_paths.proofs.walk.Walk.step.Goals as goal

pub returns-in-Empty-clause-goes_on : goal.returns-in-Empty-clause-goes_on
returns-in-Empty-clause-goes_on c _ =
    let walk = c.args.self.now in
    let paths = rw c.in-Empty.is at c.next-rest.ensures.paths in
    sym (paths ∙ ap (untried_by walk) (joined-unit (paths_via walk c.next-rest.result.rest)))
