use Rattle.std.proofs.Common.{◌+◌, ap, arith}
use Rattle.vertical_paths.specs.Walks.{paths_through, steps_through, untried_by, choice_steps}
use Rattle.vertical_paths.proofs.Passing.{next_task}
use Rattle.vertical_paths.proofs.walk.Walk.next.Goals as goal

pub returns-clause-numbers : goal.returns-clause-numbers
returns-clause-numbers c = (next_task c.args.self.now c.index.result.now c.requires.walk c.requires.more c.index.ensures).numbered

pub returns-clause-rest : goal.returns-clause-rest
returns-clause-rest c =
    let task = next_task c.args.self.now c.index.result.now c.requires.walk c.requires.more c.index.ensures in
    omega (arith, task.older, c.requires.walk.next)

pub returns-clause-paths : goal.returns-clause-paths
returns-clause-paths c =
    let task = next_task c.args.self.now c.index.result.now c.requires.walk c.requires.more c.index.ensures in
    ap (λ matrices. untried_by c.args.self.now (paths_through matrices)) task.goes_on

pub returns-clause-steps : goal.returns-clause-steps
returns-clause-steps c =
    let task = next_task c.args.self.now c.index.result.now c.requires.walk c.requires.more c.index.ensures in
    ap (λ matrices. steps_through matrices + choice_steps c.args.self.now) task.goes_on
