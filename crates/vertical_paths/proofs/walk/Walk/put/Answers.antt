use Rattle.std.proofs.Common.{◌≤◌, ◌-◌, ◌++◌, ◌∷◌, [], length, reverse, arith}
use Rattle.std.proofs.lemmas.List.{length-append}
use Rattle.vertical_paths.specs.declared.walk.Task.{Task}
use Rattle.vertical_paths.proofs.Chains.{AreTasks-push, AreChoices-more, paths_left-tasks, steps_left-tasks}
use Rattle.vertical_paths.proofs.walk.Walk.put.Goals as goal

pub returns-clause-walk : goal.returns-clause-walk
returns-clause-walk c =
    let walk = c.args.self.now in
    let task : Task = record { matrix = c.args.matrix; rest = c.args.rest } in
    let items = c.in_ok-push.ensures.items in
    let more : length walk.tasks.items ≤ length (walk.tasks.items ++ task ∷ []) = omega (arith, length-append walk.tasks.items (task ∷ [])) in
    record {
      counts = c.requires.walk.counts;
      some_count = c.requires.walk.some_count;
      tasks = rw items (AreTasks-push (length walk.prefix.counts.items - 1) walk.tasks.items task c.requires.walk.tasks c.requires.numbers c.requires.rest);
      next = omega (arith, c.len-self.ensures, c.push.new.self.ok);
      choices = rw items (AreChoices-more (length walk.tasks.items) (length walk.prefix.leaves.items) (length (walk.tasks.items ++ task ∷ [])) (length walk.prefix.leaves.items) (reverse walk.choices.items) more (omega arith) c.requires.walk.choices);
    }

pub returns-clause-choice_paths : goal.returns-clause-choice_paths
returns-clause-choice_paths c =
    let walk = c.args.self.now in
    let task : Task = record { matrix = c.args.matrix; rest = c.args.rest } in
    rw c.in_ok-push.ensures.items (paths_left-tasks walk.tasks.items (task ∷ []) walk.prefix.leaves.items (reverse walk.choices.items) c.requires.walk.choices)

pub returns-clause-choice_steps : goal.returns-clause-choice_steps
returns-clause-choice_steps c =
    let walk = c.args.self.now in
    let task : Task = record { matrix = c.args.matrix; rest = c.args.rest } in
    rw c.in_ok-push.ensures.items (steps_left-tasks walk.tasks.items (task ∷ []) (length walk.prefix.leaves.items) (reverse walk.choices.items) c.requires.walk.choices)
