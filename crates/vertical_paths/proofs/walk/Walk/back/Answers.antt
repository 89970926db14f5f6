use Rattle.std.proofs.Common.{◌≡◌, ◌-◌, length, arith, take}
use Rattle.std.proofs.lemmas.List.{length-take-le}
use Rattle.vertical_paths.proofs.Chains.{reverse-push, AreTasks-take}
use Rattle.vertical_paths.proofs.Closing.{is_closed-take}
use Rattle.vertical_paths.proofs.walk.Walk.back.Goals as goal

pub returns-clause-walk : goal.returns-clause-walk
returns-clause-walk c _ =
    let walk = c.args.self.now in
    let choice = c.in-Some.choice in
    let choices = rw (c.in-Some.ensures.items, reverse-push c.pop.new.self.items choice) at c.requires.choices in
    let tasks : length (take choice.at walk.tasks.items) ≡ choice.at = length-take-le choice.at walk.tasks.items choices.0 in
    let leaves : length (take choice.leaves walk.prefix.leaves.items) ≡ choice.leaves = length-take-le choice.leaves walk.prefix.leaves.items choices.1 in
    record {
      counts = c.cut.ensures.counts;
      some_count = rw c.cut.ensures.bound c.requires.some_count;
      tasks = rw (c.cut.ensures.bound, c.truncate.ensures.items) (AreTasks-take (length walk.prefix.counts.items - 1) walk.tasks.items choice.at c.requires.tasks);
      next = rw c.truncate.ensures.items (omega (arith, tasks));
      choices = rw (c.truncate.ensures.items, c.cut.ensures.leaves, tasks, leaves) choices.2;
    }

pub returns-clause-open : goal.returns-clause-open
returns-clause-open c pairs h = rw c.cut.ensures.leaves (is_closed-take pairs c.args.self.now.prefix.leaves.items c.in-Some.choice.leaves h)
