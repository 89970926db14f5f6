use Rattle.std.proofs.Common.{◌≡◌, length, reverse, arith}
use Rattle.vertical_paths.specs.declared.walk.Choice.{Choice}
use Rattle.vertical_paths.proofs.Chains.{reverse-push, AreChoices-more, paths_left-here, steps_left-here}
use Rattle.vertical_paths.proofs.walk.Walk.leave.Goals as goal

pub returns-clause-walk : goal.returns-clause-walk
returns-clause-walk c =
    let walk = c.args.self.now in
    let choice : Choice = record { at = walk.at; leaves = c.len.result } in
    let leaves : c.len.result ≡ length walk.prefix.leaves.items = omega (arith, c.len.ensures, walk.prefix.leaves.ok) in
    record {
      counts = c.requires.walk.counts;
      some_count = c.requires.walk.some_count;
      tasks = c.requires.walk.tasks;
      next = c.requires.walk.next;
      choices = rw (c.in_ok-push.ensures.items, reverse-push walk.choices.items choice) (
        c.requires.walk.next,
        omega (arith, leaves),
        AreChoices-more (length walk.tasks.items) (length walk.prefix.leaves.items) walk.at c.len.result (reverse walk.choices.items) (omega (arith, c.requires.last)) (omega (arith, leaves)) c.requires.walk.choices,
      );
    }

pub returns-clause-choice_paths : goal.returns-clause-choice_paths
returns-clause-choice_paths c =
    let walk = c.args.self.now in
    let choice : Choice = record { at = walk.at; leaves = c.len.result } in
    let leaves : c.len.result ≡ length walk.prefix.leaves.items = omega (arith, c.len.ensures, walk.prefix.leaves.ok) in
    rw (c.in_ok-push.ensures.items, reverse-push walk.choices.items choice)
    (paths_left-here walk.tasks.items walk.prefix.leaves.items choice (reverse walk.choices.items) c.requires.last leaves)

pub returns-clause-choice_steps : goal.returns-clause-choice_steps
returns-clause-choice_steps c =
    let walk = c.args.self.now in
    let choice : Choice = record { at = walk.at; leaves = c.len.result } in
    rw (c.in_ok-push.ensures.items, reverse-push walk.choices.items choice) (steps_left-here walk.tasks.items choice (reverse walk.choices.items) c.requires.last)
