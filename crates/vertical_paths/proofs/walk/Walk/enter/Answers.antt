use Rattle.std.proofs.Common.{refl, sym, ◌≤◌, ◌∙◌, ◌∷◌, [], length, reverse, arith}
use Rattle.std.proofs.lemmas.List.{length-append}
use Rattle.vertical_paths.specs.Walks.{paths_via}
use Rattle.vertical_paths.proofs.Rows.{row_is}
use Rattle.vertical_paths.proofs.Closing.{leaf_stops, is_closed-push}
use Rattle.vertical_paths.proofs.Joined.{behind-leaf}
use Rattle.vertical_paths.proofs.Chains.{AreChoices-more, paths_left-leaves}
use Rattle.vertical_paths.proofs.walk.Walk.enter.Goals as goal

pub returns-then-meets-clause-stops : goal.returns-then-meets-clause-stops
returns-then-meets-clause-stops c _ pairs h =
    let walk = c.args.self.now in
    let row = row_is (length walk.prefix.counts.items) pairs c.args.rows.now c.args.leaf c.index-rows-leaf.result h.partners c.requires.leaf c.index-rows-leaf.is in
    let met = rw (c.deref.ensures.value, row) at (sym c.meets.ensures ∙ c.if-meets.true) in
    leaf_stops pairs walk.prefix.leaves.items c.args.leaf (paths_via walk c.args.rest) _ h.so_far met

pub returns-clause-walk : goal.returns-clause-walk
returns-clause-walk c =
    let walk = c.args.self.now in
    let pushed = c.in_ok-push.ensures in
    let more : length walk.prefix.leaves.items ≤ length c.push.new.self.leaves.items = rw pushed.leaves (omega (arith, length-append walk.prefix.leaves.items (c.args.leaf ∷ []))) in
    record {
      counts = pushed.counts;
      some_count = rw pushed.bound c.requires.walk.some_count;
      tasks = rw pushed.bound c.requires.walk.tasks;
      next = c.requires.rest;
      choices = AreChoices-more (length walk.tasks.items) (length walk.prefix.leaves.items) (length walk.tasks.items) (length c.push.new.self.leaves.items) (reverse walk.choices.items) (omega arith) more c.requires.walk.choices;
    }

pub returns-clause-open : goal.returns-clause-open
returns-clause-open c pairs h =
    let walk = c.args.self.now in
    let row = row_is (length walk.prefix.counts.items) pairs c.args.rows.now c.args.leaf c.index-rows-leaf.result h.partners c.requires.leaf c.index-rows-leaf.is in
    let unmet = rw (c.deref.ensures.value, row) at (sym c.meets.ensures ∙ c.if-meets.false) in
    record {
      partners = rw c.in_ok-push.ensures.bound h.partners;
      so_far = rw c.in_ok-push.ensures.leaves (is_closed-push pairs walk.prefix.leaves.items c.args.leaf h.so_far ∙ unmet);
    }

pub returns-clause-goes_on : goal.returns-clause-goes_on
returns-clause-goes_on c _ =
    let walk = c.args.self.now in
    let leaves = walk.prefix.leaves.items in
    let left = paths_left-leaves walk.tasks.items leaves (c.args.leaf ∷ []) (reverse walk.choices.items) c.requires.walk.choices in
    rw (c.in_ok-push.ensures.leaves, left, behind-leaf leaves c.args.leaf (paths_via walk c.args.rest)) refl
