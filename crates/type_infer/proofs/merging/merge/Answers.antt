use Rattle.std.proofs.Common.{◌∷◌, [], length}
use Rattle.type_infer.proofs.Merges.{apart_on, are_below_back, are_below_front, merges_on}
use Rattle.type_infer.proofs.merging.merge.Goals as goal

pub join_pair-requires-clause-below : goal.join_pair-requires-clause-below
join_pair-requires-clause-below c =
    let below = rw (c.in-Some.ensures.items) at c.loop-first.invariant.below in
    are_below_front (length c.loop-first.cells.items) c.pop.new.self.items ((c.in-Some.first, c.in-Some.second) ∷ []) below

pub join_pair-requires-clause-first_inside : goal.join_pair-requires-clause-first_inside
join_pair-requires-clause-first_inside c =
    let below = rw (c.in-Some.ensures.items) at c.loop-first.invariant.below in
    (are_below_back (length c.loop-first.cells.items) c.pop.new.self.items ((c.in-Some.first, c.in-Some.second) ∷ []) below).0

pub join_pair-requires-clause-second_inside : goal.join_pair-requires-clause-second_inside
join_pair-requires-clause-second_inside c =
    let below = rw (c.in-Some.ensures.items) at c.loop-first.invariant.below in
    (are_below_back (length c.loop-first.cells.items) c.pop.new.self.items ((c.in-Some.first, c.in-Some.second) ∷ []) below).1

pub loop-first-preserved : goal.loop-first-preserved
loop-first-preserved c =
    let before = rw (c.in-Some.ensures.items) at c.loop-first.invariant in
    merges_on c.args.cells.now.items c.loop-first.cells.items c.join_pair.new.cells.items c.args.pending.now.items c.pop.new.self.items c.join_pair.new.pending.items
    c.in-Some.first c.in-Some.second before (c.in_ok-join_pair.ensures.merged c.if-not-branch.false)

pub returns-then-not-branch-clause-apart : goal.returns-then-not-branch-clause-apart
returns-then-not-branch-clause-apart c = λ _.
    let before = rw (c.in-Some.ensures.items) at c.loop-first.invariant in
    apart_on c.args.cells.now.items c.loop-first.cells.items c.args.pending.now.items c.pop.new.self.items c.in-Some.first c.in-Some.second before
    (c.in_ok-join_pair.ensures.apart c.if-not-branch.true)
