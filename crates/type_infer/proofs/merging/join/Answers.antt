use Rattle.type_infer.proofs.Merges.{merges_linked, lighter_linked}
use Rattle.type_infer.proofs.merging.join.Goals as goal

pub returns-clause-merged : goal.returns-clause-merged
returns-clause-merged c = λ _.
    merges_linked c.args.cells.now.items c.put-2.new.cells.items c.args.pending.now.items c.push_parts.new.pending.items c.args.low c.args.high
    c.cell-first.result c.cell-second.result c.in-Some.both c.requires.store c.requires.below c.requires.order c.requires.inside c.requires.low c.requires.high
    (rw (c.deref.ensures.value) at c.cell-first.ensures) (rw (c.deref-2.ensures.value) at c.cell-second.ensures) (rw (c.in-Some.is) at c.kept.ensures)
    c.in_ok-push_parts.ensures (rw (c.put.ensures) at c.put-2.ensures)

pub returns-clause-lighter : goal.returns-clause-lighter
returns-clause-lighter c = λ _.
    lighter_linked c.args.cells.now.items c.put-2.new.cells.items c.args.pending.now.items c.push_parts.new.pending.items c.args.low c.args.high
    c.cell-first.result c.cell-second.result c.in-Some.both c.requires.order c.requires.inside c.requires.low c.requires.high
    (rw (c.deref.ensures.value) at c.cell-first.ensures) (rw (c.deref-2.ensures.value) at c.cell-second.ensures) (rw (c.in-Some.is) at c.kept.ensures)
    c.in_ok-push_parts.ensures (rw (c.put.ensures) at c.put-2.ensures)
