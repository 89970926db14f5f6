use Rattle.std.proofs.Common.{sym}
use Rattle.type_infer.proofs.Orders.{ordered_same, ordered_new}
use Rattle.type_infer.proofs.ordering.finish.Goals as goal

pub returns-in-Same-clause-ordered : goal.returns-in-Same-clause-ordered
returns-in-Same-clause-ordered c =
    ordered_same c.args.cells.now c.args.marks.now.items c.set_mark.new.marks.items c.args.shapes.now.items c.args.i c.in-Same.j c.number-same.result
    c.requires.ordered c.requires.inside c.requires.other c.requires.parts (rw (c.in-Same.is) at c.cell-here.ensures)
    (rw (c.deref.ensures.value) at c.number-same.ensures) c.set_mark.ensures

pub returns : goal.returns
returns c = record {
  ordered = ordered_new c.args.cells.now c.args.marks.now.items c.set_mark-2.new.marks.items c.args.shapes.now.items c.push.new.cells.items c.args.i c.in_ok-number.number
      c.cell-here.result c.shape-shape.result c.requires.ordered c.requires.inside c.requires.other c.requires.parts c.cell-here.ensures (λ j e. c.in_default.not-Same j (sym e))
      (rw (c.deref-2.ensures.value) at c.shape-shape.ensures) c.in_ok-number.ensures.number c.in_ok-number.ensures.cells c.set_mark-2.ensures;
  finished = record { number = c.in_ok-number.number; finished = c.set_mark-2.ensures };
}
