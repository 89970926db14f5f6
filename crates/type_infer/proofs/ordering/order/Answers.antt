use Rattle.std.proofs.Common.{length, arith}
use Rattle.type_infer.proofs.Orders.{ordered_of_new, path_of_new}
use Rattle.type_infer.proofs.ordering.order.Goals as goal

pub loop-start-init : goal.loop-start-init
loop-start-init c = record {
  ordered = rw (c.new-shapes.ensures.items) (ordered_of_new c.args.cells.now c.in_ok-marks.marks.items c.in_ok-marks.ensures);
  path = path_of_new c.args.cells.now (length c.args.cells.now) c.in_ok-marks.marks.items c.in_ok-marks.ensures;
  done = λ i l. absurd (omega arith);
}
