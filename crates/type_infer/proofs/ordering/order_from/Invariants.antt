use Rattle.std.proofs.Common.{reverse}
use Rattle.type_infer.specs.Ordering.{GoesOn, IsOrdered, IsPath, marks_weight}
use Rattle.type_infer.proofs.ordering.order_from.Given as goal

abbrev pub invariant-loop-top : goal.invariant-loop-top
invariant-loop-top l = record {
  ordered : IsOrdered l.cells l.marks.items l.shapes.items;
  path : IsPath l.cells l.marks.items (reverse l.path.items);
  goes_on : GoesOn l.fn.marks.items l.marks.items l.start;
}

abbrev pub decreases-loop-top : goal.decreases-loop-top
decreases-loop-top l = marks_weight l.marks.items
