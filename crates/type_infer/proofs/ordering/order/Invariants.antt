use Rattle.std.proofs.Common.{ℕ, ◌<◌, []}
use Rattle.type_infer.specs.Ordering.{IsDone, IsOrdered, IsPath, mark_at}
use Rattle.type_infer.proofs.ordering.order.Given as goal

abbrev pub invariant-loop-start : goal.invariant-loop-start
invariant-loop-start l = record {
  ordered : IsOrdered l.cells l.marks.items l.shapes.items;
  path : IsPath l.cells l.marks.items [];
  done : (i : ℕ) → i < l.start → IsDone (mark_at l.marks.items i);
}
