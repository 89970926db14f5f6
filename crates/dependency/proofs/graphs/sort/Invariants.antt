use Rattle.std.proofs.Common.{◌≡◌, ◌<◌, ℕ, [], false}
use Rattle.dependency.specs.Graphs.{row_lists}
use Rattle.dependency.specs.Walks.{IsWalk, is_unseen, mark_of}
use Rattle.dependency.proofs.graphs.sort.Given as goal

abbrev pub invariant-loop-vertex : goal.invariant-loop-vertex
invariant-loop-vertex l = record {
  walk : IsWalk (row_lists l.graph) l.walk;
  none : l.walk.waiting.items ≡ [];
  seen : (v : ℕ) → v < l.vertex → is_unseen (mark_of l.walk.marks.items v) ≡ false;
}
