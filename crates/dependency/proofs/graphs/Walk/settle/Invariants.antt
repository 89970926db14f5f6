use Rattle.std.proofs.Common.{◌≡◌, ℕ, false}
use Rattle.dependency.specs.Graphs.{row_lists}
use Rattle.dependency.specs.Walks.{IsWalk, is_unseen, mark_of, steps_left}
use Rattle.dependency.proofs.graphs.Walk.settle.Given as goal

abbrev pub invariant-loop-self : goal.invariant-loop-self
invariant-loop-self l = record {
  walk : IsWalk (row_lists l.graph) l.self;
  more : is_unseen (mark_of l.self.marks.items l.vertex) ≡ false;
  seen : (v : ℕ) → is_unseen (mark_of l.fn.self.marks.items v) ≡ false → is_unseen (mark_of l.self.marks.items v) ≡ false;
}

abbrev pub decreases-loop-self : goal.decreases-loop-self
decreases-loop-self l = steps_left (row_lists l.graph) l.self.marks.items
