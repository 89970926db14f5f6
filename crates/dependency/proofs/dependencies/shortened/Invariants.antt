use Rattle.std.proofs.Common.{◌≡◌, ◌-◌, ◌++◌, drop, length, slice_index}
use Rattle.dependency.specs.Graphs.{row_lists}
use Rattle.dependency.specs.Nesting.{shortened as shortened_by}
use Rattle.dependency.proofs.dependencies.shortened.Given as goal

abbrev pub invariant-loop-vertex : goal.invariant-loop-vertex
invariant-loop-vertex l =
    l.chain ++ shortened_by (row_lists l.graph) l.before (drop l.vertex-index l.cycle) ≡ shortened_by (row_lists l.graph) (slice_index l.cycle (length l.cycle - 1)) l.cycle
