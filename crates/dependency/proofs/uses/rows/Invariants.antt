use Rattle.std.proofs.Common.{◌≡◌, ◌+◌, length}
use Rattle.expansion_tree.specs.Occurrences.{occurrences_of}
use Rattle.dependency.specs.Graphs.{row_lists}
use Rattle.dependency.specs.Uses.{AreRows}
use Rattle.dependency.proofs.uses.rows.Given as goal

abbrev pub invariant-loop-e : goal.invariant-loop-e
invariant-loop-e l = record {
  many : length l.rows.items ≡ l.e + 1;
  rows : AreRows (occurrences_of l.fitted.tree) l.parents l.variables l.owners (row_lists l.rows.items);
}
