use Rattle.std.proofs.Common.{◌≡◌, ◌≤◌, ℕ, length, Some, slice_get}
use Rattle.expansion_tree.specs.Occurrences.{occurrences_of}
use Rattle.dependency.specs.Nesting.{AreOwners, IsScanned}
use Rattle.expansion_tree.specs.Standing.{Selection}
use Rattle.dependency.proofs.nesting.owners.Given as goal

abbrev pub invariant-loop-k : goal.invariant-loop-k
invariant-loop-k l = record {
  many : length l.owners.items ≡ l.k;
  each : AreOwners (occurrences_of l.fitted.tree) l.fitted.selection_list l.owners.items;
  ahead : (j : ℕ) (s : Selection) → l.k ≤ j → slice_get l.fitted.selection_list j ≡ Some s → IsScanned (occurrences_of l.fitted.tree) l.scan.opened l.scan.innermost s.node;
}
