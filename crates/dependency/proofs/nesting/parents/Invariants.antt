use Rattle.std.proofs.Common.{◌≡◌, ◌+◌, length}
use Rattle.expansion_tree.specs.Occurrences.{occurrences_of}
use Rattle.dependency.specs.Nesting.{AreParents}
use Rattle.dependency.proofs.nesting.parents.Given as goal

abbrev pub invariant-loop-e : goal.invariant-loop-e
invariant-loop-e l = record {
  many : length l.parents.items ≡ l.e + 1;
  each : AreParents (occurrences_of l.fitted.tree) l.parents.items;
}
