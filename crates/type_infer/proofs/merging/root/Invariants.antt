use Rattle.std.proofs.Common.{ℕ, ◌≡◌, ◌<◌, length}
use Rattle.hol_terms.specs.Terms.{SimpleType}
use Rattle.type_infer.specs.Cells.{Models}
use Rattle.type_infer.specs.Merging.{Halves}
use Rattle.type_infer.proofs.merging.root.Given as goal

abbrev pub invariant-loop-next : goal.invariant-loop-next
invariant-loop-next l = record {
  halves : Halves l.initial.cells.items l.cells.items;
  inside : l.i < length l.cells.items;
  same : (types : ℕ → SimpleType) → Models types l.cells.items → types l.start ≡ types l.i;
}

abbrev pub decreases-loop-next : goal.decreases-loop-next
decreases-loop-next l = l.i
