use Rattle.type_infer.specs.Merging.{Merges, weight}
use Rattle.type_infer.proofs.merging.merge.Given as goal

abbrev pub invariant-loop-first : goal.invariant-loop-first
invariant-loop-first l = Merges l.initial.cells.items l.cells.items l.initial.pending.items l.pending.items

abbrev pub decreases-loop-first : goal.decreases-loop-first
decreases-loop-first l = weight l.cells.items l.pending.items
