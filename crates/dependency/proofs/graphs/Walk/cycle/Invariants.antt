use Rattle.std.proofs.Common.{◌≡◌, ◌++◌, reverse, vec_len}
use Rattle.dependency.specs.Walks.{up_to}
use Rattle.dependency.proofs.graphs.Walk.cycle.Given as goal

abbrev pub invariant-loop-newest : goal.invariant-loop-newest
invariant-loop-newest l = l.list.items ++ up_to l.vertex (reverse l.self.waiting.items) ≡ up_to l.vertex (reverse l.initial.self.waiting.items)

abbrev pub decreases-loop-newest : goal.decreases-loop-newest
decreases-loop-newest l = vec_len l.self.waiting
