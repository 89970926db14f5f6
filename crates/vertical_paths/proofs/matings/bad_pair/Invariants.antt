use Rattle.std.proofs.Common.{ℕ, ◌<◌, slice_index_or}
use Rattle.vertical_paths.specs.Matings.{IsGood}
use Rattle.vertical_paths.proofs.matings.bad_pair.Given as goal

-- each pair so far is good
abbrev pub invariant-loop-k : goal.invariant-loop-k
invariant-loop-k l = (j : ℕ) (d : ℕ × ℕ) → j < l.k → IsGood l.fitted.leaf_list (slice_index_or l.mating j d)
