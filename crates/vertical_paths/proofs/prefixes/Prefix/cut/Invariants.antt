use Rattle.std.proofs.Common.{◌≡◌, take, length, vec_len}
use Rattle.vertical_paths.specs.Partners.{AreCounts}
use Rattle.vertical_paths.proofs.prefixes.Prefix.cut.Given as goal

abbrev pub invariant-loop-self : goal.invariant-loop-self
invariant-loop-self l = record {
  leaves : take l.most l.self.leaves.items ≡ take l.most l.initial.self.leaves.items;
  counts : AreCounts l.self.counts.items l.self.leaves.items;
  bound : length l.self.counts.items ≡ length l.initial.self.counts.items;
}

abbrev pub decreases-loop-self : goal.decreases-loop-self
decreases-loop-self l = vec_len l.self.leaves
