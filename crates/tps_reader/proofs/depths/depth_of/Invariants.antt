use Rattle.std.proofs.Common.{◌≡◌, ◌≤◌, drop, length}
use Rattle.tps_reader.specs.Depth.{parts_of}
use Rattle.tps_reader.specs.Views.{plain_counts, plain_tokens}
use Rattle.tps_reader.proofs.depths.depth_of.Given as goal

abbrev pub invariant-loop-at : goal.invariant-loop-at
invariant-loop-at l = record {
  within : l.at ≤ length l.lexemes;
  counted : plain_counts l.counts.items ≡ parts_of (plain_tokens (drop l.at l.lexemes));
}

abbrev pub decreases-loop-at : goal.decreases-loop-at
decreases-loop-at l = l.at
