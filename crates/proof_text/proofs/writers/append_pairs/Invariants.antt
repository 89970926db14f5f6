use Rattle.std.proofs.Common.{◌≡◌, ◌++◌, take}
use Rattle.core_text.specs.Forms.{AreWellSpelled}
use Rattle.core_text.specs.Written.{written_others}
use Rattle.proof_text.specs.Forms.{pair_forms}
use Rattle.proof_text.proofs.writers.append_pairs.Given as goal

-- the pairs up to here were written, and their numbers have 64 bits
abbrev pub invariant-loop-pair : goal.invariant-loop-pair
invariant-loop-pair l = record {
  text : l.out ≡ l.fn.out ++ written_others (pair_forms (take l.pair-index l.pairs));
  numbers : AreWellSpelled (pair_forms (take l.pair-index l.pairs));
}
