use Rattle.std.proofs.Common.{◌≡◌, ◌≤◌, ◌-◌, length, drop, take, true}
use Rattle.std.specs.List.{list_all}
use Rattle.core_text.specs.Tokens.{is_in_word}
use Rattle.core_text.proofs.pieces.word_end.Given as goal

abbrev pub invariant-loop-at : goal.invariant-loop-at
invariant-loop-at l = record {
  low : l.fn.from ≤ l.at;
  high : l.at ≤ length l.bytes;
  word : list_all is_in_word (take (l.at - l.fn.from) (drop l.fn.from l.bytes)) ≡ true;
}

abbrev pub decreases-loop-at : goal.decreases-loop-at
decreases-loop-at l = length l.bytes - l.at
