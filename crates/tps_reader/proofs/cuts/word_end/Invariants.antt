use Rattle.std.proofs.Common.{◌≡◌, ◌≤◌, ◌-◌, length, drop, take, true}
use Rattle.std.specs.List.{list_all}
use Rattle.unicode_ident.specs.Ident.{is_xid_continue}
use Rattle.tps_reader.proofs.cuts.word_end.Given as goal

abbrev pub invariant-loop-at : goal.invariant-loop-at
invariant-loop-at l = record {
  low : l.fn.from ≤ l.at;
  high : l.at ≤ length l.characters;
  run : list_all is_xid_continue (take (l.at - l.fn.from) (drop l.fn.from l.characters)) ≡ true;
}

abbrev pub decreases-loop-at : goal.decreases-loop-at
decreases-loop-at l = length l.characters - l.at
