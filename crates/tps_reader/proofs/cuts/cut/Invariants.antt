use Rattle.std.proofs.Common.{◌≡◌, ◌≤◌, ◌+◌, ◌-◌, length, drop}
use Rattle.std.specs.Prelude.{encode_utf8_all}
use Rattle.tps_reader.specs.Tokens.{Cuts}
use Rattle.tps_reader.specs.Views.{plain_tokens}
use Rattle.tps_reader.proofs.cuts.cut.Given as goal

abbrev pub invariant-loop-alloc : goal.invariant-loop-alloc
invariant-loop-alloc l = record {
  within : l.at ≤ length l.characters;
  bytes : l.place + length (encode_utf8_all (drop l.at l.characters)) ≡ l.total;
  cut : Cuts 0 l.characters (plain_tokens l.lexemes.items) l.place (drop l.at l.characters);
}

abbrev pub decreases-loop-alloc : goal.decreases-loop-alloc
decreases-loop-alloc l = length l.characters - l.at
