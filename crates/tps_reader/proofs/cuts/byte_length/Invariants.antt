use Rattle.std.proofs.Common.{◌≡◌, take, length}
use Rattle.std.specs.Prelude.{encode_utf8_all}
use Rattle.tps_reader.proofs.cuts.byte_length.Given as goal

abbrev pub invariant-loop-c : goal.invariant-loop-c
invariant-loop-c l = l.sum ≡ length (encode_utf8_all (take l.c-index l.characters))
