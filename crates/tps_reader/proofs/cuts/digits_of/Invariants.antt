use Rattle.std.proofs.Common.{◌≡◌, take}
use Rattle.tps_reader.proofs.cuts.digits_of.Given as goal

abbrev pub invariant-loop-digit : goal.invariant-loop-digit
invariant-loop-digit l = l.bytes.items ≡ take l.digit-index l.digits
