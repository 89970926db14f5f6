use Rattle.std.proofs.Common.{◌≡◌, map}
use Rattle.std.specs.String.{string_bytes}
use Rattle.tps_print.specs.BoundNames.{names_outside}
use Rattle.tps_print.proofs.names.names_outside_of.Given as goal

abbrev pub invariant-loop-before : goal.invariant-loop-before
invariant-loop-before l = map string_bytes l.names.items ≡ names_outside l.taken l.before
