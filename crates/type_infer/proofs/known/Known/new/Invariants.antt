use Rattle.std.proofs.Common.{take}
use Rattle.type_infer.specs.Known.{TellsKnown}
use Rattle.type_infer.proofs.known.Known.new.Given as goal

abbrev pub invariant-loop-i : goal.invariant-loop-i
invariant-loop-i l = TellsKnown (take l.i l.variables) l.names l.places.items
