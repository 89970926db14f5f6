use Rattle.std.proofs.Common.{take}
use Rattle.etps_script.specs.Tallies.{AreUnshared}
use Rattle.etps_script.proofs.known.unshared.Given as goal

-- of the variables before the place those whose names aren't shared
abbrev pub invariant-loop-i : goal.invariant-loop-i
invariant-loop-i l = AreUnshared l.shared (take l.i l.variables) l.known
