use Rattle.std.proofs.Common.{take}
use Rattle.std.specs.Prelude.{All}
use Rattle.nd_check.specs.Verifying.{IsFinished}
use Rattle.nd_check.proofs.verifying.are_finished.Given as goal

abbrev pub invariant-loop-i : goal.invariant-loop-i
invariant-loop-i l = All (IsFinished l.outline) (take l.i l.outline)
