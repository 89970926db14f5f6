use Rattle.std.proofs.Common.{◌≡◌, length}
use Rattle.tps_reader.specs.Machine.{settled}
use Rattle.tps_reader.specs.Raws.{plain_raw}
use Rattle.tps_reader.specs.Reader.{plain_frames}
use Rattle.tps_reader.proofs.frames.settle.Given as goal

abbrev pub invariant-loop-frame : goal.invariant-loop-frame
invariant-loop-frame l = settled l.least (plain_frames l.frames.items) (plain_raw l.operand) ≡ settled l.least (plain_frames l.fn.frames.items) (plain_raw l.fn.operand)

abbrev pub decreases-loop-frame : goal.decreases-loop-frame
decreases-loop-frame l = length l.frames.items
