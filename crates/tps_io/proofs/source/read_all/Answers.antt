use Rattle.std.proofs.Common.{take}
use Rattle.tps_io.proofs.Loops.{front_on}
use Rattle.tps_io.proofs.source.read_all.Goals as goal

pub returns-then-count-max-clause-front : goal.returns-then-count-max-clause-front
returns-then-count-max-clause-front g c =
    let more = take c.in-Ok.count c.read.new.buf in
    front_on _ _ _ c.loop-count.bytes.items more c.loop-count.invariant.taken c.in-Ok.ensures.bytes.0

pub returns-in_err-extend_from_slice-clause-front :
    goal.returns-in_err-extend_from_slice-clause-front
returns-in_err-extend_from_slice-clause-front g c =
    let more = take c.in-Ok.count c.read.new.buf in
    front_on _ _ _ c.loop-count.bytes.items more c.loop-count.invariant.taken c.in-Ok.ensures.bytes.0
