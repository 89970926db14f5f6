use Rattle.std.proofs.Common.{arith}
use Rattle.dependency.proofs.Steps.{newest_is}
use Rattle.dependency.proofs.graphs.Walk.newest.Goals as goal

pub returns : goal.returns
returns c graph walk =
    let now = c.args.self.now in
    newest_is graph now.marks.items now.waiting.items now.placed.items c.index.result.now c.len.result walk
    (omega (arith, c.requires, c.len.ensures)) (omega (arith, c.len.ensures, now.waiting.ok)) c.index.ensures
