use Rattle.dependency.proofs.Marks.{marked-enter}
use Rattle.dependency.proofs.graphs.Walk.enter.Goals as goal

pub returns-clause-walk : goal.returns-clause-walk
returns-clause-walk c graph walk leads =
    let old = c.args.self.now in
    rw (c.set_mark.ensures.marks, c.set_mark.ensures.waiting, c.set_mark.ensures.placed, c.in_ok-push.ensures.items)
    (marked-enter graph old.marks.items old.waiting.items old.placed.items c.args.vertex c.requires.vertex c.requires.unseen leads walk)
