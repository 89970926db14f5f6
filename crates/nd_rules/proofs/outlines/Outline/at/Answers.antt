use Rattle.nd_rules.proofs.Places.{formed_at}
use Rattle.nd_rules.proofs.outlines.Outline.at.Goals as goal

pub returns-clause-formed : goal.returns-clause-formed
returns-clause-formed c =
    let lines = c.self.inside.lines.items in
    formed_at lines c.index.result.now c.args.i c.self.invariant (rw (← c.self.view_is) at c.requires) c.index.ensures
