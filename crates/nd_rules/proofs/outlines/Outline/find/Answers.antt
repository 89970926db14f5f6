use Rattle.std.proofs.Common.{sym, map}
use Rattle.nd_rules.specs.Lines.{plain_line}
use Rattle.nd_rules.proofs.Places.{line_read, formed_read, absent_line}
use Rattle.nd_rules.proofs.outlines.Outline.find.Goals as goal

pub returns-in-Ok-clause-line : goal.returns-in-Ok-clause-line
returns-in-Ok-clause-line c =
    let found = c.in-Ok.ensures.found in
    let here = rw c.deref.ensures.value at found in
    rw (← c.self.view_is) (line_read c.self.inside.lines.items c.index.result.now c.args.number c.in-Ok.i c.self.invariant.rising here c.index.ensures)

pub returns-in-Err-clause-line : goal.returns-in-Err-clause-line
returns-in-Err-clause-line c =
    let gap = c.in-Err.ensures.absent in
    let here = rw c.deref.ensures.value at gap in
    rw (← c.self.view_is) (sym (absent_line (map plain_line c.self.inside.lines.items) c.args.number _ here))

pub returns-in-Ok-clause-formed : goal.returns-in-Ok-clause-formed
returns-in-Ok-clause-formed c =
    let found = c.in-Ok.ensures.found in
    let here = rw c.deref.ensures.value at found in
    formed_read c.self.inside.lines.items c.index.result.now c.args.number c.in-Ok.i c.self.invariant here c.index.ensures
