use Rattle.std.proofs.Common.{sym, subst, map}
use Rattle.nd_rules.specs.Lines.{plain_line}
use Rattle.nd_rules.specs.Outlines.{IsOutline}
use Rattle.nd_rules.proofs.Places.{absent_line, line_read}
use Rattle.nd_rules.proofs.Edits.{is_missing_not, cut_line, outline_without}
use Rattle.nd_rules.proofs.outlines.Outline.take.Goals as goal

pub unreachable-requires : goal.unreachable-requires
unreachable-requires c =
    let here = rw c.deref.ensures.value at c.in-Err.ensures.absent in
    let none = absent_line (map plain_line c.self.inside.lines.items) c.args.number _ here in
    is_missing_not (map plain_line c.self.inside.lines.items) c.args.number none (rw (← c.self.view_is) at c.requires)

pub invariant_of-self : goal.invariant_of-self
invariant_of-self c =
    let here = rw c.deref.ensures.value at c.in-Ok.ensures.found in
    let lines = c.self.inside.lines.items in
    let same = cut_line lines _ c.args.number _ c.self.invariant here c.remove.ensures.items in
    subst IsOutline (sym same) (outline_without (map plain_line lines) c.args.number c.self.invariant)

pub returns-clause-rest : goal.returns-clause-rest
returns-clause-rest c =
    let here = rw c.deref.ensures.value at c.in-Ok.ensures.found in
    let lines = c.self.inside.lines.items in
    rw (← c.self.view_is) (cut_line lines _ c.args.number _ c.self.invariant here c.remove.ensures.items)

pub returns-clause-line : goal.returns-clause-line
returns-clause-line c =
    let here = rw c.deref.ensures.value at c.in-Ok.ensures.found in
    let lines = c.self.inside.lines.items in
    rw (← c.self.view_is) (sym (line_read lines c.remove.result c.args.number _ c.self.invariant.rising here c.remove.ensures.value))
