use Rattle.std.proofs.Common.{sym, subst, map}
use Rattle.nd_rules.specs.Lines.{plain_line}
use Rattle.nd_rules.specs.Outlines.{IsOutline}
use Rattle.nd_rules.proofs.Places.{absent_line}
use Rattle.nd_rules.proofs.Edits.{is_there, put_line, outline_with}
use Rattle.nd_rules.proofs.outlines.Outline.insert.Goals as goal

pub returns-in-Ok-clause-present : goal.returns-in-Ok-clause-present
returns-in-Ok-clause-present c =
    let here = rw (c.deref.ensures.value, c.number_of-number.ensures.number) at c.in-Ok.ensures.found in
    λ _. (c.refused.ensures, rw (← c.self.view_is) (is_there c.self.inside.lines.items c.args.line.number _ c.self.invariant here))

pub returns-in_err-put-in-Err-clause-free : goal.returns-in_err-put-in-Err-clause-free
returns-in_err-put-in-Err-clause-free c =
    let here = rw (c.deref.ensures.value, c.number_of-number.ensures.number) at c.in-Err.ensures.absent in
    λ _. rw (← c.self.view_is) (absent_line (map plain_line c.self.inside.lines.items) c.args.line.number _ here)

pub invariant_of-self-in-Err : goal.invariant_of-self-in-Err
invariant_of-self-in-Err c =
    let here = rw (c.deref.ensures.value, c.number_of-number.ensures.number) at c.in-Err.ensures.absent in
    let lines = c.self.inside.lines.items in
    let same = put_line lines c.put.new.lines.items c.args.line _ here c.in_ok-put-in-Err.ensures.items in
    let none = absent_line (map plain_line lines) c.args.line.number _ here in
    subst IsOutline (sym same) (outline_with (map plain_line lines) (plain_line c.args.line) c.self.invariant (c.requires.formula, c.number_of-number.ensures.rising, c.requires.term) none)

pub returns-clause-ok : goal.returns-clause-ok
returns-clause-ok c =
    let here = rw (c.deref.ensures.value, c.number_of-number.ensures.number) at c.in-Err.ensures.absent in
    let lines = c.self.inside.lines.items in
    rw (← c.self.view_is) (put_line lines c.put.new.lines.items c.args.line _ here c.in_ok-put-in-Err.ensures.items)

pub returns-clause-absent : goal.returns-clause-absent
returns-clause-absent c =
    let here = rw (c.deref.ensures.value, c.number_of-number.ensures.number) at c.in-Err.ensures.absent in
    rw (← c.self.view_is) (absent_line (map plain_line c.self.inside.lines.items) c.args.line.number _ here)
