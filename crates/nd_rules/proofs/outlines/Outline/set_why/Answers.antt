use Rattle.std.proofs.Common.{sym, ap, subst, map, refl}
use Rattle.std.specs.Option.{option_map}
use Rattle.nd_rules.specs.Lines.{DeductionLine, plain_line, plain_why}
use Rattle.nd_rules.specs.Outlines.{IsOutline}
use Rattle.nd_rules.proofs.Places.{absent_line, line_read}
use Rattle.nd_rules.proofs.Edits.{is_missing_not, change_line, outline_with_why}
use Rattle.nd_rules.proofs.outlines.Outline.set_why.Goals as goal

pub unreachable-requires : goal.unreachable-requires
unreachable-requires c =
    let here = rw c.deref.ensures.value at c.in-Err.ensures.absent in
    let none = absent_line (map plain_line c.self.inside.lines.items) c.args.number _ here in
    is_missing_not (map plain_line c.self.inside.lines.items) c.args.number none (rw (← c.self.view_is) at c.requires.there)

pub invariant_of-self : goal.invariant_of-self
invariant_of-self c =
    let here = rw c.deref.ensures.value at c.in-Ok.ensures.found in
    let lines = c.self.inside.lines.items in
    let same = change_line lines _ c.index_mut.result.now c.replace.new.dest c.args.number _ c.self.invariant here c.index_mut.ensures.value refl in
    subst IsOutline (sym same) (rw c.replace.ensures.after (outline_with_why (map plain_line lines) c.args.number (plain_why c.args.why) c.self.invariant c.requires.term))

pub returns-clause-new : goal.returns-clause-new
returns-clause-new c =
    let here = rw c.deref.ensures.value at c.in-Ok.ensures.found in
    let lines = c.self.inside.lines.items in
    let same = change_line lines _ c.index_mut.result.now c.replace.new.dest c.args.number _ c.self.invariant here c.index_mut.ensures.value refl in
    rw (← c.self.view_is, ← c.replace.ensures.after) same

pub returns-clause-old : goal.returns-clause-old
returns-clause-old c =
    let here = rw c.deref.ensures.value at c.in-Ok.ensures.found in
    let lines = c.self.inside.lines.items in
    let read = line_read lines c.index_mut.result.now c.args.number _ c.self.invariant.rising here c.index_mut.ensures.value in
    rw (← c.self.view_is, c.replace.ensures.value) (ap (option_map (λ (l : DeductionLine). l.why)) (sym read))
