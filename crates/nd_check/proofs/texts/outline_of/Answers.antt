use Rattle.std.proofs.Common.{◌≡◌, ◌++◌, ◌∙◌, ◌≢◌, map, IsSome, None, sym, ap, subst}
use Rattle.std.specs.Vec.Iter.{into_iter_items}
use Rattle.nd_rules.specs.declared.faults.InsertFault.TheVariants.{Memory}
use Rattle.nd_rules.specs.Lines.{line_of, plain_line}
use Rattle.nd_check.proofs.Outlined.{next_formed, next_free, one_more}
use Rattle.nd_check.proofs.texts.outline_of.Goals as goal

pub insert-requires-clause-formula : goal.insert-requires-clause-formula
insert-requires-clause-formula c =
    let rest = map plain_line (into_iter_items c.next.new.self) in
    let whole = map plain_line c.args.lines.items in
    let is = ap (λ ls. c.loop-line.outline ++ map plain_line ls) (sym c.in-Some.ensures.steps.0) ∙ c.loop-line.invariant in
    (next_formed c.loop-line.outline rest whole (plain_line c.in-Some.line) is c.requires).0

pub insert-requires-clause-term : goal.insert-requires-clause-term
insert-requires-clause-term c =
    let rest = map plain_line (into_iter_items c.next.new.self) in
    let whole = map plain_line c.args.lines.items in
    let is = ap (λ ls. c.loop-line.outline ++ map plain_line ls) (sym c.in-Some.ensures.steps.0) ∙ c.loop-line.invariant in
    (next_formed c.loop-line.outline rest whole (plain_line c.in-Some.line) is c.requires).2

pub loop-line-preserved : goal.loop-line-preserved
loop-line-preserved c =
    let rest = map plain_line (into_iter_items c.next.new.self) in
    let whole = map plain_line c.args.lines.items in
    let is = ap (λ ls. c.loop-line.outline ++ map plain_line ls) (sym c.in-Some.ensures.steps.0) ∙ c.loop-line.invariant in
    one_more c.loop-line.outline rest whole (plain_line c.in-Some.line) is c.requires c.insert.new.self c.in-Ok.ensures.ok

pub unreachable-requires : goal.unreachable-requires
unreachable-requires c =
    let rest = map plain_line (into_iter_items c.next.new.self) in
    let whole = map plain_line c.args.lines.items in
    let is = ap (λ ls. c.loop-line.outline ++ map plain_line ls) (sym c.in-Some.ensures.steps.0) ∙ c.loop-line.invariant in
    let free : line_of c.loop-line.outline c.in-Some.line.number ≡ None = next_free c.loop-line.outline rest whole (plain_line c.in-Some.line) is c.requires in
    let other : c.in-Err-Present.field-0 ≢ Memory = λ e. let present = c.in-Err-Present.field-0-is in cc in
    let some = subst IsSome free (c.in-Err-Present.ensures.present other).1 in
    cc
