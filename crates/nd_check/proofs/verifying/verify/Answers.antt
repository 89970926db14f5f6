use Rattle.std.proofs.Common.{◌-◌, arith}
use Rattle.nd_rules.specs.Lines.{plain_line}
use Rattle.nd_check.specs.declared.verifying.VerifyFault.TheVariants.{NotClosed}
use Rattle.nd_check.proofs.Finishing.{open_at, fault_excludes, derives, last_place}
use Rattle.nd_check.proofs.verifying.verify.Goals as goal

pub returns-in-Err-clause-refused : goal.returns-in-Err-clause-refused
returns-in-Err-clause-refused c = fault_excludes c.args.outline.now c.in-Err.fault c.in-Err.ensures.fault

pub returns-then-len-gt0-clause-fault : goal.returns-then-len-gt0-clause-fault
returns-then-len-gt0-clause-fault c =
    let lines = c.args.outline.now in
    open_at lines (c.len.result - 1) (plain_line c.at-last.result.now) (last_place lines c.len.result c.requires c.len.ensures.count) c.at-last.ensures.line c.in_default.ensures.finished
    (omega (arith, c.if-len-gt0.true, c.len-2.ensures))

pub returns-then-len-gt0-clause-refused : goal.returns-then-len-gt0-clause-refused
returns-then-len-gt0-clause-refused c =
    let lines = c.args.outline.now in
    fault_excludes lines (NotClosed c.at-last.result.now.number)
    (open_at lines (c.len.result - 1) (plain_line c.at-last.result.now) (last_place lines c.len.result c.requires c.len.ensures.count) c.at-last.ensures.line c.in_default.ensures.finished (omega (arith, c.if-len-gt0.true, c.len-2.ensures)))

pub returns-clause-derivation : goal.returns-clause-derivation
returns-clause-derivation c =
    let lines = c.args.outline.now in
    derives lines (c.len.result - 1) (plain_line c.at-last.result.now) c.len.ensures.outline c.in_default.ensures.finished (last_place lines c.len.result c.requires c.len.ensures.count) c.at-last.ensures.line
    (omega (arith, c.if-len-gt0.false, c.len-2.ensures))
