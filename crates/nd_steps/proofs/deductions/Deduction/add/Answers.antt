use Rattle.std.proofs.Common.{◌≡◌, ◌+◌, length, arith}
use Rattle.hol_terms.specs.Terms.{plain_term}
use Rattle.nd_rules.specs.Lines.{plain_why}
use Rattle.nd_steps.proofs.Adding.{added_line, added_derives, added_deduction}
use Rattle.nd_steps.proofs.Numbering.{numbered_absent}
use Rattle.nd_steps.proofs.deductions.Deduction.add.Goals as goal

pub put-requires-clause-absent : goal.put-requires-clause-absent
put-requires-clause-absent c = numbered_absent 1 c.self.inside.outline c.in_ok-line.line.number c.self.invariant.numbered (omega (arith, c.in_ok-line.ensures.number, c.len-before.ensures.count))

pub returns-clause-line : goal.returns-clause-line
returns-clause-line c =
    let next : c.in_ok-line.line.number ≡ length c.self.inside.outline + 1 = omega (arith, c.in_ok-line.ensures.number, c.len-before.ensures.count) in
    rw (← c.self.view_is) (added_line c.self.inside.outline c.put.new.outline c.in_ok-line.line.number c.in_ok-line.line.hyps c.args.hyps.now (plain_term c.args.formula) (plain_why c.args.why) c.self.invariant next c.in_ok-line.ensures.hyps (rw (c.in_ok-line.ensures.formula, c.in_ok-line.ensures.why) at c.in_ok-put.ensures.ok))

pub returns-clause-derives : goal.returns-clause-derives
returns-clause-derives c =
    let next : c.in_ok-line.line.number ≡ length c.self.inside.outline + 1 = omega (arith, c.in_ok-line.ensures.number, c.len-before.ensures.count) in
    let line = added_line c.self.inside.outline c.put.new.outline c.in_ok-line.line.number c.in_ok-line.line.hyps c.args.hyps.now (plain_term c.args.formula) (plain_why c.args.why) c.self.invariant next c.in_ok-line.ensures.hyps (rw (c.in_ok-line.ensures.formula, c.in_ok-line.ensures.why) at c.in_ok-put.ensures.ok) in
    rw (← c.self.view_is) (added_derives c.self.inside.outline c.put.new.outline c.in_ok-line.line.number c.args.hyps.now (plain_term c.args.formula) (plain_why c.args.why) c.self.invariant line)

pub invariant_of-self-2 : goal.invariant_of-self-2
invariant_of-self-2 c =
    let old = c.self.inside.outline in
    let next : c.in_ok-line.line.number ≡ length old + 1 = omega (arith, c.in_ok-line.ensures.number, c.len-before.ensures.count) in
    let line = added_line old c.put.new.outline c.in_ok-line.line.number c.in_ok-line.line.hyps c.args.hyps.now (plain_term c.args.formula) (plain_why c.args.why) c.self.invariant next c.in_ok-line.ensures.hyps (rw (c.in_ok-line.ensures.formula, c.in_ok-line.ensures.why) at c.in_ok-put.ensures.ok) in
    let formed = rw (← c.self.view_is) at c.requires.formula in
    let justified = rw (← c.self.view_is) at c.requires.justified in
    added_deduction old c.put.new.outline c.in_ok-line.line.number c.args.hyps.now (plain_term c.args.formula) (plain_why c.args.why) c.self.invariant line (formed c.self.invariant) c.as_slice-rising.ensures.rising c.requires.term c.requires.finished (justified c.self.invariant)

pub returns-clause-deduction : goal.returns-clause-deduction
returns-clause-deduction c =
    let old = c.self.inside.outline in
    let next : c.in_ok-line.line.number ≡ length old + 1 = omega (arith, c.in_ok-line.ensures.number, c.len-before.ensures.count) in
    let line = added_line old c.put.new.outline c.in_ok-line.line.number c.in_ok-line.line.hyps c.args.hyps.now (plain_term c.args.formula) (plain_why c.args.why) c.self.invariant next c.in_ok-line.ensures.hyps (rw (c.in_ok-line.ensures.formula, c.in_ok-line.ensures.why) at c.in_ok-put.ensures.ok) in
    let formed = rw (← c.self.view_is) at c.requires.formula in
    let justified = rw (← c.self.view_is) at c.requires.justified in
    added_deduction old c.put.new.outline c.in_ok-line.line.number c.args.hyps.now (plain_term c.args.formula) (plain_why c.args.why) c.self.invariant line (formed c.self.invariant) c.as_slice-rising.ensures.rising c.requires.term c.requires.finished (justified c.self.invariant)
