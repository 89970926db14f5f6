use Rattle.std.proofs.Common.{◌≤◌, ◌∷◌, [], List, length, length-append, subst, ap, arith}
use Rattle.refutations.specs.declared.duties.Duty.{Duty}
use Rattle.refutations.proofs.Discharging.{Owes, owes_last, owes_less, owes_none}
use Rattle.refutations.proofs.refute.discharge_to.Goals as goal

pub discharge-requires : goal.discharge-requires
discharge-requires c =
    let owes = c.loop-alloc.invariant.owes c.requires.0 c.requires.1 c.requires.2 c.requires.3 c.requires.5 c.requires.6 c.requires.7 c.requires.8 c.requires.9 in
    let before : List Duty = c.pop.new.self.items in
    let most : length c.requires.2 ≤ length before = omega (arith, c.loop-alloc-test.true, c.len.ensures, ap length c.in-Some.ensures.items, length-append before (c.in-Some.duty ∷ []), c.requires.6) in
    let last = owes_last c.args.deduction.now c.loop-alloc.deduction c.requires.0 c.requires.2 c.requires.3 before c.in-Some.duty c.loop-alloc.line
    (subst (λ (ds : List Duty). Owes c.args.deduction.now c.loop-alloc.deduction c.requires.0 c.requires.2 c.requires.3 ds c.loop-alloc.line) c.in-Some.ensures.items owes) most in
    record { premises = (last.mid, last.assumptions, last.duty, last.proves) }

pub loop-alloc-preserved-in-Some : goal.loop-alloc-preserved-in-Some
loop-alloc-preserved-in-Some c = record {
  deduction = c.in_ok-line.ensures.deduction c.loop-alloc.invariant.deduction;
  owes = λ hyps more kept added duties_are count duties assumptions proves.
      let owes = c.loop-alloc.invariant.owes hyps more kept added duties_are count duties assumptions proves in
      let before : List Duty = c.pop.new.self.items in
      let most : length kept ≤ length before = omega (arith, c.loop-alloc-test.true, c.len.ensures, ap length c.in-Some.ensures.items, length-append before (c.in-Some.duty ∷ []), count) in
      owes_less c.args.deduction.now c.loop-alloc.deduction hyps kept added before c.in-Some.duty c.loop-alloc.line c.discharge.new.deduction c.in_ok-line.line
      (subst (λ (ds : List Duty). Owes c.args.deduction.now c.loop-alloc.deduction hyps kept added ds c.loop-alloc.line) c.in-Some.ensures.items owes) most c.in_ok-line.ensures.reaches;
}

pub returns-clause-reaches : goal.returns-clause-reaches
returns-clause-reaches c hyps more kept added duties_are count duties assumptions proves =
    owes_none c.args.deduction.now c.loop-alloc.deduction hyps kept added c.loop-alloc.duties.items c.loop-alloc.line
    (c.loop-alloc.invariant.owes hyps more kept added duties_are count duties assumptions proves) (omega (arith, c.loop-alloc-test.false, c.len.ensures, count))
