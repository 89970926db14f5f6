use Rattle.std.proofs.Common.{◌∷◌, subst}
use Rattle.hol_terms.specs.Terms.{constant, falsehood}
use Rattle.nd_steps.specs.Deductions.{Proves}
use Rattle.refutations.specs.declared.duties.Duty.{Duty}
use Rattle.refutations.specs.Duties.{IsDuty, hyp_of}
use Rattle.refutations.proofs.Resting.{reaches_none}
use Rattle.refutations.proofs.exact.discharge.Goals as goal

pub returns-then-not-rests_on-2-clause-reaches : goal.returns-then-not-rests_on-2-clause-reaches
returns-then-not-rests_on-2-clause-reaches c =
    λ hyps assumed duty line.
    let lines = c.args.deduction.now in
    let P : Duty → Type 0 = λ d. Proves lines c.args.line (hyp_of d ∷ hyps) (constant falsehood) in
    reaches_none 4 lines c.args.line hyps (constant falsehood) (c.rests_on-in-Second.ensures hyps (constant falsehood) c.if-not-rests_on-2.true (subst P c.in-Second.is line))

pub returns-else-not-rests_on-2-clause-reaches : goal.returns-else-not-rests_on-2-clause-reaches
returns-else-not-rests_on-2-clause-reaches c =
    λ hyps assumed duty line.
    let lines = c.args.deduction.now in
    let P : Duty → Type 0 = λ d. Proves lines c.args.line (hyp_of d ∷ hyps) (constant falsehood) in
    let Q : Duty → Type 0 = λ d. IsDuty lines hyps d in
    c.discharge_cases.ensures.reaches hyps assumed (subst Q c.in-Second.is duty) (subst P c.in-Second.is line)
