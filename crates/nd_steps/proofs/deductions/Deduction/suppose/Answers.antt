use Rattle.std.proofs.Common.{◌∷◌, []}
use Rattle.hol_terms.specs.Terms.{plain_term}
use Rattle.nd_rules.specs.Lines.{hypothesis}
use Rattle.nd_steps.proofs.Deriving.{above_assumptions, assumptions_with, derives_with}
use Rattle.nd_steps.proofs.Growing.{same_grows}
use Rattle.nd_steps.proofs.deductions.Deduction.suppose.Goals as goal

pub with_one-requires : goal.with_one-requires
with_one-requires c =
    above_assumptions c.args.self.now c.assume.new.self c.in_ok-number.number c.args.hyps.now (c.in_ok-number.number ∷ []) (plain_term c.args.formula) hypothesis c.in_ok-number.ensures.deduction c.in_ok-number.ensures.line c.requires.assumptions

pub returns-clause-assumptions : goal.returns-clause-assumptions
returns-clause-assumptions c =
    assumptions_with c.args.self.now c.assume.new.self c.in_ok-number.number c.args.hyps.now c.in_ok-hyps.hyps (plain_term c.args.formula) c.in_ok-number.ensures.derives.grown c.requires.assumptions c.in_ok-number.ensures.assumes c.in_ok-hyps.ensures

pub returns-clause-derives : goal.returns-clause-derives
returns-clause-derives c = derives_with c.args.self.now c.assume.new.self c.in_ok-number.number c.args.hyps.now c.in_ok-hyps.hyps (plain_term c.args.formula) c.in_ok-number.ensures.derives c.in_ok-hyps.ensures

pub returns-in_err-number-clause-grown : goal.returns-in_err-number-clause-grown
returns-in_err-number-clause-grown c =
    same_grows c.args.self.now c.assume.new.self c.in_err-number.ensures.err

pub returns-in_err-hyps-clause-grown : goal.returns-in_err-hyps-clause-grown
returns-in_err-hyps-clause-grown c =
    c.in_ok-number.ensures.derives.grown

pub returns-clause-grown : goal.returns-clause-grown
returns-clause-grown c =
    c.in_ok-number.ensures.derives.grown
