use Rattle.std.proofs.Common.{refl}
use Rattle.nd_steps.proofs.Growing.{same_grows}
use Rattle.nd_steps.proofs.Deriving.{step_grows}
use Rattle.nd_steps.proofs.deductions.Deduction.deduct_falsehood.Goals as goal

pub returns-in_err-formula-clause-grown : goal.returns-in_err-formula-clause-grown
returns-in_err-formula-clause-grown c =
    same_grows c.args.self.now c.args.self.now refl

pub returns-clause-grown : goal.returns-clause-grown
returns-clause-grown c =
    step_grows c.deduct.result 1 c.args.self.now c.deduct.new.self c.args.hyps.now _ c.deduct.ensures.derives c.deduct.ensures.err
