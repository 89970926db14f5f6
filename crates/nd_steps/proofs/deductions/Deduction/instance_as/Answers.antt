use Rattle.std.proofs.Common.{refl}
use Rattle.hol_terms.specs.Terms.{plain_term}
use Rattle.nd_steps.proofs.Growing.{assumptions_stay, same_grows}
use Rattle.nd_steps.proofs.Deriving.{reads_universal, step_grows_on}
use Rattle.nd_steps.proofs.deductions.Deduction.instance_as.Goals as goal

pub instance-requires-clause-premises : goal.instance-requires-clause-premises
instance-requires-clause-premises c =
    reads_universal c.args.self.now c.args.hyps.now c.args.source (plain_term c.args.term) (plain_term c.args.formula) (plain_term c.formula.result.now) (plain_term c.in_ok-instance.instance) c.requires.premises c.formula.ensures.formula c.in_ok-instance.ensures

pub convert-requires-clause-assumptions : goal.convert-requires-clause-assumptions
convert-requires-clause-assumptions c = assumptions_stay c.args.self.now c.instance.new.self c.args.hyps.now c.in_ok-instance-2.ensures.derives.grown c.requires.assumptions

pub returns-in_err-instance-clause-grown : goal.returns-in_err-instance-clause-grown
returns-in_err-instance-clause-grown c =
    same_grows c.args.self.now c.args.self.now refl

pub returns-in_err-instance-2-clause-grown : goal.returns-in_err-instance-2-clause-grown
returns-in_err-instance-2-clause-grown c =
    same_grows c.args.self.now c.instance.new.self c.in_err-instance-2.ensures.err

pub returns-clause-grown : goal.returns-clause-grown
returns-clause-grown c =
    step_grows_on c.convert.result 1 c.args.self.now c.instance.new.self c.convert.new.self c.args.hyps.now _ c.in_ok-instance-2.ensures.derives.grown c.convert.ensures.derives c.convert.ensures.err
