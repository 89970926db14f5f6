use Rattle.std.proofs.Common.{refl}
use Rattle.hol_terms.specs.Terms.{constant, falsehood, plain_term}
use Rattle.nd_rules.specs.Rules.{implies}
use Rattle.nd_steps.specs.Premises.{not_so}
use Rattle.nd_steps.proofs.Growing.{assumptions_stay}
use Rattle.nd_steps.proofs.Deriving.{by_double_negation, contradicted_formed, ok_derives_then, step_grows_on}
use Rattle.nd_steps.proofs.deductions.Deduction.by_contradiction.Goals as goal

pub follow_one-requires-clause-assumptions : goal.follow_one-requires-clause-assumptions
follow_one-requires-clause-assumptions c =
    let implied = c.in_ok-implied.ensures.derives (not_so (plain_term c.args.formula)) c.requires.contradicted in
    assumptions_stay c.args.self.now c.deduct_falsehood.new.self c.args.hyps.now implied.grown c.requires.assumptions

pub follow_one-requires-clause-formula : goal.follow_one-requires-clause-formula
follow_one-requires-clause-formula c =
    let implied = c.in_ok-implied.ensures.derives (not_so (plain_term c.args.formula)) c.requires.contradicted in
    contradicted_formed c.args.self.now c.deduct_falsehood.new.self c.args.hyps.now c.args.contradiction.hyp c.args.contradiction.source (plain_term c.args.formula) c.in_ok-implied.ensures.deduction implied.grown c.requires.contradicted

pub follow_one-requires-clause-premises : goal.follow_one-requires-clause-premises
follow_one-requires-clause-premises c =
    let implied = c.in_ok-implied.ensures.derives (not_so (plain_term c.args.formula)) c.requires.contradicted in
    (implies (not_so (plain_term c.args.formula)) (constant falsehood), implied.proves, by_double_negation (plain_term c.args.formula))

pub returns-clause-derives : goal.returns-clause-derives
returns-clause-derives c =
    let implied = c.in_ok-implied.ensures.derives (not_so (plain_term c.args.formula)) c.requires.contradicted in
    ok_derives_then c.follow_one.result 1 1 2 c.args.self.now c.deduct_falsehood.new.self c.follow_one.new.self c.in_ok-implied.implied c.args.hyps.now c.args.hyps.now (implies (not_so (plain_term c.args.formula)) (constant falsehood)) (plain_term c.args.formula) refl implied c.follow_one.ensures.derives

pub returns-in_err-implied-clause-grown : goal.returns-in_err-implied-clause-grown
returns-in_err-implied-clause-grown c =
    c.in_err-implied.ensures.grown

pub returns-clause-grown : goal.returns-clause-grown
returns-clause-grown c =
    step_grows_on c.follow_one.result 1 c.args.self.now c.deduct_falsehood.new.self c.follow_one.new.self c.args.hyps.now _ c.in_ok-implied.ensures.grown c.follow_one.ensures.derives c.follow_one.ensures.err
