use Rattle.std.proofs.Common.{refl, subst}
use Rattle.std.specs.Prelude.{IfOk}
use Rattle.hol_terms.specs.Terms.{Term, constant, falsehood, plain_term}
use Rattle.nd_rules.specs.Rules.{implies}
use Rattle.nd_steps.specs.Deductions.{Derives}
use Rattle.nd_steps.proofs.Growing.{assumptions_stay, grows_on, proves_stays}
use Rattle.nd_steps.proofs.Deriving.{contradicts_stays, derives_then, ok_derives_then, splits, step_grows_on}
use Rattle.nd_steps.proofs.deductions.Deduction.split.Goals as goal

pub deduct_falsehood-requires-2-clause-assumptions : goal.deduct_falsehood-requires-2-clause-assumptions
deduct_falsehood-requires-2-clause-assumptions c =
    let p = c.requires.premises in
    let one = c.in_ok-not_first.ensures.derives p.first p.not_first in
    assumptions_stay c.args.self.now c.deduct_falsehood.new.self c.args.hyps.now one.grown c.requires.assumptions

pub deduct_falsehood-requires-2-clause-contradicted : goal.deduct_falsehood-requires-2-clause-contradicted
deduct_falsehood-requires-2-clause-contradicted c =
    let p = c.requires.premises in
    let one = c.in_ok-not_first.ensures.derives p.first p.not_first in
    let second = contradicts_stays c.args.self.now c.deduct_falsehood.new.self c.args.hyps.now c.args.second.hyp c.args.second.source p.second one.grown p.not_second in
    (p.second, second)

pub follow_three-requires-clause-assumptions : goal.follow_three-requires-clause-assumptions
follow_three-requires-clause-assumptions c =
    let p = c.requires.premises in
    let one = c.in_ok-not_first.ensures.derives p.first p.not_first in
    let second = contradicts_stays c.args.self.now c.deduct_falsehood.new.self c.args.hyps.now c.args.second.hyp c.args.second.source p.second one.grown p.not_second in
    let two = c.in_ok-not_second.ensures.derives p.second second in
    assumptions_stay c.args.self.now c.deduct_falsehood-2.new.self c.args.hyps.now (grows_on c.args.self.now c.deduct_falsehood.new.self c.deduct_falsehood-2.new.self one.grown two.grown) c.requires.assumptions

pub follow_three-requires-clause-premises : goal.follow_three-requires-clause-premises
follow_three-requires-clause-premises c =
    let p = c.requires.premises in
    let one = c.in_ok-not_first.ensures.derives p.first p.not_first in
    let second = contradicts_stays c.args.self.now c.deduct_falsehood.new.self c.args.hyps.now c.args.second.hyp c.args.second.source p.second one.grown p.not_second in
    let two = c.in_ok-not_second.ensures.derives p.second second in
    let grown = grows_on c.args.self.now c.deduct_falsehood.new.self c.deduct_falsehood-2.new.self one.grown two.grown in
    splits c.deduct_falsehood-2.new.self c.args.hyps.now c.args.source c.in_ok-not_first.not_first c.in_ok-not_second.not_second p.formula p.first p.second (plain_term c.falsehood.result) c.falsehood.ensures p.cases
    (proves_stays c.args.self.now c.deduct_falsehood-2.new.self c.args.source c.args.hyps.now p.formula grown p.proved)
    (proves_stays c.deduct_falsehood.new.self c.deduct_falsehood-2.new.self c.in_ok-not_first.not_first c.args.hyps.now (implies p.first (constant falsehood)) two.grown one.proves)
    two.proves

pub returns-clause-derives : goal.returns-clause-derives
returns-clause-derives c =
    let p = c.requires.premises in
    let one = c.in_ok-not_first.ensures.derives p.first p.not_first in
    let second = contradicts_stays c.args.self.now c.deduct_falsehood.new.self c.args.hyps.now c.args.second.hyp c.args.second.source p.second one.grown p.not_second in
    let two = c.in_ok-not_second.ensures.derives p.second second in
    let hyps = c.args.hyps.now in
    let both =
    derives_then 1 1 2 c.args.self.now c.deduct_falsehood.new.self c.deduct_falsehood-2.new.self c.in_ok-not_first.not_first c.in_ok-not_second.not_second hyps hyps (implies p.first (constant falsehood)) (implies p.second (constant falsehood)) refl one two in
    let P : Term → Type 0 = λ t. IfOk c.follow_three.result (λ n. Derives 3 c.args.self.now c.follow_three.new.self n hyps t) in
    subst P c.falsehood.ensures
    (ok_derives_then c.follow_three.result 2 1 3 c.args.self.now c.deduct_falsehood-2.new.self c.follow_three.new.self c.in_ok-not_second.not_second hyps hyps (implies p.second (constant falsehood)) (plain_term c.falsehood.result) refl both c.follow_three.ensures.derives)

pub returns-in_err-not_first-clause-grown : goal.returns-in_err-not_first-clause-grown
returns-in_err-not_first-clause-grown c =
    c.in_err-not_first.ensures.grown

pub returns-in_err-not_second-clause-grown : goal.returns-in_err-not_second-clause-grown
returns-in_err-not_second-clause-grown c =
    grows_on c.args.self.now c.deduct_falsehood.new.self c.deduct_falsehood-2.new.self c.in_ok-not_first.ensures.grown c.in_err-not_second.ensures.grown

pub returns-clause-grown : goal.returns-clause-grown
returns-clause-grown c =
    step_grows_on c.follow_three.result 1 c.args.self.now c.deduct_falsehood-2.new.self c.follow_three.new.self c.args.hyps.now _ (grows_on c.args.self.now c.deduct_falsehood.new.self c.deduct_falsehood-2.new.self c.in_ok-not_first.ensures.grown c.in_ok-not_second.ensures.grown) c.follow_three.ensures.derives c.follow_three.ensures.err
