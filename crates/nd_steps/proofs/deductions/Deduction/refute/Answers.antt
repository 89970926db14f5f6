use Rattle.std.proofs.Common.{◌≡◌, refl, sym, ◌∙◌, ap, subst}
use Rattle.hol_terms.specs.Terms.{Term, constant, falsehood, plain_term}
use Rattle.hol_terms.specs.Truth.{Follows}
use Rattle.nd_rules.specs.Rules.{implies}
use Rattle.std.proofs.Common.{[], ◌∷◌}
use Rattle.nd_steps.specs.Premises.{not_so}
use Rattle.nd_steps.specs.Deductions.{Derives}
use Rattle.std.specs.Prelude.{IfOk}
use Rattle.nd_steps.proofs.Growing.{assumptions_stay, same_grows}
use Rattle.nd_steps.proofs.Deriving.{assumed_read, by_falsehood, ok_derives_then, step_grows_on}
use Rattle.nd_steps.proofs.deductions.Deduction.refute.Goals as goal

pub follow_one-requires-clause-assumptions : goal.follow_one-requires-clause-assumptions
follow_one-requires-clause-assumptions c =
    let implied = c.in_ok-implied.ensures.derives c.requires.contradicted.0 c.requires.contradicted.1 in
    assumptions_stay c.args.self.now c.deduct_falsehood.new.self c.args.hyps.now implied.grown c.requires.assumptions

pub follow_one-requires-clause-premises : goal.follow_one-requires-clause-premises
follow_one-requires-clause-premises c =
    let a = c.requires.contradicted.0 in
    let implied = c.in_ok-implied.ensures.derives a c.requires.contradicted.1 in
    let read : plain_term c.in_ok-formula.formula ≡ a = c.in_ok-formula.ensures ∙ assumed_read c.args.self.now c.args.contradiction.hyp a (plain_term c.formula.result.now) c.requires.contradicted.1.assumed c.formula.ensures.formula in
    let made : plain_term c.in_ok-formula-2.formula ≡ not_so a = c.in_ok-formula-2.ensures ∙ ap not_so read in
    let P : Term → Type 0 = λ t. Follows (implies a (constant falsehood) ∷ []) t in
    (implies a (constant falsehood), implied.proves, subst P (sym made) (by_falsehood a))

pub returns-clause-derives : goal.returns-clause-derives
returns-clause-derives c = λ a contradicted.
    let implied = c.in_ok-implied.ensures.derives a contradicted in
    let read : plain_term c.in_ok-formula.formula ≡ a = c.in_ok-formula.ensures ∙ assumed_read c.args.self.now c.args.contradiction.hyp a (plain_term c.formula.result.now) contradicted.assumed c.formula.ensures.formula in
    let made : plain_term c.in_ok-formula-2.formula ≡ not_so a = c.in_ok-formula-2.ensures ∙ ap not_so read in
    let P : Term → Type 0 = λ t. IfOk c.follow_one.result (λ n. Derives 2 c.args.self.now c.follow_one.new.self n c.args.hyps.now t) in
    subst P made (ok_derives_then c.follow_one.result 1 1 2 c.args.self.now c.deduct_falsehood.new.self c.follow_one.new.self c.in_ok-implied.implied c.args.hyps.now c.args.hyps.now (implies a (constant falsehood)) (plain_term c.in_ok-formula-2.formula) refl implied c.follow_one.ensures.derives)

pub returns-in_err-formula-clause-grown : goal.returns-in_err-formula-clause-grown
returns-in_err-formula-clause-grown c =
    same_grows c.args.self.now c.args.self.now refl

pub returns-in_err-formula-2-clause-grown : goal.returns-in_err-formula-2-clause-grown
returns-in_err-formula-2-clause-grown c =
    same_grows c.args.self.now c.args.self.now refl

pub returns-in_err-implied-clause-grown : goal.returns-in_err-implied-clause-grown
returns-in_err-implied-clause-grown c =
    c.in_err-implied.ensures.grown

pub returns-clause-grown : goal.returns-clause-grown
returns-clause-grown c =
    step_grows_on c.follow_one.result 1 c.args.self.now c.deduct_falsehood.new.self c.follow_one.new.self c.args.hyps.now _ c.in_ok-implied.ensures.grown c.follow_one.ensures.derives c.follow_one.ensures.err
