use Rattle.std.proofs.Common.{refl}
use Rattle.hol_terms.specs.Terms.{free, plain_term}
use Rattle.hol_terms.specs.Indices.{instance_of}
use Rattle.nd_rules.specs.Rules.{universal}
use Rattle.nd_steps.specs.Premises.{not_so}
use Rattle.nd_steps.proofs.Growing.{assumptions_stay, grows_on, proves_stays, same_grows}
use Rattle.nd_steps.proofs.Deriving.{generalizes, negated_assumed, negated_read, opposed, step_grows_on}
use Rattle.nd_steps.proofs.deductions.Deduction.deny_universal.Goals as goal

pub generalize-requires-clause-assumptions : goal.generalize-requires-clause-assumptions
generalize-requires-clause-assumptions c = assumptions_stay c.args.self.now c.by_contradiction.new.self c.args.hyps.now c.in_ok-line.ensures.derives.grown c.requires.assumptions

pub generalize-requires-clause-premises : goal.generalize-requires-clause-premises
generalize-requires-clause-premises c =
    let p = c.requires.premises in
    let is = negated_read c.args.self.now c.args.source c.args.hyps.now (universal p.ty p.body) (plain_term c.formula.result.now) (plain_term c.negated.result.now) (plain_term c.in_ok-universal.universal) p.proved c.formula.ensures.formula c.negated.ensures c.in_ok-universal.ensures in
    let instance_is = negated_assumed c.args.self.now c.args.contradiction.hyp (instance_of p.body (free c.args.name p.ty)) (plain_term c.formula-2.result.now) (plain_term c.negated-2.result.now) (plain_term c.in_ok-instance.instance) p.contradicted.assumed c.formula-2.ensures.formula c.negated-2.ensures c.in_ok-instance.ensures in
    generalizes c.args.self.now c.by_contradiction.new.self c.args.hyps.now c.args.source c.args.contradiction.hyp c.args.contradiction.source c.in_ok-line.line c.args.name (plain_term c.in_ok-instance.instance) (plain_term c.in_ok-universal.universal) p
    c.in_ok-line.ensures.derives.grown c.requires.assumptions instance_is is c.in_ok-line.ensures.derives.proves

pub follow_two-requires-clause-assumptions : goal.follow_two-requires-clause-assumptions
follow_two-requires-clause-assumptions c =
    let grown = grows_on c.args.self.now c.by_contradiction.new.self c.generalize.new.self c.in_ok-line.ensures.derives.grown c.in_ok-line-2.ensures.derives.grown in
    assumptions_stay c.args.self.now c.generalize.new.self c.args.hyps.now grown c.requires.assumptions

pub follow_two-requires-clause-premises : goal.follow_two-requires-clause-premises
follow_two-requires-clause-premises c =
    let p = c.requires.premises in
    let grown = grows_on c.args.self.now c.by_contradiction.new.self c.generalize.new.self c.in_ok-line.ensures.derives.grown c.in_ok-line-2.ensures.derives.grown in
    let is = negated_read c.args.self.now c.args.source c.args.hyps.now (universal p.ty p.body) (plain_term c.formula.result.now) (plain_term c.negated.result.now) (plain_term c.in_ok-universal.universal) p.proved c.formula.ensures.formula c.negated.ensures c.in_ok-universal.ensures in
    opposed c.generalize.new.self c.args.hyps.now c.args.source c.in_ok-line-2.line (universal p.ty p.body) (plain_term c.in_ok-universal.universal) (plain_term c.falsehood.result) is c.falsehood.ensures
    (proves_stays c.args.self.now c.generalize.new.self c.args.source c.args.hyps.now (not_so (universal p.ty p.body)) grown p.proved) c.in_ok-line-2.ensures.derives.proves

pub returns-in_err-universal-clause-grown : goal.returns-in_err-universal-clause-grown
returns-in_err-universal-clause-grown c =
    same_grows c.args.self.now c.args.self.now refl

pub returns-in_err-instance-clause-grown : goal.returns-in_err-instance-clause-grown
returns-in_err-instance-clause-grown c =
    same_grows c.args.self.now c.args.self.now refl

pub returns-in_err-line-clause-grown : goal.returns-in_err-line-clause-grown
returns-in_err-line-clause-grown c =
    c.in_err-line.ensures.grown

pub returns-in_err-line-2-clause-grown : goal.returns-in_err-line-2-clause-grown
returns-in_err-line-2-clause-grown c =
    grows_on c.args.self.now c.by_contradiction.new.self c.generalize.new.self c.in_ok-line.ensures.grown (same_grows c.by_contradiction.new.self c.generalize.new.self c.in_err-line-2.ensures.err)

pub returns-clause-grown : goal.returns-clause-grown
returns-clause-grown c =
    step_grows_on c.follow_two.result 1 c.args.self.now c.generalize.new.self c.follow_two.new.self c.args.hyps.now _ (grows_on c.args.self.now c.by_contradiction.new.self c.generalize.new.self c.in_ok-line.ensures.grown c.in_ok-line-2.ensures.derives.grown) c.follow_two.ensures.derives c.follow_two.ensures.err
