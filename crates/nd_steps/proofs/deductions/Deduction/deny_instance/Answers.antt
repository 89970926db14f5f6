use Rattle.std.proofs.Common.{◌≡◌, refl, subst, []}
use Rattle.hol_terms.specs.Terms.{Term, truth_type, plain_term}
use Rattle.hol_terms.specs.Indices.{instance_of}
use Rattle.hol_conv.proofs.Uniqueness.{conv-last}
use Rattle.nd_rules.specs.Rules.{existence}
use Rattle.nd_steps.specs.Deductions.{Proves}
use Rattle.nd_steps.specs.Premises.{not_so}
use Rattle.nd_steps.proofs.Growing.{assumptions_stay, grows_on, proves_stays, same_grows}
use Rattle.nd_steps.proofs.Deriving.{converts_back, contradicts_with, derives_then, negated_read, ok_derives_then, opposed, proves_with}
use Rattle.nd_steps.proofs.deductions.Deduction.deny_instance.Goals as goal

pub suppose-requires-clause-formula : goal.suppose-requires-clause-formula
suppose-requires-clause-formula c = conv-last [] truth_type (instance_of c.requires.premises.body (plain_term c.args.term)) (plain_term c.args.formula) c.requires.premises.converted

pub convert-requires-clause-premises : goal.convert-requires-clause-premises
convert-requires-clause-premises c =
    let p = c.requires.premises in
    let is : plain_term c.in_ok-existence.existence ≡ existence p.ty p.body =
    negated_read c.args.self.now c.args.source c.args.hyps.now (existence p.ty p.body) (plain_term c.formula.result.now) (plain_term c.negated.result.now) (plain_term c.in_ok-existence.existence) p.proved c.formula.ensures.formula c.negated.ensures c.in_ok-existence.ensures in
    converts_back c.suppose.new.self c.in_ok-supposed.supposed.hyps c.in_ok-supposed.supposed.number (instance_of p.body (plain_term c.args.term)) (plain_term c.args.formula) (plain_term c.in_ok-instance.instance) c.in_ok-supposed.ensures.derives.proves p.converted
    (c.in_ok-instance.ensures p.ty p.body is)

pub witness-requires-clause-assumptions : goal.witness-requires-clause-assumptions
witness-requires-clause-assumptions c = assumptions_stay c.suppose.new.self c.convert.new.self c.in_ok-supposed.supposed.hyps c.in_ok-line.ensures.derives.grown c.in_ok-supposed.ensures.assumptions

pub witness-requires-clause-premises : goal.witness-requires-clause-premises
witness-requires-clause-premises c =
    let p = c.requires.premises in
    let is : plain_term c.in_ok-existence.existence ≡ existence p.ty p.body =
    negated_read c.args.self.now c.args.source c.args.hyps.now (existence p.ty p.body) (plain_term c.formula.result.now) (plain_term c.negated.result.now) (plain_term c.in_ok-existence.existence) p.proved c.formula.ensures.formula c.negated.ensures c.in_ok-existence.ensures in
    let P : Term → Type 0 = λ t. Proves c.convert.new.self c.in_ok-line.line c.in_ok-supposed.supposed.hyps t in
    record { ty = p.ty; body = p.body; proved = subst P (c.in_ok-instance.ensures p.ty p.body is) c.in_ok-line.ensures.derives.proves; typed = p.typed; is = is }

pub follow_two-requires-clause-assumptions : goal.follow_two-requires-clause-assumptions
follow_two-requires-clause-assumptions c =
    assumptions_stay c.convert.new.self c.witness.new.self c.in_ok-supposed.supposed.hyps c.in_ok-line-2.ensures.derives.grown
    (assumptions_stay c.suppose.new.self c.convert.new.self c.in_ok-supposed.supposed.hyps c.in_ok-line.ensures.derives.grown c.in_ok-supposed.ensures.assumptions)

pub follow_two-requires-clause-premises : goal.follow_two-requires-clause-premises
follow_two-requires-clause-premises c =
    let p = c.requires.premises in
    let is : plain_term c.in_ok-existence.existence ≡ existence p.ty p.body =
    negated_read c.args.self.now c.args.source c.args.hyps.now (existence p.ty p.body) (plain_term c.formula.result.now) (plain_term c.negated.result.now) (plain_term c.in_ok-existence.existence) p.proved c.formula.ensures.formula c.negated.ensures c.in_ok-existence.ensures in
    let grown = grows_on c.args.self.now c.convert.new.self c.witness.new.self (grows_on c.args.self.now c.suppose.new.self c.convert.new.self c.in_ok-supposed.ensures.derives.grown c.in_ok-line.ensures.derives.grown) c.in_ok-line-2.ensures.derives.grown in
    let denied = proves_stays c.args.self.now c.witness.new.self c.args.source c.args.hyps.now (not_so (existence p.ty p.body)) grown p.proved in
    opposed c.witness.new.self c.in_ok-supposed.supposed.hyps c.args.source c.in_ok-line-2.line (existence p.ty p.body) (plain_term c.in_ok-existence.existence) (plain_term c.falsehood.result) is c.falsehood.ensures
    (proves_with c.witness.new.self c.args.source c.in_ok-supposed.supposed.number c.args.hyps.now c.in_ok-supposed.supposed.hyps (not_so (existence p.ty p.body)) c.in_ok-supposed.ensures.hyps denied) c.in_ok-line-2.ensures.derives.proves

pub refute-requires-clause-assumptions : goal.refute-requires-clause-assumptions
refute-requires-clause-assumptions c =
    let grown = grows_on c.args.self.now c.convert.new.self c.witness.new.self (grows_on c.args.self.now c.suppose.new.self c.convert.new.self c.in_ok-supposed.ensures.derives.grown c.in_ok-line.ensures.derives.grown) c.in_ok-line-2.ensures.derives.grown in
    assumptions_stay c.args.self.now c.follow_two.new.self c.args.hyps.now (grows_on c.args.self.now c.witness.new.self c.follow_two.new.self grown c.in_ok-line-3.ensures.derives.grown) c.requires.assumptions

pub refute-requires-clause-contradicted : goal.refute-requires-clause-contradicted
refute-requires-clause-contradicted c =
    let grown = grows_on c.suppose.new.self c.witness.new.self c.follow_two.new.self (grows_on c.suppose.new.self c.convert.new.self c.witness.new.self c.in_ok-line.ensures.derives.grown c.in_ok-line-2.ensures.derives.grown) c.in_ok-line-3.ensures.derives.grown in (
      plain_term c.args.formula,
      contradicts_with c.suppose.new.self c.follow_two.new.self c.args.hyps.now c.in_ok-supposed.supposed.hyps c.in_ok-supposed.supposed.number c.in_ok-line-3.line (plain_term c.args.formula) (plain_term c.falsehood.result) c.in_ok-supposed.ensures.hyps c.falsehood.ensures grown
          c.in_ok-supposed.ensures.assumes c.in_ok-line-3.ensures.derives.proves,
    )

pub returns-clause-derives : goal.returns-clause-derives
returns-clause-derives c =
    let hyps = c.args.hyps.now in
    let more = c.in_ok-supposed.supposed.hyps in
    let h = c.in_ok-supposed.supposed.number in
    let grown = grows_on c.suppose.new.self c.witness.new.self c.follow_two.new.self (grows_on c.suppose.new.self c.convert.new.self c.witness.new.self c.in_ok-line.ensures.derives.grown c.in_ok-line-2.ensures.derives.grown) c.in_ok-line-3.ensures.derives.grown in
    let contradicted =
    contradicts_with c.suppose.new.self c.follow_two.new.self hyps more h c.in_ok-line-3.line (plain_term c.args.formula) (plain_term c.falsehood.result) c.in_ok-supposed.ensures.hyps c.falsehood.ensures grown
    c.in_ok-supposed.ensures.assumes c.in_ok-line-3.ensures.derives.proves in
    let two = derives_then 1 1 2 c.args.self.now c.suppose.new.self c.convert.new.self h c.in_ok-line.line more more (plain_term c.args.formula) (plain_term c.in_ok-instance.instance) refl c.in_ok-supposed.ensures.derives c.in_ok-line.ensures.derives in
    let three = derives_then 2 1 3 c.args.self.now c.convert.new.self c.witness.new.self c.in_ok-line.line c.in_ok-line-2.line more more (plain_term c.in_ok-instance.instance) (plain_term c.in_ok-existence.existence) refl two c.in_ok-line-2.ensures.derives in
    let four = derives_then 3 1 4 c.args.self.now c.witness.new.self c.follow_two.new.self c.in_ok-line-2.line c.in_ok-line-3.line more more (plain_term c.in_ok-existence.existence) (plain_term c.falsehood.result) refl three c.in_ok-line-3.ensures.derives in
    ok_derives_then c.refute.result 4 2 6 c.args.self.now c.follow_two.new.self c.refute.new.self c.in_ok-line-3.line more hyps (plain_term c.falsehood.result) (not_so (plain_term c.args.formula)) refl four (c.refute.ensures.derives (plain_term c.args.formula) contradicted)

pub returns-in_err-existence-clause-grown : goal.returns-in_err-existence-clause-grown
returns-in_err-existence-clause-grown c =
    same_grows c.args.self.now c.args.self.now refl

pub returns-in_err-instance-clause-grown : goal.returns-in_err-instance-clause-grown
returns-in_err-instance-clause-grown c =
    same_grows c.args.self.now c.args.self.now refl

pub returns-in_err-supposed-clause-grown : goal.returns-in_err-supposed-clause-grown
returns-in_err-supposed-clause-grown c =
    c.in_err-supposed.ensures.grown

pub returns-in_err-line-clause-grown : goal.returns-in_err-line-clause-grown
returns-in_err-line-clause-grown c =
    grows_on c.args.self.now c.suppose.new.self c.convert.new.self c.in_ok-supposed.ensures.grown (same_grows c.suppose.new.self c.convert.new.self c.in_err-line.ensures.err)

pub returns-in_err-line-2-clause-grown : goal.returns-in_err-line-2-clause-grown
returns-in_err-line-2-clause-grown c =
    grows_on c.args.self.now c.convert.new.self c.witness.new.self (grows_on c.args.self.now c.suppose.new.self c.convert.new.self c.in_ok-supposed.ensures.grown c.in_ok-line.ensures.derives.grown) (same_grows c.convert.new.self c.witness.new.self c.in_err-line-2.ensures.err)

pub returns-in_err-line-3-clause-grown : goal.returns-in_err-line-3-clause-grown
returns-in_err-line-3-clause-grown c =
    grows_on c.args.self.now c.witness.new.self c.follow_two.new.self (grows_on c.args.self.now c.convert.new.self c.witness.new.self (grows_on c.args.self.now c.suppose.new.self c.convert.new.self c.in_ok-supposed.ensures.grown c.in_ok-line.ensures.derives.grown) c.in_ok-line-2.ensures.derives.grown) (same_grows c.witness.new.self c.follow_two.new.self c.in_err-line-3.ensures.err)

pub returns-clause-grown : goal.returns-clause-grown
returns-clause-grown c =
    grows_on c.args.self.now c.follow_two.new.self c.refute.new.self (grows_on c.args.self.now c.witness.new.self c.follow_two.new.self (grows_on c.args.self.now c.convert.new.self c.witness.new.self (grows_on c.args.self.now c.suppose.new.self c.convert.new.self c.in_ok-supposed.ensures.grown c.in_ok-line.ensures.derives.grown) c.in_ok-line-2.ensures.derives.grown) c.in_ok-line-3.ensures.derives.grown) c.refute.ensures.grown
