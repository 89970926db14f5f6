use Rattle.std.proofs.Common.{arith, subst}
use Rattle.std.specs.Prelude.{IfOk}
use Rattle.hol_terms.specs.Terms.{Term, constant, falsehood, plain_term}
use Rattle.expansion_tree.specs.Standing.{quantified, selecting}
use Rattle.refutations.specs.Opens.{said}
use Rattle.refutations.specs.Reaching.{Reaches}
use Rattle.refutations.proofs.Resting.{RestsBeside, assumptions_among, beside_within, chooses, denies_universal, ok_reaches_from_more, proves_beside, proves_from_own, rests_within}
use Rattle.refutations.proofs.exact.discharge_choice.Goals as goal

pub deny_universal-requires-clause-assumptions : goal.deny_universal-requires-clause-assumptions
deny_universal-requires-clause-assumptions c =
    let lines = c.args.deduction.now in
    let source = c.args.source in
    let h = c.args.contradiction.hyp in
    let n = c.args.contradiction.source in
    let own = c.in_ok-own.own in
    let others = c.in_ok-others.others in
    let beside : RestsBeside lines n h others = record { own = c.hyps_of.result.now; rests = c.hyps_of.ensures; all = c.in_ok-others.ensures.all; only = c.in_ok-others.ensures.only } in
    let hyps = c.requires.premises.0 in
    let choice = c.requires.premises.2 in
    let line = c.requires.premises.3 in
    let formula = said c.args.positive (quantified (selecting c.args.positive choice.ty) choice.ty choice.body) in
    let within = c.in_ok-own.ensures.only hyps (rests_within lines source c.hyps_of-2.result.now hyps formula c.hyps_of-2.ensures choice.proved) (beside_within lines n h others hyps (constant falsehood) beside line) in
    assumptions_among lines own hyps within c.requires.premises.1

pub deny_universal-requires-clause-premises : goal.deny_universal-requires-clause-premises
deny_universal-requires-clause-premises c =
    let lines = c.args.deduction.now in
    let source = c.args.source in
    let h = c.args.contradiction.hyp in
    let n = c.args.contradiction.source in
    let own = c.in_ok-own.own in
    let others = c.in_ok-others.others in
    let beside : RestsBeside lines n h others = record { own = c.hyps_of.result.now; rests = c.hyps_of.ensures; all = c.in_ok-others.ensures.all; only = c.in_ok-others.ensures.only } in
    let hyps = c.requires.premises.0 in
    let choice = c.requires.premises.2 in
    let line = c.requires.premises.3 in
    let formula = said c.args.positive (quantified (selecting c.args.positive choice.ty) choice.ty choice.body) in
    let within = c.in_ok-own.ensures.only hyps (rests_within lines source c.hyps_of-2.result.now hyps formula c.hyps_of-2.ensures choice.proved) (beside_within lines n h others hyps (constant falsehood) beside line) in
    let proved = proves_from_own lines source c.hyps_of-2.result.now own hyps formula c.hyps_of-2.ensures c.in_ok-own.ensures.first choice.proved in
    let contradicted = proves_beside lines n h others own hyps (constant falsehood) beside c.in_ok-own.ensures.second line in
    denies_universal lines own hyps c.args.positive source h n c.args.name.now c.in_ok-name.name choice c.if-positive.true c.in_ok-name.ensures within proved contradicted

pub returns-then-positive-clause-reaches : goal.returns-then-positive-clause-reaches
returns-then-positive-clause-reaches c =
    λ hyps assumed choice line.
    let lines = c.args.deduction.now in
    let source = c.args.source in
    let h = c.args.contradiction.hyp in
    let n = c.args.contradiction.source in
    let own = c.in_ok-own.own in
    let others = c.in_ok-others.others in
    let beside : RestsBeside lines n h others = record { own = c.hyps_of.result.now; rests = c.hyps_of.ensures; all = c.in_ok-others.ensures.all; only = c.in_ok-others.ensures.only } in
    let formula = said c.args.positive (quantified (selecting c.args.positive choice.ty) choice.ty choice.body) in
    let within = c.in_ok-own.ensures.only hyps (rests_within lines source c.hyps_of-2.result.now hyps formula c.hyps_of-2.ensures choice.proved) (beside_within lines n h others hyps (constant falsehood) beside line) in
    ok_reaches_from_more c.deny_universal.result 4 4 lines c.deny_universal.new.self own hyps (constant falsehood) (omega arith) within c.deny_universal.ensures.derives

pub choose-requires-clause-assumptions : goal.choose-requires-clause-assumptions
choose-requires-clause-assumptions c =
    let lines = c.args.deduction.now in
    let source = c.args.source in
    let h = c.args.contradiction.hyp in
    let n = c.args.contradiction.source in
    let own = c.in_ok-own.own in
    let others = c.in_ok-others.others in
    let beside : RestsBeside lines n h others = record { own = c.hyps_of.result.now; rests = c.hyps_of.ensures; all = c.in_ok-others.ensures.all; only = c.in_ok-others.ensures.only } in
    let hyps = c.requires.premises.0 in
    let choice = c.requires.premises.2 in
    let line = c.requires.premises.3 in
    let formula = said c.args.positive (quantified (selecting c.args.positive choice.ty) choice.ty choice.body) in
    let within = c.in_ok-own.ensures.only hyps (rests_within lines source c.hyps_of-2.result.now hyps formula c.hyps_of-2.ensures choice.proved) (beside_within lines n h others hyps (constant falsehood) beside line) in
    assumptions_among lines own hyps within c.requires.premises.1

pub choose-requires-clause-premises : goal.choose-requires-clause-premises
choose-requires-clause-premises c =
    let lines = c.args.deduction.now in
    let source = c.args.source in
    let h = c.args.contradiction.hyp in
    let n = c.args.contradiction.source in
    let own = c.in_ok-own.own in
    let others = c.in_ok-others.others in
    let beside : RestsBeside lines n h others = record { own = c.hyps_of.result.now; rests = c.hyps_of.ensures; all = c.in_ok-others.ensures.all; only = c.in_ok-others.ensures.only } in
    let hyps = c.requires.premises.0 in
    let choice = c.requires.premises.2 in
    let line = c.requires.premises.3 in
    let formula = said c.args.positive (quantified (selecting c.args.positive choice.ty) choice.ty choice.body) in
    let within = c.in_ok-own.ensures.only hyps (rests_within lines source c.hyps_of-2.result.now hyps formula c.hyps_of-2.ensures choice.proved) (beside_within lines n h others hyps (constant falsehood) beside line) in
    let proved = proves_from_own lines source c.hyps_of-2.result.now own hyps formula c.hyps_of-2.ensures c.in_ok-own.ensures.first choice.proved in
    let contradicted = proves_beside lines n h others own hyps (constant falsehood) beside c.in_ok-own.ensures.second line in
    chooses lines own hyps c.args.positive source h n c.args.name.now c.in_ok-name.name (plain_term c.falsehood.result) choice c.if-positive.false c.in_ok-name.ensures c.falsehood.ensures within proved contradicted

pub returns-clause-reaches : goal.returns-clause-reaches
returns-clause-reaches c =
    λ hyps assumed choice line.
    let lines = c.args.deduction.now in
    let source = c.args.source in
    let h = c.args.contradiction.hyp in
    let n = c.args.contradiction.source in
    let own = c.in_ok-own.own in
    let others = c.in_ok-others.others in
    let beside : RestsBeside lines n h others = record { own = c.hyps_of.result.now; rests = c.hyps_of.ensures; all = c.in_ok-others.ensures.all; only = c.in_ok-others.ensures.only } in
    let formula = said c.args.positive (quantified (selecting c.args.positive choice.ty) choice.ty choice.body) in
    let within = c.in_ok-own.ensures.only hyps (rests_within lines source c.hyps_of-2.result.now hyps formula c.hyps_of-2.ensures choice.proved) (beside_within lines n h others hyps (constant falsehood) beside line) in
    let P : Term → Type 0 = λ t. IfOk c.choose.result (λ k. Reaches 4 lines c.choose.new.self k hyps t) in
    subst P c.falsehood.ensures (ok_reaches_from_more c.choose.result 1 4 lines c.choose.new.self own hyps (plain_term c.falsehood.result) (omega arith) within c.choose.ensures.derives)
