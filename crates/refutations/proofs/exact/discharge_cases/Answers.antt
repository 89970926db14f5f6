use Rattle.std.proofs.Common.{arith}
use Rattle.hol_terms.specs.Terms.{constant, falsehood}
use Rattle.refutations.proofs.Resting.{RestsBeside, assumptions_among, beside_within, ok_reaches_from_more, proves_beside, proves_from_own, rests_within, splits}
use Rattle.refutations.proofs.Uniting.{held_on}
use Rattle.refutations.proofs.exact.discharge_cases.Goals as goal

pub split-requires-clause-assumptions : goal.split-requires-clause-assumptions
split-requires-clause-assumptions c =
    let lines = c.args.deduction.now in
    let source = c.args.source in
    let first = c.args.first in
    let second = c.args.second in
    let own = c.in_ok-own.own in
    let others = c.in_ok-others.others in
    let not_first = c.in_ok-not_first.not_first in
    let not_second = c.in_ok-not_second.not_second in
    let beside_first : RestsBeside lines first.source first.hyp not_first = record { own = c.hyps_of.result.now; rests = c.hyps_of.ensures; all = c.in_ok-not_first.ensures.all; only = c.in_ok-not_first.ensures.only } in
    let beside_second : RestsBeside lines second.source second.hyp not_second = record { own = c.hyps_of-2.result.now; rests = c.hyps_of-2.ensures; all = c.in_ok-not_second.ensures.all; only = c.in_ok-not_second.ensures.only } in
    let hyps = c.requires.premises.0 in
    let case = c.requires.premises.2 in
    let line = c.requires.premises.3 in
    let first_within = beside_within lines first.source first.hyp not_first hyps (constant falsehood) beside_first case.not_first.proved in
    let second_within = beside_within lines second.source second.hyp not_second hyps (constant falsehood) beside_second line in
    let within = c.in_ok-own.ensures.only hyps (rests_within lines source c.hyps_of-3.result.now hyps case.formula c.hyps_of-3.ensures case.proved) (c.in_ok-others.ensures.only hyps first_within second_within) in
    assumptions_among lines own hyps within c.requires.premises.1

pub split-requires-clause-premises : goal.split-requires-clause-premises
split-requires-clause-premises c =
    let lines = c.args.deduction.now in
    let source = c.args.source in
    let first = c.args.first in
    let second = c.args.second in
    let own = c.in_ok-own.own in
    let others = c.in_ok-others.others in
    let not_first = c.in_ok-not_first.not_first in
    let not_second = c.in_ok-not_second.not_second in
    let beside_first : RestsBeside lines first.source first.hyp not_first = record { own = c.hyps_of.result.now; rests = c.hyps_of.ensures; all = c.in_ok-not_first.ensures.all; only = c.in_ok-not_first.ensures.only } in
    let beside_second : RestsBeside lines second.source second.hyp not_second = record { own = c.hyps_of-2.result.now; rests = c.hyps_of-2.ensures; all = c.in_ok-not_second.ensures.all; only = c.in_ok-not_second.ensures.only } in
    let hyps = c.requires.premises.0 in
    let case = c.requires.premises.2 in
    let line = c.requires.premises.3 in
    let proved = proves_from_own lines source c.hyps_of-3.result.now own hyps case.formula c.hyps_of-3.ensures c.in_ok-own.ensures.first case.proved in
    let first_proved = proves_beside lines first.source first.hyp not_first own hyps (constant falsehood) beside_first (held_on not_first others own c.in_ok-others.ensures.first c.in_ok-own.ensures.second) case.not_first.proved in
    let second_proved = proves_beside lines second.source second.hyp not_second own hyps (constant falsehood) beside_second (held_on not_second others own c.in_ok-others.ensures.second c.in_ok-own.ensures.second) line in
    splits lines own hyps source first.hyp first.source second.hyp second.source case proved first_proved second_proved

pub returns-clause-reaches : goal.returns-clause-reaches
returns-clause-reaches c =
    λ hyps assumed case line.
    let lines = c.args.deduction.now in
    let source = c.args.source in
    let first = c.args.first in
    let second = c.args.second in
    let own = c.in_ok-own.own in
    let others = c.in_ok-others.others in
    let not_first = c.in_ok-not_first.not_first in
    let not_second = c.in_ok-not_second.not_second in
    let beside_first : RestsBeside lines first.source first.hyp not_first = record { own = c.hyps_of.result.now; rests = c.hyps_of.ensures; all = c.in_ok-not_first.ensures.all; only = c.in_ok-not_first.ensures.only } in
    let beside_second : RestsBeside lines second.source second.hyp not_second = record { own = c.hyps_of-2.result.now; rests = c.hyps_of-2.ensures; all = c.in_ok-not_second.ensures.all; only = c.in_ok-not_second.ensures.only } in
    let first_within = beside_within lines first.source first.hyp not_first hyps (constant falsehood) beside_first case.not_first.proved in
    let second_within = beside_within lines second.source second.hyp not_second hyps (constant falsehood) beside_second line in
    let within = c.in_ok-own.ensures.only hyps (rests_within lines source c.hyps_of-3.result.now hyps case.formula c.hyps_of-3.ensures case.proved) (c.in_ok-others.ensures.only hyps first_within second_within) in
    ok_reaches_from_more c.split.result 3 4 lines c.split.new.self own hyps (constant falsehood) (omega arith) within c.split.ensures.derives
