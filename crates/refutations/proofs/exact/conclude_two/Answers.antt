use Rattle.hol_terms.specs.Terms.{plain_term}
use Rattle.refutations.proofs.Resting.{assumptions_among, ok_derives_from_more, proves_from_own, rests_within}
use Rattle.refutations.proofs.exact.conclude_two.Goals as goal

pub follow_two-requires-clause-assumptions : goal.follow_two-requires-clause-assumptions
follow_two-requires-clause-assumptions c =
    let p = c.requires.premises in
    let lines = c.args.deduction.now in
    let own = c.in_ok-own.own in
    let within = c.in_ok-own.ensures.only p.0 (rests_within lines c.args.first c.hyps_of.result.now p.0 p.1 c.hyps_of.ensures p.4) (rests_within lines c.args.second c.hyps_of-2.result.now p.0 p.2 c.hyps_of-2.ensures p.5) in
    assumptions_among lines own p.0 within p.3

pub follow_two-requires-clause-premises : goal.follow_two-requires-clause-premises
follow_two-requires-clause-premises c =
    let p = c.requires.premises in
    let lines = c.args.deduction.now in
    let own = c.in_ok-own.own in (
      p.1,
      p.2,
      proves_from_own lines c.args.first c.hyps_of.result.now own p.0 p.1 c.hyps_of.ensures c.in_ok-own.ensures.first p.4,
      proves_from_own lines c.args.second c.hyps_of-2.result.now own p.0 p.2 c.hyps_of-2.ensures c.in_ok-own.ensures.second p.5,
      p.6,
    )

pub returns-clause-derives : goal.returns-clause-derives
returns-clause-derives c =
    λ hyps a b assumed first second.
    let lines = c.args.deduction.now in
    let own = c.in_ok-own.own in
    let within = c.in_ok-own.ensures.only hyps (rests_within lines c.args.first c.hyps_of.result.now hyps a c.hyps_of.ensures first) (rests_within lines c.args.second c.hyps_of-2.result.now hyps b c.hyps_of-2.ensures second) in
    ok_derives_from_more c.follow_two.result 1 lines c.follow_two.new.self own hyps (plain_term c.args.formula) within c.follow_two.ensures.derives
