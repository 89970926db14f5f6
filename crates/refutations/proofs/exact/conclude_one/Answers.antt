use Rattle.std.proofs.lemmas.List.Elements.{All-contains_itself}
use Rattle.hol_terms.specs.Terms.{plain_term}
use Rattle.refutations.proofs.Resting.{assumptions_among, copied_rests, ok_derives_from_more, proves_from_own, rests_within}
use Rattle.refutations.proofs.exact.conclude_one.Goals as goal

pub follow_one-requires-clause-assumptions : goal.follow_one-requires-clause-assumptions
follow_one-requires-clause-assumptions c =
    let p = c.requires.premises in
    let lines = c.args.deduction.now in
    let own = c.in_ok-own.own in
    let rests = copied_rests lines c.args.source c.hyps_of.result.now own c.hyps_of.ensures c.in_ok-own.ensures in
    assumptions_among lines own p.0 (rests_within lines c.args.source own p.0 p.1 rests p.3) p.2

pub follow_one-requires-clause-premises : goal.follow_one-requires-clause-premises
follow_one-requires-clause-premises c =
    let p = c.requires.premises in
    let lines = c.args.deduction.now in
    let own = c.in_ok-own.own in
    let rests = copied_rests lines c.args.source c.hyps_of.result.now own c.hyps_of.ensures c.in_ok-own.ensures in
    (p.1, proves_from_own lines c.args.source own own p.0 p.1 rests (All-contains_itself own) p.3, p.4)

pub returns-clause-derives : goal.returns-clause-derives
returns-clause-derives c =
    λ hyps a assumed proved.
    let lines = c.args.deduction.now in
    let own = c.in_ok-own.own in
    let rests = copied_rests lines c.args.source c.hyps_of.result.now own c.hyps_of.ensures c.in_ok-own.ensures in
    ok_derives_from_more c.follow_one.result 1 lines c.follow_one.new.self own hyps (plain_term c.args.formula) (rests_within lines c.args.source own hyps a rests proved) c.follow_one.ensures.derives
