use Rattle.std.proofs.Common.{Bool, arith, subst, sym}
use Rattle.std.specs.Prelude.{IfOk}
use Rattle.std.proofs.lemmas.List.Elements.{All-contains_itself}
use Rattle.hol_terms.specs.Terms.{plain_term}
use Rattle.expansion_tree.specs.Standing.{expanding, quantified}
use Rattle.nd_steps.specs.Premises.{not_so}
use Rattle.refutations.specs.Opens.{said}
use Rattle.refutations.specs.Reaching.{Reaches}
use Rattle.refutations.proofs.Resting.{assumptions_among, copied_rests, denies_instance, instantiates, ok_reaches_from_more, proves_from_own, rests_within}
use Rattle.refutations.proofs.exact.expand.Goals as goal

pub deny_instance-requires-clause-assumptions : goal.deny_instance-requires-clause-assumptions
deny_instance-requires-clause-assumptions c =
    let p = c.requires.premises in
    let lines = c.args.deduction.now in
    let own = c.in_ok-own.own in
    let rests = copied_rests lines c.args.source c.hyps_of.result.now own c.hyps_of.ensures c.in_ok-own.ensures in
    assumptions_among lines own p.0 (rests_within lines c.args.source own p.0 (said c.args.positive (quantified (expanding c.args.positive p.1) p.1 p.2)) rests p.4) p.3

pub deny_instance-requires-clause-premises : goal.deny_instance-requires-clause-premises
deny_instance-requires-clause-premises c =
    let p = c.requires.premises in
    let lines = c.args.deduction.now in
    let own = c.in_ok-own.own in
    let rests = copied_rests lines c.args.source c.hyps_of.result.now own c.hyps_of.ensures c.in_ok-own.ensures in
    let proved = proves_from_own lines c.args.source own own p.0 (said c.args.positive (quantified (expanding c.args.positive p.1) p.1 p.2)) rests (All-contains_itself own) p.4 in
    denies_instance lines own c.args.source c.args.positive p.1 p.2 (plain_term c.args.term) (plain_term c.args.lower) c.if-positive.true proved p.5 p.6

pub returns-then-positive-clause-reaches : goal.returns-then-positive-clause-reaches
returns-then-positive-clause-reaches c =
    λ hyps ty b assumed proved.
    let lines = c.args.deduction.now in
    let own = c.in_ok-own.own in
    let rests = copied_rests lines c.args.source c.hyps_of.result.now own c.hyps_of.ensures c.in_ok-own.ensures in
    let within = rests_within lines c.args.source own hyps (said c.args.positive (quantified (expanding c.args.positive ty) ty b)) rests proved in
    let P : Bool → Type 0 = λ v. IfOk c.deny_instance.result (λ n. Reaches 6 lines c.deny_instance.new.self n hyps (said v (plain_term c.args.lower))) in
    subst P (sym c.if-positive.true) (ok_reaches_from_more c.deny_instance.result 6 6 lines c.deny_instance.new.self own hyps (not_so (plain_term c.args.lower)) (omega arith) within c.deny_instance.ensures.derives)

pub instance_as-requires-clause-assumptions : goal.instance_as-requires-clause-assumptions
instance_as-requires-clause-assumptions c =
    let p = c.requires.premises in
    let lines = c.args.deduction.now in
    let own = c.in_ok-own.own in
    let rests = copied_rests lines c.args.source c.hyps_of.result.now own c.hyps_of.ensures c.in_ok-own.ensures in
    assumptions_among lines own p.0 (rests_within lines c.args.source own p.0 (said c.args.positive (quantified (expanding c.args.positive p.1) p.1 p.2)) rests p.4) p.3

pub instance_as-requires-clause-premises : goal.instance_as-requires-clause-premises
instance_as-requires-clause-premises c =
    let p = c.requires.premises in
    let lines = c.args.deduction.now in
    let own = c.in_ok-own.own in
    let rests = copied_rests lines c.args.source c.hyps_of.result.now own c.hyps_of.ensures c.in_ok-own.ensures in
    let proved = proves_from_own lines c.args.source own own p.0 (said c.args.positive (quantified (expanding c.args.positive p.1) p.1 p.2)) rests (All-contains_itself own) p.4 in
    instantiates lines own c.args.source c.args.positive p.1 p.2 (plain_term c.args.term) (plain_term c.args.lower) c.if-positive.false proved p.5 p.6

pub returns-clause-reaches : goal.returns-clause-reaches
returns-clause-reaches c =
    λ hyps ty b assumed proved.
    let lines = c.args.deduction.now in
    let own = c.in_ok-own.own in
    let rests = copied_rests lines c.args.source c.hyps_of.result.now own c.hyps_of.ensures c.in_ok-own.ensures in
    let within = rests_within lines c.args.source own hyps (said c.args.positive (quantified (expanding c.args.positive ty) ty b)) rests proved in
    let P : Bool → Type 0 = λ v. IfOk c.instance_as.result (λ n. Reaches 6 lines c.instance_as.new.self n hyps (said v (plain_term c.args.lower))) in
    subst P (sym c.if-positive.false) (ok_reaches_from_more c.instance_as.result 2 6 lines c.instance_as.new.self own hyps (plain_term c.args.lower) (omega arith) within c.instance_as.ensures.derives)
