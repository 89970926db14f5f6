use Rattle.std.proofs.Common.{◌≡◌, true}
use Rattle.hol_terms.specs.Terms.{plain_type}
use Rattle.term_lists.proofs.TypeOrder.{found_among, none_more, none_at_all}
use Rattle.term_lists.proofs.type_lists.is_among.Goals as goal

pub returns-then-same : goal.returns-then-same
returns-then-same c =
    found_among c.args.types.now c.loop-other.other-index c.other-item.result (plain_type c.args.ty.now) c.loop-other-test.true c.other-item.is
    (c.same.ensures.0 c.if-same.true)

pub loop-other-preserved : goal.loop-other-preserved
loop-other-preserved c =
    none_more c.args.types.now c.loop-other.other-index c.other-item.result (plain_type c.args.ty.now) c.loop-other-test.true c.other-item.is
    (λ e. let yes : c.same.result ≡ true = c.same.ensures.1 e in let never = c.if-same.false in absurd (cc)) c.loop-other.invariant

pub returns : goal.returns
returns c = none_at_all c.args.types.now c.loop-other.other-index (plain_type c.args.ty.now) c.loop-other-test.false c.loop-other.invariant
