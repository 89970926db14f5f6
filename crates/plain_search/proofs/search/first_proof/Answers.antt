use Rattle.hol_terms.specs.Terms.{plain_term}
use Rattle.tree_growth.specs.Growths.{plain_growth}
use Rattle.plain_search.specs.Trials.{CanBeMated}
use Rattle.plain_search.proofs.Searching.{all_tried, next_tried, none_mated, proof_among}
use Rattle.plain_search.proofs.search.first_proof.Goals as goal

pub returns-in-Some-clause-some : goal.returns-in-Some-clause-some
returns-in-Some-clause-some c =
    let facts = rw c.in-Some.is at c.in_ok-accepted.ensures.some in
    proof_among (plain_term c.args.formula.now) c.args.growths.now c.loop-growth.growth-index c.growth-item.result c.in-Some.accepted c.loop-growth-test.true c.growth-item.is facts.0 facts.1 facts.2

pub loop-growth-preserved : goal.loop-growth-preserved
loop-growth-preserved c =
    next_tried (plain_term c.args.formula.now) c.args.growths.now c.loop-growth.growth-index c.growth-item.result c.loop-growth-test.true c.growth-item.is c.loop-growth.invariant
    (none_mated c.in_ok-accepted.field-0 (CanBeMated (plain_term c.args.formula.now) (plain_growth c.growth-item.result).0 → ⊥) c.in_default.not-Some c.in_ok-accepted.ensures.none)

pub returns-clause-none : goal.returns-clause-none
returns-clause-none c = all_tried (plain_term c.args.formula.now) c.args.growths.now c.loop-growth.growth-index c.loop-growth-test.false c.loop-growth.invariant
