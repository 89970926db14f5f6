use Rattle.hol_terms.specs.Terms.{plain_term}
use Rattle.expansion_tree.proofs.Walks.{closed_stood, empty_stood}
use Rattle.expansion_tree.proofs.fit.stand_constant.Goals as goal

pub returns-then-value-positive-clause-ok : goal.returns-then-value-positive-clause-ok
returns-then-value-positive-clause-ok c found =
    closed_stood c.args.positive c.in-Some.value (plain_term c.args.formula) c.args.node c.in_ok-end.end found c.in-Some.ensures.some c.if-value-positive.true c.in_ok-end.ensures.ok

pub returns-else-value-positive-clause-ok : goal.returns-else-value-positive-clause-ok
returns-else-value-positive-clause-ok c found =
    empty_stood c.args.positive c.in-Some.value (plain_term c.args.formula) c.args.node c.in_ok-end.end found c.in-Some.ensures.some c.if-value-positive.false c.in_ok-end.ensures.ok
