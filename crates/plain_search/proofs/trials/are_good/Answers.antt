use Rattle.hol_terms.specs.Terms.{plain_term}
use Rattle.plain_search.proofs.Mated.{good_where_same}
use Rattle.plain_search.proofs.trials.are_good.Goals as goal

pub returns-then-a-b : goal.returns-then-a-b
returns-then-a-b c =
    good_where_same c.args.fitted.now.leaf_list c.args.i c.args.j c.leaf-a.result.positive c.leaf-b.result.positive (plain_term c.leaf-a.result.formula.now) (plain_term c.leaf-b.result.formula.now)
    c.same.result c.requires.first c.requires.other_first c.leaf-a.ensures c.leaf-b.ensures c.if-a-b.true c.same.ensures
