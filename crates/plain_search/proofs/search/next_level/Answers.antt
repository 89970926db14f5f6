use Rattle.std.proofs.Common.{◌-◌, length, map, refl, arith}
use Rattle.hol_terms.specs.Terms.{plain_term}
use Rattle.tree_growth.specs.Growths.{plain_growth}
use Rattle.plain_search.proofs.Searching.{all_rows, next_row, row_candidates}
use Rattle.plain_search.proofs.search.next_level.Goals as goal

pub add_grown-requires-clause-candidates : goal.add_grown-requires-clause-candidates
add_grown-requires-clause-candidates c =
    rw c.deref.ensures.value (c.loop-weight.weight, row_candidates (plain_term c.args.task.now.formula) c.args.task.now.level c.args.levels.now c.loop-weight.weight c.index-levels-weight.result c.requires.levels c.loop-weight-test.true c.index-levels-weight.is)

pub loop-weight-preserved : goal.loop-weight-preserved
loop-weight-preserved c =
    let added = rw c.deref.ensures.value at c.in_ok-add_grown.ensures in
    next_row (plain_term c.args.task.now.formula) c.args.task.now.level c.args.levels.now c.loop-weight.weight (length c.args.levels.now - c.loop-weight.weight) c.index-levels-weight.result (map plain_growth c.loop-weight.level.items) (map plain_growth c.add_grown.new.level.items)
    c.requires.levels c.loop-weight-test.true c.index-levels-weight.is refl c.loop-weight.invariant added

pub returns : goal.returns
returns c =
    all_rows (plain_term c.args.task.now.formula) c.args.task.now.level c.args.levels.now c.loop-weight.weight (map plain_growth c.loop-weight.level.items) c.requires.levels c.requires.some (omega arith) c.loop-weight.invariant
