use Rattle.std.proofs.Common.{map}
use Rattle.hol_terms.specs.Terms.{plain_term}
use Rattle.tree_growth.specs.Growths.{plain_growth}
use Rattle.plain_search.proofs.Searching.{candidate_at, next_grown, trees_appended}
use Rattle.plain_search.proofs.search.add_grown.Goals as goal

pub grown-requires-clause-candidate : goal.grown-requires-clause-candidate
grown-requires-clause-candidate c = (
  c.requires.candidates.0,
  candidate_at (plain_term c.args.task.now.formula) c.args.task.now.level c.requires.candidates.0 c.args.growths.now c.loop-growth.growth-index c.growth-item.result c.loop-growth-test.true c.growth-item.is
      c.requires.candidates.1,
)

pub loop-growth-preserved : goal.loop-growth-preserved
loop-growth-preserved c =
    next_grown (plain_term c.args.task.now.formula) c.args.task.now.level c.args.growths.now c.loop-growth.growth-index c.growth-item.result c.args.weight (map plain_growth c.args.level.now.items)
    (map plain_growth c.loop-growth.level.items) (map plain_growth c.append.new.self.items) (map plain_growth c.in_ok-grown.grown.items) c.loop-growth-test.true c.growth-item.is c.loop-growth.invariant
    c.in_ok-grown.ensures.candidates c.in_ok-grown.ensures.grown (trees_appended c.loop-growth.level.items c.in_ok-grown.grown.items c.append.new.self.items c.in_ok-append.ensures.items)
