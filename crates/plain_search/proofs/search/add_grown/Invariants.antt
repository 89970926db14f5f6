use Rattle.std.proofs.Common.{map, take}
use Rattle.hol_terms.specs.Terms.{plain_term}
use Rattle.tree_growth.specs.Growths.{plain_growth}
use Rattle.plain_search.specs.Levels.{HasAllGrown}
use Rattle.plain_search.proofs.search.add_grown.Given as goal

abbrev pub invariant-loop-growth : goal.invariant-loop-growth
invariant-loop-growth l = HasAllGrown (plain_term l.task.formula) l.task.level (map plain_growth (take l.growth-index l.growths)) l.weight (map plain_growth l.fn.level.items) (map plain_growth l.level.items)
