use Rattle.std.proofs.Common.{map}
use Rattle.hol_terms.specs.Terms.{plain_term}
use Rattle.tree_growth.specs.Growths.{plain_growth}
use Rattle.plain_search.specs.Levels.{plain_levels}
use Rattle.plain_search.proofs.Levelling.{HasNextUpTo}
use Rattle.plain_search.proofs.search.next_level.Given as goal

abbrev pub invariant-loop-weight : goal.invariant-loop-weight
invariant-loop-weight l = HasNextUpTo (plain_term l.task.formula) l.task.level (plain_levels l.levels) l.weight (map plain_growth l.level.items)
