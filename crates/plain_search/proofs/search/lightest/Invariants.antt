use Rattle.std.proofs.Common.{◌≡◌, ◌+◌, length}
use Rattle.hol_terms.specs.Terms.{plain_term}
use Rattle.plain_search.specs.Levels.{AreLevels, plain_levels}
use Rattle.plain_search.specs.Searching.{HasNoLighterProof}
use Rattle.plain_search.proofs.search.lightest.Given as goal

abbrev pub invariant-loop-lighter : goal.invariant-loop-lighter
invariant-loop-lighter l = record {
  levels : AreLevels (plain_term l.task.formula) l.task.level (plain_levels l.levels.items);
  many : length l.levels.items ≡ l.lighter + 1;
  none : HasNoLighterProof (plain_term l.task.formula) (plain_levels l.levels.items) l.lighter;
}
