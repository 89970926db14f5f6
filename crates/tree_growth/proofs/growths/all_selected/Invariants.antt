use Rattle.std.proofs.Common.{◌≡◌, map}
use Rattle.tree_growth.specs.Growths.{plain_growth}
use Rattle.tree_growth.specs.Wrapped.{under_selection}
use Rattle.tree_growth.proofs.growths.all_selected.Given as goal

abbrev pub invariant-loop-growth : goal.invariant-loop-growth
invariant-loop-growth l = map plain_growth l.all.items ≡ map (under_selection l.name) (map plain_growth l.yielded)
