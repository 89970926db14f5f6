use Rattle.std.proofs.Common.{◌≡◌, ◌<◌, ◌^◌, All, map}
use Rattle.term_lists.specs.Heads.{plain_head}
use Rattle.tree_growth.specs.Growths.{GrownTree, plain_growth}
use Rattle.plain_search.specs.Levels.{with_selected}
use Rattle.plain_search.proofs.tasks.all_with_selected.Given as goal

abbrev pub invariant-loop-growth : goal.invariant-loop-growth
invariant-loop-growth l = record {
  trees : map plain_growth l.all.items ≡ map (with_selected (map plain_head l.selected)) (map plain_growth l.yielded);
  numbers : All (λ (e : GrownTree). e.1.next < 2 ^ 64) (map plain_growth l.yielded);
}
