use Rattle.std.proofs.Common.{◌≡◌, map, take}
use Rattle.term_lists.specs.Heads.{plain_head}
use Rattle.plain_search.proofs.tasks.copies.Given as goal

abbrev pub invariant-loop-head : goal.invariant-loop-head
invariant-loop-head l = map plain_head l.all.items ≡ map plain_head (take l.head-index l.heads)
