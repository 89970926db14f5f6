use Rattle.std.proofs.Common.{◌≡◌, ◌++◌, map, take}
use Rattle.term_lists.specs.Heads.{plain_head}
use Rattle.term_lists.proofs.typed_heads.add_typed.Given as goal

abbrev pub invariant-loop-head : goal.invariant-loop-head
invariant-loop-head l = l.typed.items ≡ l.fn.typed.items ++ map plain_head (take l.head-index l.heads)
