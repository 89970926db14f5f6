use Rattle.std.proofs.Common.{◌≡◌, ◌++◌, take}
use Rattle.nd_rules.proofs.naming.with_more.Given as goal

abbrev pub invariant-loop-n : goal.invariant-loop-n
invariant-loop-n l = l.numbers ≡ l.initial.numbers ++ take l.n-index l.items
