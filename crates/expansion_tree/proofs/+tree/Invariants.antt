use Rattle.std.proofs.Common.{◌≤◌}
use Rattle.expansion_tree.specs.declared.trees.Branches.{size-Branches}
use Rattle.expansion_tree.proofs.+tree.Given as goal

-- what is left is no deeper than all
abbrev pub invariant-trees::Branches::drop-loop-self : goal.invariant-trees::Branches::drop-loop-self
invariant-trees::Branches::drop-loop-self l = size-Branches l.self ≤ size-Branches l.fn.self
