use Rattle.std.proofs.Common.{◌≤◌}
use Rattle.expansion_tree.specs.declared.matrices.Matrix.{size-Matrix}
use Rattle.expansion_tree.proofs.matrices.Matrix.+drop.Given as goal

-- what is left is no deeper than all
abbrev pub invariant-loop-self : goal.invariant-loop-self
invariant-loop-self l = size-Matrix l.self ≤ size-Matrix l.fn.self
