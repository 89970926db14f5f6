use Rattle.std.proofs.Common.{◌≡◌, ◌-◌}
use Rattle.expansion_tree.specs.Trees.{plain_branches}
use Rattle.tps_gen.specs.Chains.{chain_branches}
use Rattle.tps_gen.proofs.chains.instances.Given as goal

-- the last branches
abbrev pub invariant-loop-made : goal.invariant-loop-made
invariant-loop-made l = plain_branches l.branches ≡ chain_branches (l.n - l.made) l.made
