use Rattle.std.proofs.Common.{◌≡◌, map, take}
use Rattle.hol_terms.specs.Terms.{Variable, plain_variable}
use Rattle.tree_growth.proofs.names.TakenNames.new.Given as goal

abbrev pub invariant-loop-name : goal.invariant-loop-name
invariant-loop-name l = l.names.items ≡ map (λ (v : Variable). v.0) (map plain_variable (take l.name-index l.name-items))
