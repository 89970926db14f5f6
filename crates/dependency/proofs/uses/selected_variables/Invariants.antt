use Rattle.std.proofs.Common.{◌≡◌, take}
use Rattle.dependency.specs.Uses.{variables_of}
use Rattle.dependency.proofs.uses.selected_variables.Given as goal

abbrev pub invariant-loop-k : goal.invariant-loop-k
invariant-loop-k l = l.variables ≡ variables_of (take l.k l.fitted.selection_list)
