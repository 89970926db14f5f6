use Rattle.std.proofs.Common.{map, take}
use Rattle.type_infer.specs.Equations.{plain_condition}
use Rattle.type_infer.specs.Steps.{HasLoaded}
use Rattle.type_infer.proofs.loading.load.Given as goal

abbrev pub invariant-loop-condition : goal.invariant-loop-condition
invariant-loop-condition l = HasLoaded l.fn.count (map plain_condition (take l.condition-index l.conditions)) l.state
