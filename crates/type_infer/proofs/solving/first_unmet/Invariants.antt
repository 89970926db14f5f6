use Rattle.std.proofs.Common.{◌<◌, ◌≤◌, ◌-◌, length, map, take}
use Rattle.type_infer.specs.Conditions.{CanBeMet}
use Rattle.type_infer.specs.Equations.{plain_condition}
use Rattle.type_infer.proofs.solving.first_unmet.Given as goal

abbrev pub invariant-loop-unmet : goal.invariant-loop-unmet
invariant-loop-unmet l = record {
  less : l.met < l.unmet;
  inside : l.unmet ≤ length l.conditions;
  met : CanBeMet (map plain_condition (take l.met l.conditions));
  unmet : CanBeMet (map plain_condition (take l.unmet l.conditions)) → ⊥;
}

abbrev pub decreases-loop-unmet : goal.decreases-loop-unmet
decreases-loop-unmet l = l.unmet - l.met
