use Rattle.std.proofs.Common.{◌≡◌, length}
use Rattle.rulep_decide.specs.Trails.{IsTrail, steps_of, undone}
use Rattle.rulep_decide.proofs.trails.Trail.turn_back.Given as goal

abbrev pub decreases-loop-step : goal.decreases-loop-step
decreases-loop-step l = length (steps_of l.self)

abbrev pub invariant-loop-step : goal.invariant-loop-step
invariant-loop-step l =
    IsTrail l.self × (length l.self.values.items ≡ length l.initial.self.values.items) × (undone (steps_of l.self) ≡ undone (steps_of l.initial.self))
