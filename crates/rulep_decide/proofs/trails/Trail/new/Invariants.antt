use Rattle.std.proofs.Common.{◌≡◌, length}
use Rattle.rulep_decide.specs.Trails.{count_open}
use Rattle.rulep_decide.proofs.trails.Trail.new.Given as goal

abbrev pub invariant-loop : goal.invariant-loop
invariant-loop l = (count_open l.values.items ≡ l.counter) × (length l.values.items ≡ l.counter)
