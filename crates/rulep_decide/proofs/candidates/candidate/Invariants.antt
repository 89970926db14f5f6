use Rattle.std.proofs.Common.{◌≡◌, length}
use Rattle.rulep_decide.specs.Searches.{Keeps}
use Rattle.rulep_decide.proofs.candidates.candidate.Given as goal

abbrev pub invariant-loop-i : goal.invariant-loop-i
invariant-loop-i l = (length l.values.items ≡ l.i) × Keeps l.trail.values.items l.values.items
