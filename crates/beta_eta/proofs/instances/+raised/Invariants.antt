-- The measure of raising: twice the place, which is smaller at each part.
use Rattle.std.proofs.Common.{◌+◌, ◌*◌}
use Rattle.beta_eta.proofs.instances.+raised.Given as goal

abbrev pub decreases-raised_in : goal.decreases-raised_in
decreases-raised_in l = 2 * l.t.place + 1

abbrev pub decreases-raised_parts : goal.decreases-raised_parts
decreases-raised_parts l = 2 * l.t.place
