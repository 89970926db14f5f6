-- The measure of a substitution: twice the place, which is smaller at each part.
use Rattle.std.proofs.Common.{◌+◌, ◌*◌}
use Rattle.beta_eta.proofs.instances.+put_plain.Given as goal

abbrev pub decreases-put_in : goal.decreases-put_in
decreases-put_in l = 2 * l.t.place + 1

abbrev pub decreases-put_parts : goal.decreases-put_parts
decreases-put_parts l = 2 * l.t.place
