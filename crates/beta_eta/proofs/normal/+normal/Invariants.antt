-- The measures of normalization: thrice the place, so that a term is looked up before its parts are.
use Rattle.std.proofs.Common.{◌+◌, ◌*◌}
use Rattle.beta_eta.proofs.normal.+normal.Given as goal

abbrev pub decreases-normal_in : goal.decreases-normal_in
decreases-normal_in l = 3 * l.t.place + 2

abbrev pub decreases-normal_applied : goal.decreases-normal_applied
decreases-normal_applied l = 3 * l.t.place + 1

abbrev pub decreases-normal_abstraction : goal.decreases-normal_abstraction
decreases-normal_abstraction l = 3 * l.t.place
