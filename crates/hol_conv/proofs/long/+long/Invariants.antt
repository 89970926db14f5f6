use Rattle.std.proofs.Common.{◌+◌}
use Rattle.hol_terms.specs.Terms.{plain_term}
use Rattle.hol_conv.proofs.Longness.{twice_size}
use Rattle.hol_conv.proofs.long.+long.Given as goal

abbrev pub decreases-type_of_neutral : goal.decreases-type_of_neutral
decreases-type_of_neutral l = twice_size (plain_term l.t.now)

abbrev pub decreases-is_long_at : goal.decreases-is_long_at
decreases-is_long_at l = twice_size (plain_term l.t.now) + 1
