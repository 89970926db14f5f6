use Rattle.std.proofs.Common.{◌+◌}
use Rattle.hol_terms.specs.Terms.{plain_term}
use Rattle.hol_terms.proofs.Sizes.{twice_size}
use Rattle.hol_terms.proofs.typing.+typing.Given as goal

abbrev pub decreases-type_found : goal.decreases-type_found
decreases-type_found l = twice_size (plain_term l.t.now)

abbrev pub decreases-has_type : goal.decreases-has_type
decreases-has_type l = twice_size (plain_term l.t.now) + 1
