use Rattle.hol_terms.specs.Terms.{plain_term}
use Rattle.hol_terms.proofs.Sizes.{twice_size}
use Rattle.rulep_decide.proofs.circuits.Circuit.+add.Given as goal

abbrev pub decreases-add : goal.decreases-add
decreases-add l = twice_size (plain_term l.t.now)
