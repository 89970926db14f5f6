use Rattle.std.proofs.Common.{refl}
use Rattle.hol_terms.specs.Terms.{plain_type}
use Rattle.tree_growth.proofs.kinds.kind_of_head.Goals as goal

pub returns-in-true-All : goal.returns-in-true-All
returns-in-true-All c = (plain_type c.in-true-All.field-0-1, rw (c.in-true-All.is-0, c.in-true-All.is-1) refl)

pub returns-in-false-All : goal.returns-in-false-All
returns-in-false-All c = (plain_type c.in-false-All.field-0-1, rw (c.in-false-All.is-0, c.in-false-All.is-1) refl)

pub returns-in-true-Ex : goal.returns-in-true-Ex
returns-in-true-Ex c = (plain_type c.in-true-Ex.field-0-1, rw (c.in-true-Ex.is-0, c.in-true-Ex.is-1) refl)

pub returns-in-false-Ex : goal.returns-in-false-Ex
returns-in-false-Ex c = (plain_type c.in-false-Ex.field-0-1, rw (c.in-false-Ex.is-0, c.in-false-Ex.is-1) refl)
