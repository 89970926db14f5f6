use Rattle.nd_rules.proofs.Staying.{stays, stays_under_later, stays_under_others, stays_put_in, stays_under_reasons}
use Rattle.nd_rules.proofs.laws.justifications.Goals as goal

pub returns-clause-same : goal.returns-clause-same
returns-clause-same c = stays

pub returns-clause-later : goal.returns-clause-later
returns-clause-later c = stays_under_later

pub returns-clause-others : goal.returns-clause-others
returns-clause-others c = stays_under_others

pub returns-clause-itself : goal.returns-clause-itself
returns-clause-itself c = stays_put_in

pub returns-clause-reasons : goal.returns-clause-reasons
returns-clause-reasons c = stays_under_reasons
