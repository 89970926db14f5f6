use Rattle.nd_steps.proofs.Growing.{proves_one, assumes_one, proves_from_more, assumes_proves}
use Rattle.nd_steps.proofs.laws.lines.Goals as goal

pub returns-clause-proves : goal.returns-clause-proves
returns-clause-proves c = proves_one

pub returns-clause-assumes : goal.returns-clause-assumes
returns-clause-assumes c = assumes_one

pub returns-clause-more : goal.returns-clause-more
returns-clause-more c = proves_from_more

pub returns-clause-itself : goal.returns-clause-itself
returns-clause-itself c = assumes_proves
