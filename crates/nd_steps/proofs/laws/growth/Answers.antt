use Rattle.nd_steps.proofs.Growing.{grows_on, proves_stays, assumes_stays, assumptions_stay, free_in_none_stays}
use Rattle.nd_steps.proofs.laws.growth.Goals as goal

pub returns-clause-again : goal.returns-clause-again
returns-clause-again c = grows_on

pub returns-clause-proves : goal.returns-clause-proves
returns-clause-proves c = proves_stays

pub returns-clause-assumes : goal.returns-clause-assumes
returns-clause-assumes c = assumes_stays

pub returns-clause-assumptions : goal.returns-clause-assumptions
returns-clause-assumptions c = assumptions_stay

pub returns-clause-free : goal.returns-clause-free
returns-clause-free c = free_in_none_stays
