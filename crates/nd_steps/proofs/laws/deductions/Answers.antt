use Rattle.nd_steps.proofs.Growing.{assumes_within, next_is_above, ends_in_derivation}
use Rattle.nd_steps.proofs.laws.deductions.Goals as goal

pub returns-clause-within : goal.returns-clause-within
returns-clause-within c = assumes_within

pub returns-clause-above : goal.returns-clause-above
returns-clause-above c = next_is_above

pub returns-clause-derivation : goal.returns-clause-derivation
returns-clause-derivation c = ends_in_derivation
