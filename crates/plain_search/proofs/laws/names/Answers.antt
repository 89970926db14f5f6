use Rattle.plain_search.proofs.Renaming.{proofs_renamed, renamed_in_budget, renamed_least}
use Rattle.plain_search.proofs.laws.names.Goals as goal

pub returns-clause-proofs : goal.returns-clause-proofs
returns-clause-proofs c = proofs_renamed

pub returns-clause-budget : goal.returns-clause-budget
returns-clause-budget c = renamed_in_budget

pub returns-clause-least : goal.returns-clause-least
returns-clause-least c = renamed_least
