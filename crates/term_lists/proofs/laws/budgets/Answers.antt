use Rattle.term_lists.proofs.Budgeting.{long_in_budget}
use Rattle.term_lists.proofs.laws.budgets.Goals as goal

pub returns : goal.returns
returns c = long_in_budget
