use Rattle.plain_search.proofs.search.search.Goals as goal

pub returns-clause-none : goal.returns-clause-none
returns-clause-none c = rw (← c.in_ok-task.ensures.1, ← c.in_ok-task.ensures.2) c.in_ok-found.ensures.none
