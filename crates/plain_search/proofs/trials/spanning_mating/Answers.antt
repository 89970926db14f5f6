use Rattle.plain_search.proofs.Mated.{spanned, unspanned}
use Rattle.plain_search.proofs.trials.spanning_mating.Goals as goal

pub returns-in-Some-clause-none : goal.returns-in-Some-clause-none
returns-in-Some-clause-none c =
    unspanned c.args.fitted.now c.in_ok-mating.mating c.in_ok-first_open.field-0 c.in-Some.field-0 c.requires c.in_ok-mating.ensures.good c.in_ok-mating.ensures.all c.in_ok-first_open.ensures.decides c.in-Some.is

pub returns-in-None-clause-some : goal.returns-in-None-clause-some
returns-in-None-clause-some c = spanned c.args.fitted.now c.in_ok-mating.mating c.in_ok-first_open.field-0 c.requires c.in_ok-mating.ensures.good c.in_ok-first_open.ensures.spans c.in-None.is
