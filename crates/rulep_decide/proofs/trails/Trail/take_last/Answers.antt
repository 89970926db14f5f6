use Rattle.rulep_decide.proofs.Tables.{table_popped}
use Rattle.rulep_decide.proofs.trails.Trail.take_last.Goals as goal

pub returns-in-Some-clause-trail : goal.returns-in-Some-clause-trail
returns-in-Some-clause-trail c =
    table_popped c.args.self.now.values.items c.args.self.now.steps.items c.pop.new.self.items c.in-Some.step c.requires c.in-Some.ensures.items
