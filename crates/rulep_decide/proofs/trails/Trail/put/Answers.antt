use Rattle.rulep_decide.proofs.Tables.{table_pushed, table_room}
use Rattle.rulep_decide.specs.Trails.{steps_of}
use Rattle.rulep_decide.proofs.trails.Trail.put.Goals as goal

pub returns-clause-trail : goal.returns-clause-trail
returns-clause-trail c =
    let h = c.in_ok-push.ensures.items in
    table_pushed c.args.self.now.values.items c.args.self.now.steps.items c.push.new.self.items c.args.step c.requires.trail c.requires.is_open h

pub returns-clause-room : goal.returns-clause-room
returns-clause-room c = table_room c.args.self.now.values.items (steps_of c.args.self.now) c.args.step.node c.requires.trail c.requires.is_open
