use Rattle.std.proofs.Common.{length}
use Rattle.rulep_decide.specs.Circuits.{nodes_of}
use Rattle.rulep_decide.specs.Trails.{steps_of}
use Rattle.rulep_decide.proofs.Searching.{conflict_result}
use Rattle.rulep_decide.proofs.propagation.visit.Goals as goal

pub returns-in-Some-clause-conflict : goal.returns-in-Some-clause-conflict
returns-in-Some-clause-conflict c =
    conflict_result (nodes_of c.args.circuit.now) (steps_of c.args.trail.now) (steps_of c.learn.new.self) (length c.args.trail.now.values.items)
    c.in-Some.literal.node c.in-Some.literal.value c.learn.result c.in-Some.ensures.forced c.learn.ensures.steps c.learn.ensures.conflict
