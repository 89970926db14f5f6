use Rattle.std.proofs.Common.{Bool, subst}
use Rattle.rulep_decide.specs.Circuits.{nodes_of}
use Rattle.rulep_decide.specs.Trails.{Has, steps_of}
use Rattle.rulep_decide.proofs.Forcing.{forced_false_by_first}
use Rattle.rulep_decide.proofs.rules.forced_at_conjunction.Goals as goal

pub returns-in-Some-false-clause-forced : goal.returns-in-Some-false-clause-forced
returns-in-Some-false-clause-forced c =
    forced_false_by_first (nodes_of c.args.circuit.now) (steps_of c.args.trail.now) c.args.i c.args.first c.args.second c.requires.node
    (subst (λ (b : Bool). Has (steps_of c.args.trail.now) c.args.first b) c.in-Some-false.field-0-test c.in-Some-false.ensures.step)
