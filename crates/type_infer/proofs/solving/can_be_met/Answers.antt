use Rattle.std.proofs.Common.{map}
use Rattle.type_infer.specs.Equations.{plain_condition}
use Rattle.type_infer.proofs.Solved.{solved_can_be_met}
use Rattle.type_infer.proofs.solving.can_be_met.Goals as goal

pub returns-clause-met : goal.returns-clause-met
returns-clause-met c = λ _.
    solved_can_be_met c.args.count (map plain_condition c.args.conditions.now) c.in-Some._solution.marks.items c.in-Some._solution.shapes.items
    (rw (c.in-Some.is) at c.in_ok-_solution.ensures)
