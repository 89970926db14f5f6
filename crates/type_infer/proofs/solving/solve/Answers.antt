use Rattle.std.proofs.Common.{map}
use Rattle.type_infer.specs.Equations.{plain_condition}
use Rattle.type_infer.proofs.Solved.{solved, solved_apart, solved_endless}
use Rattle.type_infer.proofs.solving.solve.Goals as goal

pub returns-then-not-branch : goal.returns-then-not-branch
returns-then-not-branch c =
    solved_apart c.args.count (map plain_condition c.args.conditions.now) c.in_ok-state.state c.in_ok-state.ensures (c.in_ok-merge.ensures.apart c.if-not-branch.true)

pub returns-in-None : goal.returns-in-None
returns-in-None c =
    solved_endless c.args.count (map plain_condition c.args.conditions.now) c.in_ok-state.state c.merge.new.cells.items c.in_ok-state.ensures
    (c.in_ok-merge.ensures.merged c.if-not-branch.false) (rw (c.in-None.is, c.deref.ensures.value) at c.in_ok-order.ensures)

pub returns : goal.returns
returns c =
    solved c.args.count (map plain_condition c.args.conditions.now) c.in_ok-state.state c.merge.new.cells.items c.in-Some.ordered.marks.items c.in-Some.ordered.shapes.items
    c.in_ok-state.ensures (c.in_ok-merge.ensures.merged c.if-not-branch.false) (rw (c.in-Some.is, c.deref.ensures.value) at c.in_ok-order.ensures)
