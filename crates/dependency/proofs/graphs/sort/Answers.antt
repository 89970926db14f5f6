use Rattle.std.proofs.Common.{◌≡◌, arith, reverse, subst, sym}
use Rattle.std.proofs.lemmas.List.{length-map}
use Rattle.dependency.specs.Graphs.{IsCycle, row_lists}
use Rattle.dependency.specs.Walks.{up_to}
use Rattle.dependency.proofs.Cycles.{all_placed, met_again}
use Rattle.dependency.proofs.graphs.sort.Goals as goal

pub loop-vertex-init : goal.loop-vertex-init
loop-vertex-init c =
    let graph = c.args.graph.now in
    record {
      walk = c.in_ok-walk.ensures.walk (row_lists graph) (length-map graph (λ row. row.items));
      none = c.in_ok-walk.ensures.none;
      seen = λ v less. absurd (omega (arith, less));
    }

pub returns-in-Some : goal.returns-in-Some
returns-in-Some c =
    let walk = c.settle.new.self in
    let met = rw c.in-Some.is at c.in_ok-met.ensures.meets in
    let same : c.in_ok-cycle.field-0.items ≡ up_to c.in-Some.met (reverse walk.waiting.items) = c.in_ok-cycle.ensures in
    subst (IsCycle (row_lists c.args.graph.now)) (sym same)
    (met_again (row_lists c.args.graph.now) walk.marks.items walk.waiting.items walk.placed.items c.in-Some.met c.in_ok-met.ensures.walk met.1 met.0)

pub returns : goal.returns
returns c =
    let walk = c.loop-vertex.walk in
    let graph = c.args.graph.now in
    all_placed (row_lists graph) walk.marks.items walk.waiting.items walk.placed.items c.loop-vertex.invariant.walk c.loop-vertex.invariant.none
    (λ v less. c.loop-vertex.invariant.seen v (omega (arith, less, length-map graph (λ row. row.items), c.loop-vertex-test.false)))
