use Rattle.std.proofs.Common.{◌+◌, ◌∙◌, sym, ap, arith}
use Rattle.dependency.specs.declared.graphs.Mark.TheVariants.{Unseen, Waiting, Placed}
use Rattle.dependency.specs.Graphs.{predecessors, row_lists}
use Rattle.dependency.specs.Walks.{is_waiting}
use Rattle.dependency.proofs.Marks.{marked-count}
use Rattle.dependency.proofs.Steps.{Contains_at, fewer_left, get_or_at_place, past_place}
use Rattle.dependency.proofs.graphs.Walk.step.Goals as goal

pub mark-requires : goal.mark-requires
mark-requires c = (c.newest-newest.ensures (row_lists c.args.graph.now) c.requires.walk).within

pub mark-requires-2 : goal.mark-requires-2
mark-requires-2 c =
    let edge = Contains_at (predecessors (row_lists c.args.graph.now) c.newest-newest.result) c.in-Waiting.count c.in-Some.vertex (sym c.predecessor.ensures.value ∙ c.in-Some.is) in
    let less = c.requires.graph c.in-Some.vertex c.newest-newest.result edge in
    omega (arith, less, c.requires.walk.many)

pub enter-requires-clause-vertex : goal.enter-requires-clause-vertex
enter-requires-clause-vertex c =
    let edge = Contains_at (predecessors (row_lists c.args.graph.now) c.newest-newest.result) c.in-Waiting.count c.in-Some.vertex (sym c.predecessor.ensures.value ∙ c.in-Some.is) in
    let less = c.requires.graph c.in-Some.vertex c.newest-newest.result edge in
    omega (arith, less, c.requires.walk.many)

pub returns-in_default-predecessor-clause-walk : goal.returns-in_default-predecessor-clause-walk
returns-in_default-predecessor-clause-walk c =
    c.in_ok-place.ensures.walk (row_lists c.args.graph.now) c.in-Waiting.count c.requires.walk (sym c.mark.ensures ∙ c.in-Waiting.is)
    (past_place (predecessors (row_lists c.args.graph.now) c.newest-newest.result) c.in-Waiting.count (sym c.predecessor.ensures.value ∙ c.in_default-predecessor.is))

pub returns-in_default-predecessor-clause-fewer : goal.returns-in_default-predecessor-clause-fewer
returns-in_default-predecessor-clause-fewer c _ =
    let graph = row_lists c.args.graph.now in
    let row = predecessors graph c.newest-newest.result in
    let waits = sym c.mark.ensures ∙ c.in-Waiting.is in
    let looked = c.requires.walk.looked c.newest-newest.result c.in-Waiting.count waits in
    rw c.in_ok-place.ensures.marks
    (fewer_left graph c.args.self.now.marks.items c.newest-newest.result (Waiting c.in-Waiting.count) Placed
    (c.newest-newest.ensures graph c.requires.walk).vertex c.requires.walk.many waits (omega (arith, looked.0)))

pub returns-in_ok-enter-in-Unseen-clause-walk : goal.returns-in_ok-enter-in-Unseen-clause-walk
returns-in_ok-enter-in-Unseen-clause-walk c =
    let graph = row_lists c.args.graph.now in
    let edge = Contains_at (predecessors graph c.newest-newest.result) c.in-Waiting.count c.in-Some.vertex (sym c.predecessor.ensures.value ∙ c.in-Some.is) in
    c.in_ok-enter-in-Unseen.ensures.walk graph c.requires.walk ((c.newest-newest.ensures graph c.requires.walk).leads c.in-Some.vertex edge)

pub returns-in_ok-enter-in-Unseen-clause-fewer : goal.returns-in_ok-enter-in-Unseen-clause-fewer
returns-in_ok-enter-in-Unseen-clause-fewer c _ =
    let graph = row_lists c.args.graph.now in
    let edge = Contains_at (predecessors graph c.newest-newest.result) c.in-Waiting.count c.in-Some.vertex (sym c.predecessor.ensures.value ∙ c.in-Some.is) in
    let row = predecessors graph c.in-Some.vertex in
    rw c.in_ok-enter-in-Unseen.ensures.marks
    (fewer_left graph c.args.self.now.marks.items c.in-Some.vertex Unseen (Waiting 0)
    (c.requires.graph c.in-Some.vertex c.newest-newest.result edge) c.requires.walk.many (sym c.mark-2.ensures ∙ c.in-Unseen.is) (omega arith))

pub returns-in-Waiting-mark-clause-meets : goal.returns-in-Waiting-mark-clause-meets
returns-in-Waiting-mark-clause-meets c =
    let graph = row_lists c.args.graph.now in
    let edge = Contains_at (predecessors graph c.newest-newest.result) c.in-Waiting.count c.in-Some.vertex (sym c.predecessor.ensures.value ∙ c.in-Some.is) in (
      (c.newest-newest.ensures graph c.requires.walk).leads c.in-Some.vertex edge,
      c.requires.walk.waits c.in-Some.vertex ∙ ap is_waiting (sym c.mark-2.ensures ∙ c.in-Waiting-mark.is),
    )

pub returns-in-Placed-clause-walk : goal.returns-in-Placed-clause-walk
returns-in-Placed-clause-walk c =
    let graph = row_lists c.args.graph.now in
    let old = c.args.self.now in
    let newest = c.newest-newest.ensures graph c.requires.walk in
    let place = get_or_at_place (predecessors graph c.newest-newest.result) c.in-Waiting.count c.in-Some.vertex (sym c.predecessor.ensures.value ∙ c.in-Some.is) in
    rw (c.set_mark.ensures.marks, c.set_mark.ensures.waiting, c.set_mark.ensures.placed)
    (marked-count graph old.marks.items old.waiting.items old.placed.items c.newest-newest.result c.in-Waiting.count c.in-Some.vertex
    newest.within (sym c.mark.ensures ∙ c.in-Waiting.is) place.0 place.1 (sym c.mark-2.ensures ∙ c.in-Placed.is) c.requires.walk)

pub returns-in-Placed-clause-fewer : goal.returns-in-Placed-clause-fewer
returns-in-Placed-clause-fewer c _ =
    let graph = row_lists c.args.graph.now in
    let newest = c.newest-newest.ensures graph c.requires.walk in
    let row = predecessors graph c.newest-newest.result in
    let place = get_or_at_place row c.in-Waiting.count c.in-Some.vertex (sym c.predecessor.ensures.value ∙ c.in-Some.is) in
    rw c.set_mark.ensures.marks
    (fewer_left graph c.args.self.now.marks.items c.newest-newest.result (Waiting c.in-Waiting.count) (Waiting (c.in-Waiting.count + 1))
    newest.vertex c.requires.walk.many (sym c.mark.ensures ∙ c.in-Waiting.is) (omega (arith, place.0)))
