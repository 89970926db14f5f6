use Rattle.std.proofs.Common.{reverse}
use Rattle.type_infer.proofs.Orders.{goes_on_finished, goes_on_pushed, goes_on_started, lighter_finished, lighter_pushed, ordered_waiting, path_closed, path_finished, path_pushed, path_started, reverse_pushed, top_inside}
use Rattle.type_infer.proofs.ordering.order_from.Goals as goal

pub loop-top-init : goal.loop-top-init
loop-top-init c = record {
  ordered = ordered_waiting c.args.cells.now c.args.marks.now.items c.set_mark.new.marks.items c.args.shapes.now.items c.args.start
      c.requires.ordered c.requires.inside c.requires.other c.set_mark.ensures;
  path = rw (c.in_ok-push.ensures.items, c.new-path.ensures.items)
      (path_started c.args.cells.now c.args.marks.now.items c.set_mark.new.marks.items c.args.shapes.now.items c.args.start
      c.requires.ordered c.requires.inside c.requires.path c.set_mark.ensures);
  goes_on = goes_on_started c.args.cells.now c.args.marks.now.items c.set_mark.new.marks.items c.args.shapes.now.items c.args.start
      c.requires.ordered c.requires.inside c.requires.other c.set_mark.ensures;
}

pub unfinished-requires-clause-inside : goal.unfinished-requires-clause-inside
unfinished-requires-clause-inside c =
    let path = rw (c.in-Some.ensures.items, reverse_pushed c.pop.new.self.items c.in-Some.top) at c.loop-top.invariant.path in
    top_inside c.args.cells.now c.loop-top.marks.items c.loop-top.shapes.items (reverse c.pop.new.self.items) c.in-Some.top c.loop-top.invariant.ordered path

pub loop-top-smaller-in_default-unfinished : goal.loop-top-smaller-in_default-unfinished
loop-top-smaller-in_default-unfinished c =
    let path = rw (c.in-Some.ensures.items, reverse_pushed c.pop.new.self.items c.in-Some.top) at c.loop-top.invariant.path in
    let inside = top_inside c.args.cells.now c.loop-top.marks.items c.loop-top.shapes.items (reverse c.pop.new.self.items) c.in-Some.top c.loop-top.invariant.ordered path in
    lighter_finished c.args.cells.now c.loop-top.marks.items c.finish.new.marks.items c.loop-top.shapes.items (reverse c.pop.new.self.items) c.in-Some.top
    c.loop-top.invariant.ordered inside path c.in_ok-finish.ensures.finished

pub loop-top-preserved-in_default-unfinished : goal.loop-top-preserved-in_default-unfinished
loop-top-preserved-in_default-unfinished c =
    let path = rw (c.in-Some.ensures.items, reverse_pushed c.pop.new.self.items c.in-Some.top) at c.loop-top.invariant.path in
    let inside = top_inside c.args.cells.now c.loop-top.marks.items c.loop-top.shapes.items (reverse c.pop.new.self.items) c.in-Some.top c.loop-top.invariant.ordered path in
    record {
      ordered = c.in_ok-finish.ensures.ordered;
      path = path_finished c.args.cells.now c.loop-top.marks.items c.finish.new.marks.items c.loop-top.shapes.items (reverse c.pop.new.self.items) c.in-Some.top
          c.loop-top.invariant.ordered inside path c.in_ok-finish.ensures.finished;
      goes_on = goes_on_finished c.args.cells.now c.args.marks.now.items c.loop-top.marks.items c.finish.new.marks.items c.loop-top.shapes.items (reverse c.pop.new.self.items) c.args.start c.in-Some.top
          c.loop-top.invariant.ordered inside path c.in_ok-finish.ensures.finished c.loop-top.invariant.goes_on;
    }

pub returns-then-is_waiting-clause-none : goal.returns-then-is_waiting-clause-none
returns-then-is_waiting-clause-none c = λ _.
    let path = rw (c.in-Some.ensures.items, reverse_pushed c.pop.new.self.items c.in-Some.top) at c.loop-top.invariant.path in
    path_closed c.args.cells.now c.loop-top.marks.items (reverse c.pop.new.self.items) c.in-Some.top c.in-Some-unfinished.part c.requires.store path
    c.in-Some-unfinished.ensures.0 (rw (c.deref-in-Some.ensures.value) at (c.is_waiting.ensures.waits c.if-is_waiting.true))

pub loop-top-smaller : goal.loop-top-smaller
loop-top-smaller c =
    let part = rw (c.deref.ensures.value) at c.in-Some-unfinished.ensures in
    lighter_pushed c.args.cells.now c.loop-top.marks.items c.set_mark-in-Some.new.marks.items c.loop-top.shapes.items c.in-Some-unfinished.part
    c.loop-top.invariant.ordered part.2 part.1 (rw (c.deref-in-Some.ensures.value) at (c.is_waiting.ensures.other c.if-is_waiting.false)) c.set_mark-in-Some.ensures

pub loop-top-preserved : goal.loop-top-preserved
loop-top-preserved c =
    let path = rw (c.in-Some.ensures.items, reverse_pushed c.pop.new.self.items c.in-Some.top) at c.loop-top.invariant.path in
    let part = rw (c.deref.ensures.value) at c.in-Some-unfinished.ensures in
    let asleep = rw (c.deref-in-Some.ensures.value) at (c.is_waiting.ensures.other c.if-is_waiting.false) in
    record {
      ordered = ordered_waiting c.args.cells.now c.loop-top.marks.items c.set_mark-in-Some.new.marks.items c.loop-top.shapes.items c.in-Some-unfinished.part
          c.loop-top.invariant.ordered part.2 part.1 c.set_mark-in-Some.ensures;
      path = rw (c.in_ok-push-3.ensures.items, c.in_ok-push-2.ensures.items, reverse_pushed, reverse_pushed)
          (path_pushed c.args.cells.now c.loop-top.marks.items c.set_mark-in-Some.new.marks.items c.loop-top.shapes.items (reverse c.pop.new.self.items) c.in-Some.top c.in-Some-unfinished.part
          c.requires.store c.loop-top.invariant.ordered path part.0 part.2 asleep c.set_mark-in-Some.ensures);
      goes_on = goes_on_pushed c.args.cells.now c.args.marks.now.items c.loop-top.marks.items c.set_mark-in-Some.new.marks.items c.loop-top.shapes.items c.args.start c.in-Some-unfinished.part
          c.loop-top.invariant.ordered part.2 part.1 c.set_mark-in-Some.ensures c.loop-top.invariant.goes_on;
    }
