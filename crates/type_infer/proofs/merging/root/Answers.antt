use Rattle.type_infer.proofs.Merges.{halves_twice, inside_on, same_on}
use Rattle.type_infer.proofs.merging.root.Goals as goal

pub loop-next-preserved : goal.loop-next-preserved
loop-next-preserved c = record {
  halves = halves_twice c.args.cells.now.items c.loop-next.cells.items c.halve-i.new.cells.items c.loop-next.invariant.halves c.halve-i.ensures.halves;
  inside = inside_on c.loop-next.cells.items c.halve-i.new.cells.items c.loop-next.i c.halve-i.result c.halve-i.ensures.halves c.halve-i.ensures.leads c.loop-next.invariant.inside;
  same = same_on c.loop-next.cells.items c.halve-i.new.cells.items c.args.start c.loop-next.i c.halve-i.result c.halve-i.ensures.halves c.halve-i.ensures.leads c.loop-next.invariant.same;
}
