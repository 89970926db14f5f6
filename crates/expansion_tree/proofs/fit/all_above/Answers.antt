use Rattle.expansion_tree.proofs.Walks.{above_on, above_numbered}
use Rattle.expansion_tree.proofs.fit.all_above.Goals as goal

pub loop-matrix-preserved : goal.loop-matrix-preserved
loop-matrix-preserved c = record {
  paths =
      rw (c.in_ok-matrix.ensures.ok, c.in_ok-new.ensures.ok)
      (above_on c.loop-matrix.rest.items c.pop.new.self.items c.args.matrices.items c.in-Some.matrix c.loop-matrix.below c.in-Some.ensures.items c.loop-matrix.invariant.paths);
  numbered = λ n h. rw (c.in_ok-matrix.ensures.ok, c.in_ok-new.ensures.ok) (above_numbered n c.loop-matrix.rest.items c.pop.new.self.items c.in-Some.matrix c.loop-matrix.below c.in-Some.ensures.items (c.loop-matrix.invariant.numbered n h));
}

pub returns-clause-numbered : goal.returns-clause-numbered
returns-clause-numbered c n h = (c.loop-matrix.invariant.numbered n h).1
