use Rattle.std.proofs.Common.{arith}
use Rattle.vertical_paths.proofs.Counts.{last_counted, last_known}
use Rattle.vertical_paths.proofs.prefixes.Prefix.cut.Goals as goal

pub index_mut-requires : goal.index_mut-requires
index_mut-requires c =
    let counts = rw c.in-Some.ensures.items at c.loop-self.invariant.counts in
    let known = last_known c.loop-self.self.counts.items c.pop.new.self.items c.in-Some.leaf counts in
    omega (arith, known, c.loop-self.self.counts.ok)

pub overflow_sub-index_mut : goal.overflow_sub-index_mut
overflow_sub-index_mut c =
    let counts = rw c.in-Some.ensures.items at c.loop-self.invariant.counts in
    let counted = last_counted c.loop-self.self.counts.items c.pop.new.self.items c.in-Some.leaf c.index_mut.result.now counts in
    omega (arith, counted, c.index_mut.ensures.value)
