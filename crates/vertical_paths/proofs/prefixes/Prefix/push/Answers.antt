use Rattle.std.proofs.Common.{arith}
use Rattle.vertical_paths.proofs.Counts.{count_bound_at}
use Rattle.vertical_paths.proofs.prefixes.Prefix.push.Goals as goal

pub overflow_add-index_mut : goal.overflow_add-index_mut
overflow_add-index_mut c =
    let bound = count_bound_at c.args.self.now.counts.items c.args.self.now.leaves.items c.args.leaf c.index_mut.result.now c.requires.below c.requires.counts in
    omega (arith, bound, c.index_mut.ensures.value, c.args.self.now.leaves.ok, c.args.self.now.leaves.small)
