use Rattle.std.proofs.Common.{◌∙◌, ap, nat_lt}
use Rattle.std.proofs.Math.Nat.{le_refl}
use Rattle.vertical_paths.proofs.Counts.{is_on-counts}
use Rattle.vertical_paths.proofs.prefixes.Prefix.has.Goals as goal

pub returns-in-Some : goal.returns-in-Some
returns-in-Some c =
    let look = rw c.deref.ensures.value at (c.in-Some.ensures.lookup.3.1 0) in
    ap (nat_lt 0) look ∙ is_on-counts c.args.self.now.counts.items c.args.self.now.leaves.items c.args.leaf c.requires

pub returns-in-None : goal.returns-in-None
returns-in-None c =
    let look = rw c.deref.ensures.value at (c.in-None.ensures.lookup.4 (le_refl c.args.leaf) 0) in
    ap (nat_lt 0) look ∙ is_on-counts c.args.self.now.counts.items c.args.self.now.leaves.items c.args.leaf c.requires
