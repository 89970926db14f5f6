use Rattle.type_infer.proofs.Merges.{pair_apart, pair_merges}
use Rattle.type_infer.proofs.merging.join_pair.Goals as goal

pub returns-clause-merged : goal.returns-clause-merged
returns-clause-merged c = λ yielded.
    pair_merges c.args.cells.now.items c.root-first_root.new.cells.items c.root-second_root.new.cells.items c.join_roots.new.cells.items
    c.args.pending.now.items c.join_roots.new.pending.items c.args.first c.args.second c.root-first_root.result c.root-second_root.result
    c.root-first_root.ensures.halves c.root-first_root.ensures.stands c.root-second_root.ensures.halves c.root-second_root.ensures.stands
    (c.in_ok-joined.ensures.merged yielded)

pub returns-clause-apart : goal.returns-clause-apart
returns-clause-apart c = λ yielded.
    pair_apart c.args.cells.now.items c.root-first_root.new.cells.items c.root-second_root.new.cells.items
    c.args.first c.args.second c.root-first_root.result c.root-second_root.result
    c.root-first_root.ensures.halves c.root-first_root.ensures.stands c.root-second_root.ensures.halves c.root-second_root.ensures.stands
    (c.in_ok-joined.ensures.apart yielded)
