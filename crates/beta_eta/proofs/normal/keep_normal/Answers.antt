-- What is kept in either table.
use Rattle.std.proofs.Common.{◌≤◌, arith}
use Rattle.terms_db.specs.Stores.{term_at}
use Rattle.beta_eta.proofs.Growing.{closed_by}
use Rattle.beta_eta.proofs.Normalizing.{kept_closed, kept_loose}
use Rattle.beta_eta.proofs.normal.keep_normal.Goals as goal

pub returns-then-loose_bound-eq0-clause-closed : goal.returns-then-loose_bound-eq0-clause-closed
returns-then-loose_bound-eq0-clause-closed c =
    let nodes = c.args.db.now in
    let none : c.loose_bound.result ≤ 0 = omega arith in
    kept_closed c.keep.result nodes c.args.closed.now c.keep.new.self c.args.t.place c.args.normal.place c.requires (closed_by (term_at nodes c.args.t.place) 0 c.loose_bound.result c.loose_bound.ensures none) c.keep.ensures.kept

pub returns-else-loose_bound-eq0-clause-loose : goal.returns-else-loose_bound-eq0-clause-loose
returns-else-loose_bound-eq0-clause-loose c =
    kept_loose c.keep-else-loose_bound-eq0.result c.args.db.now c.args.loose.now c.keep-else-loose_bound-eq0.new.self c.args.t.place c.args.normal.place c.requires c.keep-else-loose_bound-eq0.ensures.kept
