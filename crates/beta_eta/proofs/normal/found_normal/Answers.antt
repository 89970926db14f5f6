-- What the table of closed terms has.
use Rattle.std.proofs.Common.{◌≤◌, arith}
use Rattle.terms_db.specs.Stores.{term_at}
use Rattle.beta_eta.proofs.Growing.{closed_by}
use Rattle.beta_eta.proofs.Normalizing.{found_closed}
use Rattle.beta_eta.proofs.normal.found_normal.Goals as goal

pub returns-then-loose_bound-eq0 : goal.returns-then-loose_bound-eq0
returns-then-loose_bound-eq0 c =
    let nodes = c.args.db.now in
    let none : c.loose_bound.result ≤ 0 = omega arith in
    found_closed c.find.result nodes c.args.closed.now c.args.loose.now c.args.t.place (closed_by (term_at nodes c.args.t.place) 0 c.loose_bound.result c.loose_bound.ensures none) c.find.ensures
