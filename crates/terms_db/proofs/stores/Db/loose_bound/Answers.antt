-- The bound stands at the place of the node.
use Rattle.std.proofs.Common.{ℕ, ◌<◌, ◌≡◌, length, get_or, vec_len, ap, ◌∙◌, arith}
use Rattle.terms_db.specs.Loose.{loose_bounds}
use Rattle.terms_db.proofs.StoreLaws.{bound_read, bound_within}
use Rattle.terms_db.proofs.stores.Db.loose_bound.Goals as goal

pub index-requires : goal.index-requires
index-requires c =
    let same = c.self.invariant.1 ∙ ap loose_bounds c.self.view_is in
    let within : c.args.id.place < length c.self.inside.loose.items = bound_within c.args.self.now c.self.inside.loose.items c.args.id.place same c.requires in
    let place : c.place.result ≡ c.args.id.place = c.place.ensures in
    let size : vec_len c.self.inside.loose ≡ length c.self.inside.loose.items = c.self.inside.loose.ok.0 in omega arith

pub returns : goal.returns
returns c =
    let same = c.self.invariant.1 ∙ ap loose_bounds c.self.view_is in
    let r = c.index.result.now in
    bound_read c.args.self.now c.self.inside.loose.items c.args.id.place r same c.requires (c.index.ensures ∙ ap (λ (j : ℕ). get_or c.self.inside.loose.items j r) c.place.ensures)
