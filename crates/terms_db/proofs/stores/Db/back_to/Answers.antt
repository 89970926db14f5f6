-- The first nodes are a store, and their bounds come first.
use Rattle.std.proofs.Common.{◌≤◌, List, length, sym, subst}
use Rattle.terms_db.specs.Nodes.{TermNode}
use Rattle.terms_db.proofs.Putting.{held_first, nodes_first}
use Rattle.terms_db.proofs.stores.Db.back_to.Goals as goal

pub invariant_of-self : goal.invariant_of-self
invariant_of-self c =
    let P : List TermNode → Type 0 = λ ns. c.args.mark ≤ length ns in
    let within = subst P (sym c.self.view_is) c.requires in
    held_first c.args.mark c.self.inside.nodes.keys c.truncate.new.self.keys c.self.inside.loose.items c.truncate-2.new.self.items c.self.invariant within c.truncate.ensures.keys c.truncate-2.ensures.items

pub returns : goal.returns
returns c = nodes_first c.args.mark c.self.inside.nodes.keys c.truncate.new.self.keys c.args.self.now c.self.view_is c.truncate.ensures.keys
