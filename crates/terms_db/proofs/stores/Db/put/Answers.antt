-- What the ordered set does with a node, and the bound beside it.
use Rattle.std.proofs.Common.{ℕ, List, [], ◌∷◌, ◌++◌, if◌then◌else◌, ◌≡◌, ap, subst, ◌∙◌}
use Rattle.terms_db.specs.Nodes.{plain_node}
use Rattle.terms_db.specs.Stores.{IsStore}
use Rattle.terms_db.proofs.Putting.{held_put, put_as, put_nodes, put_place}
use Rattle.terms_db.proofs.stores.Db.put.Goals as goal

pub invariant_of-self-2 : goal.invariant_of-self-2
invariant_of-self-2 c =
    let bound = c.in_ok-bound.bound in let fresh = c.in_ok-place.is_new in let loose = c.self.inside.loose.items in
    let pushed : c.add_bound.new.loose.items ≡ (if fresh then loose ++ bound ∷ [] else loose) =
    c.add_bound.ensures.items ∙ ap (λ (l : List ℕ). if fresh then l ++ bound ∷ [] else l) c.in_ok-reserve.ensures.items in
    held_put c.self.inside.nodes.keys c.insert_full.new.self.keys c.args.node c.args.self.now loose c.add_bound.new.loose.items bound fresh c.self.invariant c.self.view_is c.requires c.in_ok-place.ensures.keys c.in_ok-bound.ensures c.in_ok-place.ensures.added pushed

pub returns-clause-nodes : goal.returns-clause-nodes
returns-clause-nodes c =
    put_nodes c.self.inside.nodes.keys c.insert_full.new.self.keys c.args.node c.args.self.now c.self.view_is c.in_ok-place.ensures.keys

pub returns-clause-place : goal.returns-clause-place
returns-clause-place c =
    put_place c.self.inside.nodes.keys c.args.node c.args.self.now c.at.result.place c.in_ok-place.place c.self.view_is c.at.ensures c.in_ok-place.ensures.index

pub returns-clause-kept : goal.returns-clause-kept
returns-clause-kept c =
    let store = subst IsStore c.self.view_is c.self.invariant.0 in
    let nodes = put_nodes c.self.inside.nodes.keys c.insert_full.new.self.keys c.args.node c.args.self.now c.self.view_is c.in_ok-place.ensures.keys in
    let place = put_place c.self.inside.nodes.keys c.args.node c.args.self.now c.at.result.place c.in_ok-place.place c.self.view_is c.at.ensures c.in_ok-place.ensures.index in
    (put_as c.args.self.now _ (plain_node c.args.node) c.at.result.place store c.requires nodes place).0

pub returns-clause-term : goal.returns-clause-term
returns-clause-term c =
    let store = subst IsStore c.self.view_is c.self.invariant.0 in
    let nodes = put_nodes c.self.inside.nodes.keys c.insert_full.new.self.keys c.args.node c.args.self.now c.self.view_is c.in_ok-place.ensures.keys in
    let place = put_place c.self.inside.nodes.keys c.args.node c.args.self.now c.at.result.place c.in_ok-place.place c.self.view_is c.at.ensures c.in_ok-place.ensures.index in
    (put_as c.args.self.now _ (plain_node c.args.node) c.at.result.place store c.requires nodes place).3
