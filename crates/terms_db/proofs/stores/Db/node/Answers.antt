-- The parts of a node of the set, and the term that is made of it.
use Rattle.std.proofs.Common.{ℕ, List, get_or, ap, subst, ◌∙◌}
use Rattle.terms_db.specs.declared.nodes.Node.{Node}
use Rattle.terms_db.specs.Nodes.{plain_node}
use Rattle.terms_db.specs.Stores.{IsStore}
use Rattle.terms_db.proofs.StoreLaws.{node_read, parts_live, made_of_node}
use Rattle.terms_db.proofs.stores.Db.node.Goals as goal

pub returns-clause-parts : goal.returns-clause-parts
returns-clause-parts c =
    let n = c.index-as_slice-place.result in let keys = c.self.inside.nodes.keys in
    let read = c.index-as_slice-place.is ∙ (ap (λ (l : List Node). get_or l c.place.result n) c.as_slice.ensures.keys ∙ ap (λ (j : ℕ). get_or keys j n) c.place.ensures) in
    let store = subst IsStore c.self.view_is c.self.invariant.0 in
    parts_live c.args.self.now c.args.id.place (plain_node n) store (node_read c.args.self.now keys c.args.id.place n c.self.view_is c.requires read)

pub returns-clause-term : goal.returns-clause-term
returns-clause-term c =
    let n = c.index-as_slice-place.result in let keys = c.self.inside.nodes.keys in
    let read = c.index-as_slice-place.is ∙ (ap (λ (l : List Node). get_or l c.place.result n) c.as_slice.ensures.keys ∙ ap (λ (j : ℕ). get_or keys j n) c.place.ensures) in
    let store = subst IsStore c.self.view_is c.self.invariant.0 in
    made_of_node c.args.self.now c.args.id.place (plain_node n) store (node_read c.args.self.now keys c.args.id.place n c.self.view_is c.requires read)
