-- The shape of the node, by the node's term.
use Rattle.terms_db.specs.Nodes.{plain_node}
use Rattle.beta_eta.proofs.Growing.{made_of}
use Rattle.beta_eta.proofs.shapes.shape_of.Goals as goal

pub returns : goal.returns
returns c = made_of c.args.db.now c.args.t.place (plain_node c.node.result.now) c.shape.result c.node.ensures.parts c.node.ensures.term c.shape.ensures
