use Rattle.std.proofs.Common.{◌≡◌, ◌<◌, Some, length, arith}
use Rattle.rulep_decide.specs.Circuits.{node_at, nodes_of, plain_gate}
use Rattle.rulep_decide.proofs.Nodes.{node_of_gate, count_of_gates, parts_below}
use Rattle.rulep_decide.proofs.circuits.Circuit.gate.Goals as goal

pub returns : goal.returns
returns c =
    let items = c.args.self.now.gates.items in
    let within : c.args.i < length items = omega (arith, c.requires, count_of_gates items) in
    let here : node_at (nodes_of c.args.self.now) c.args.i ≡ Some (plain_gate c.index.result.now) =
    node_of_gate items c.args.i c.index.result.now within c.index.ensures in
    record { node = here; parts = λ circuit. parts_below (nodes_of c.args.self.now) c.args.i (plain_gate c.index.result.now) circuit here }
