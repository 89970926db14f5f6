use Rattle.std.proofs.lemmas.List.{length-map}
use Rattle.expansion_tree.specs.Occurrences.{occurrences_of}
use Rattle.dependency.specs.Graphs.{row_lists}
use Rattle.dependency.proofs.Chains.{chain_is, cycle_within}
use Rattle.dependency.proofs.Ordering.{acyclic_from_order, order_length, order_rest}
use Rattle.dependency.proofs.Preorder.{fitted_selections, occurrences_nest}
use Rattle.dependency.proofs.Using.{graph_edges}
use Rattle.dependency.proofs.dependencies.order.Goals as goal

pub graph-requires-clause-nested : goal.graph-requires-clause-nested
graph-requires-clause-nested c = occurrences_nest c.args.fitted.now.tree

pub graph-requires-clause-selections : goal.graph-requires-clause-selections
graph-requires-clause-selections c = fitted_selections c.args.fitted.now c.tree.ensures.stands

pub sort-requires : goal.sort-requires
sort-requires c = rw c.deref.ensures.value (graph_edges (occurrences_of c.args.fitted.now.tree) c.args.fitted.now.selection_list (row_lists c.in_ok-graph.graph.items) c.in_ok-graph.ensures)

pub returns-in-Order-clause-order : goal.returns-in-Order-clause-order
returns-in-Order-clause-order c =
    let sorted = rw (c.in-Order.is, c.deref.ensures.value) at c.in_ok-vertices.ensures in
    rw c.remove.ensures.items
    (order_rest (occurrences_of c.args.fitted.now.tree) c.args.fitted.now.selection_list (row_lists c.in_ok-graph.graph.items) c.in-Order.vertices.items (occurrences_nest c.args.fitted.now.tree) c.in_ok-graph.ensures sorted)

pub returns-in-Order-clause-many : goal.returns-in-Order-clause-many
returns-in-Order-clause-many c =
    order_length (occurrences_of c.args.fitted.now.tree) c.args.fitted.now.selection_list c.remove.new.self.items (returns-in-Order-clause-order c)

pub returns-in-Order-clause-acyclic : goal.returns-in-Order-clause-acyclic
returns-in-Order-clause-acyclic c =
    acyclic_from_order (occurrences_of c.args.fitted.now.tree) c.args.fitted.now.selection_list c.remove.new.self.items (returns-in-Order-clause-order c)

pub shortened-requires-clause-vertices : goal.shortened-requires-clause-vertices
shortened-requires-clause-vertices c =
    let graph = c.in_ok-graph.graph.items in
    let cycle = rw (c.in-Cycle.is, c.deref.ensures.value) at c.in_ok-vertices.ensures in
    rw (c.deref-in-Cycle.ensures.value, c.deref-in-Cycle-2.ensures.value, ← length-map graph (λ row. row.items))
    (cycle_within (occurrences_of c.args.fitted.now.tree) c.args.fitted.now.selection_list (row_lists graph) c.in-Cycle.cycle.items c.in_ok-graph.ensures cycle)

pub returns-clause-fault : goal.returns-clause-fault
returns-clause-fault c =
    let cycle = rw (c.in-Cycle.is, c.deref.ensures.value) at c.in_ok-vertices.ensures in
    let chain = rw (c.deref-in-Cycle.ensures.value, c.deref-in-Cycle-2.ensures.value) at c.in_ok-shortened-in-Cycle.ensures in
    chain_is (occurrences_of c.args.fitted.now.tree) c.args.fitted.now.selection_list (row_lists c.in_ok-graph.graph.items) c.in-Cycle.cycle.items c.in_ok-shortened-in-Cycle.field-0
    (occurrences_nest c.args.fitted.now.tree) c.in_ok-graph.ensures cycle chain

pub returns-clause-only : goal.returns-clause-only
returns-clause-only c chain e acyclic = acyclic c.in_ok-shortened-in-Cycle.field-0 (returns-clause-fault c).0
