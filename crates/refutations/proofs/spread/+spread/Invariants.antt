use Rattle.std.proofs.Common.{◌+◌, ◌*◌}
use Rattle.expansion_tree.specs.Trees.{node_count, plain_tree}
use Rattle.refutations.proofs.spread.+spread.Given as goal

-- twice the number of nodes, and one more for the parts of a node
abbrev pub decreases-spread : goal.decreases-spread
decreases-spread l = 2 * node_count (plain_tree l.node.tree.now)

abbrev pub decreases-spread_negation : goal.decreases-spread_negation
decreases-spread_negation l = 2 * node_count (plain_tree l.t.now) + 1

abbrev pub decreases-spread_sides : goal.decreases-spread_sides
decreases-spread_sides l = 2 * (node_count (plain_tree l.t.now) + node_count (plain_tree l.u.now)) + 1

abbrev pub decreases-spread_selection : goal.decreases-spread_selection
decreases-spread_selection l = 2 * node_count (plain_tree l.t.now) + 1
