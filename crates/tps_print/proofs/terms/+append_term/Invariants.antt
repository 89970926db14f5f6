use Rattle.std.proofs.Common.{◌+◌, ◌*◌}
use Rattle.hol_terms.specs.Terms.{plain_term}
use Rattle.tps_print.specs.Shapes.{node_count}
use Rattle.tps_print.proofs.terms.+append_term.Given as goal

abbrev pub decreases-append_term : goal.decreases-append_term
decreases-append_term l = 3 * node_count (plain_term l.t.now)

abbrev pub decreases-append_application : goal.decreases-append_application
decreases-append_application l = 3 * (node_count (plain_term l.function.now) + node_count (plain_term l.argument.now)) + 2

abbrev pub decreases-append_applied : goal.decreases-append_applied
decreases-append_applied l = 3 * (node_count (plain_term l.function.now) + node_count (plain_term l.argument.now)) + 1

abbrev pub decreases-append_sides : goal.decreases-append_sides
decreases-append_sides l = 3 * (node_count (plain_term l.left.now) + node_count (plain_term l.right.now)) + 1

abbrev pub decreases-append_negation : goal.decreases-append_negation
decreases-append_negation l = 3 * node_count (plain_term l.below.now) + 1

abbrev pub decreases-append_binding : goal.decreases-append_binding
decreases-append_binding l = 3 * node_count (plain_term l.body.now) + 1
