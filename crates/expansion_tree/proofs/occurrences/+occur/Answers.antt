use Rattle.std.proofs.Common.{ap, arith}
use Rattle.hol_terms.specs.Terms.{Term, plain_term}
use Rattle.expansion_tree.specs.Trees.{plain_tree}
use Rattle.expansion_tree.proofs.Counting.{node_count-positive, branch_listed}
use Rattle.expansion_tree.proofs.occurrences.+occur.Goals as goal

pub add_branch-close-requires-clause-end : goal.add_branch-close-requires-clause-end
add_branch-close-requires-clause-end t c = omega (arith, c.in_ok-end.ensures.end, node_count-positive (plain_tree c.args.tree.now))

pub add_branch-returns-clause-list : goal.add_branch-returns-clause-list
add_branch-returns-clause-list t c =
    branch_listed c.args.found.now.items c.push.new.self.items c.add_tree.new.found.items c.close.new.found.items record { node = c.args.at; last = c.args.at; term = c.in_ok-term.term }
    c.len-place.result c.args.at c.in_ok-end.end (plain_term c.args.term.now) (plain_tree c.args.tree.now)
    c.in_ok-push.ensures.items (ap (λ (u : Term). record { first = c.args.at; last = c.args.at; term = u }) c.in_ok-term.ensures)
    (omega (arith, c.len-place.ensures, c.args.found.now.ok)) c.in_ok-end.ensures.list c.in_ok-end.ensures.end c.close.ensures
