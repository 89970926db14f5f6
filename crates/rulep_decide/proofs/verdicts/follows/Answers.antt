use Rattle.std.proofs.Common.{List, subst, sym}
use Rattle.hol_terms.specs.Terms.{Term, plain_term}
use Rattle.rulep_decide.specs.Circuits.{nodes_of}
use Rattle.rulep_decide.specs.Searches.{assigned}
use Rattle.rulep_decide.specs.Verdicts.{Falsifies}
use Rattle.rulep_decide.proofs.Deciding.{follows_by_search, falsified_by_search}
use Rattle.rulep_decide.proofs.verdicts.follows.Goals as goal

pub returns-in-None : goal.returns-in-None
returns-in-None c =
    follows_by_search (nodes_of c.in_ok-circuit.circuit) c.args.premises.now (plain_term c.args.conclusion.now) c.in_ok-circuit.ensures.numbered.in_order
    c.in_ok-circuit.ensures.demands (rw c.in-None.is at c.in_ok-find_values.ensures)

pub returns : goal.returns
returns c =
    let found = rw c.in-Some.is at c.in_ok-find_values.ensures in
    subst (λ (atoms : List Term). Falsifies atoms c.args.premises.now (plain_term c.args.conclusion.now)) (sym c.in_ok-atoms-in-Some.ensures)
    (falsified_by_search (nodes_of c.in_ok-circuit.circuit) c.args.premises.now (plain_term c.args.conclusion.now) (assigned c.in-Some.values.items)
    c.in_ok-circuit.ensures.numbered.in_order c.in_ok-circuit.ensures.demands c.in_ok-circuit.ensures.atoms found.1)
