use Rattle.hol_terms.specs.Terms.{plain_term}
use Rattle.core_text.specs.CoreForms.{IsFormOfTerm}
use Rattle.core_text.specs.Placed.{form_of, placed}
use Rattle.core_text.specs.Reading.{term_at}
use Rattle.core_text.proofs.Results.{value_read, value_refused}
use Rattle.core_text.proofs.Table.{term_read, term_spelled}
use Rattle.core_text.proofs.terms.read_preterm.Goals as goal

pub returns-clause-term : goal.returns-clause-term
returns-clause-term c =
    let p = placed c.args.s.now in
    value_read plain_term c.term_at.result (term_at p) c.term_at.ensures (IsFormOfTerm (form_of c.args.s.now)) (term_read p)

pub returns-clause-no_term : goal.returns-clause-no_term
returns-clause-no_term c =
    let p = placed c.args.s.now in
    value_refused plain_term c.term_at.result (term_at p) c.term_at.ensures (IsFormOfTerm (form_of c.args.s.now)) (λ t h. term_spelled t p h.0 h.1)
