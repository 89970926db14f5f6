use Rattle.hol_terms.specs.Terms.{plain_term}
use Rattle.core_text.specs.CoreForms.{IsFormOfTyped}
use Rattle.core_text.specs.Judged.{reading_at}
use Rattle.core_text.specs.Placed.{form_of, placed}
use Rattle.core_text.proofs.Judgements.{reading_read, reading_spelled}
use Rattle.core_text.proofs.Results.{answer_read, answer_refused}
use Rattle.core_text.proofs.terms.read_term.Goals as goal

pub returns-clause-term : goal.returns-clause-term
returns-clause-term c =
    let p = placed c.args.s.now in
    answer_read plain_term c.reading_at.result (reading_at p) c.reading_at.ensures (IsFormOfTyped (form_of c.args.s.now)) (reading_read p)

pub returns-clause-no_term : goal.returns-clause-no_term
returns-clause-no_term c =
    let p = placed c.args.s.now in
    answer_refused plain_term c.reading_at.result (reading_at p) c.reading_at.ensures (IsFormOfTyped (form_of c.args.s.now)) (λ t h. reading_spelled t p h)
