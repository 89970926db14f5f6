use Rattle.core_text.specs.CoreForms.{IsFormOfName}
use Rattle.core_text.specs.Placed.{form_of, placed}
use Rattle.core_text.specs.Reading.{name_at}
use Rattle.core_text.proofs.Results.{value_read, value_refused}
use Rattle.core_text.proofs.Table.{name_read, name_spelled}
use Rattle.core_text.proofs.terms.read_name.Goals as goal

pub returns-clause-name : goal.returns-clause-name
returns-clause-name c =
    let p = placed c.args.s.now in
    value_read (λ name. name) c.name_at.result (name_at p) c.name_at.ensures (IsFormOfName (form_of c.args.s.now)) (name_read p)

pub returns-clause-no_name : goal.returns-clause-no_name
returns-clause-no_name c =
    let p = placed c.args.s.now in
    value_refused (λ name. name) c.name_at.result (name_at p) c.name_at.ensures (IsFormOfName (form_of c.args.s.now)) (λ name h. name_spelled name p h.0 h.1)
