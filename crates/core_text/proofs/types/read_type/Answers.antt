use Rattle.hol_terms.specs.Terms.{plain_type}
use Rattle.core_text.specs.CoreForms.{IsFormOfType}
use Rattle.core_text.specs.Placed.{form_of, placed}
use Rattle.core_text.specs.Reading.{type_at}
use Rattle.core_text.proofs.Results.{value_read, value_refused}
use Rattle.core_text.proofs.Table.{type_read, type_spelled}
use Rattle.core_text.proofs.types.read_type.Goals as goal

pub returns-clause-ty : goal.returns-clause-ty
returns-clause-ty c =
    let p = placed c.args.s.now in
    value_read plain_type c.type_at.result (type_at p) c.type_at.ensures (IsFormOfType (form_of c.args.s.now)) (type_read p)

pub returns-clause-no_type : goal.returns-clause-no_type
returns-clause-no_type c =
    let p = placed c.args.s.now in
    value_refused plain_type c.type_at.result (type_at p) c.type_at.ensures (IsFormOfType (form_of c.args.s.now)) (λ s h. type_spelled s p h.0 h.1)
