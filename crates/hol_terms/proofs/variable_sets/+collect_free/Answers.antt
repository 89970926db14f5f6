use Rattle.std.proofs.Common.{◌∙◌, sym, ap}
use Rattle.hol_terms.specs.Terms.{plain_term, plain_type}
use Rattle.hol_terms.specs.Collected.{with_variables}
use Rattle.hol_terms.specs.FreeVariables.{occurrences}
use Rattle.hol_terms.specs.declared.terms.Tm.{Tm}
use Rattle.hol_terms.proofs.Placing.{with_variable_either}
use Rattle.hol_terms.proofs.variable_sets.+collect_free.Goals as goal

pub returns-in_ok-insert-in-Free : goal.returns-in_ok-insert-in-Free
returns-in_ok-insert-in-Free t c =
    with_variable_either (c.in-Free.name, plain_type c.in-Free.ty) c.args.set.now c.insert.new.self c.in_ok-insert-in-Free.field-0 c.in_ok-insert-in-Free.ensures.put c.in_ok-insert-in-Free.ensures.known
    ∙ ap (λ (tm : Tm). with_variables c.args.set.now (occurrences (plain_term tm))) (sym c.in-Free.is)
