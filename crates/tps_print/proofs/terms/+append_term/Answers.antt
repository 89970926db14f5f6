use Rattle.std.proofs.Common.{map}
use Rattle.std.specs.String.{string_bytes}
use Rattle.hol_terms.specs.Terms.{plain_term}
use Rattle.tps_print.proofs.Applied.{plainly_applied}
use Rattle.tps_print.proofs.terms.+append_term.Goals as goal

pub append_application-returns-in-Negation : goal.append_application-returns-in-Negation
append_application-returns-in-Negation t c = rw (c.in-Negation.ensures.shape.0, c.in-Negation.ensures.shape.1) c.append_negation.ensures

pub append_application-returns-in-Universal : goal.append_application-returns-in-Universal
append_application-returns-in-Universal t c = rw (c.in-Universal.ensures.shape.1, c.in-Universal.ensures.shape.2) c.append_binding.ensures

pub append_application-returns-in-Existential : goal.append_application-returns-in-Existential
append_application-returns-in-Existential t c = rw (c.in-Existential.ensures.shape.1, c.in-Existential.ensures.shape.2) c.append_binding-in-Existential.ensures

pub append_application-returns-in-Conjunction : goal.append_application-returns-in-Conjunction
append_application-returns-in-Conjunction t c = rw (c.in-Conjunction.ensures.shape.0, c.in-Conjunction.ensures.shape.1) c.append_sides.ensures

pub append_application-returns-in-Disjunction : goal.append_application-returns-in-Disjunction
append_application-returns-in-Disjunction t c = rw (c.in-Disjunction.ensures.shape.0, c.in-Disjunction.ensures.shape.1) c.append_sides-in-Disjunction.ensures

pub append_application-returns-in-Implication : goal.append_application-returns-in-Implication
append_application-returns-in-Implication t c = rw (c.in-Implication.ensures.shape.0, c.in-Implication.ensures.shape.1) c.append_sides-in-Implication.ensures

pub append_application-returns-in-Applied : goal.append_application-returns-in-Applied
append_application-returns-in-Applied t c =
    rw (plainly_applied (map string_bytes c.args.names.now) c.args.depth c.args.level (plain_term c.args.function.now) (plain_term c.args.argument.now) c.in-Applied.ensures.shape) c.append_applied.ensures

pub append_term-returns-in-App : goal.append_term-returns-in-App
append_term-returns-in-App t c = rw (c.in-App.is, ← c.deref.ensures, ← c.deref-in-App.ensures) c.append_application.ensures
