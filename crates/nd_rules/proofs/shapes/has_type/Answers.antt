use Rattle.hol_terms.specs.Terms.{plain_term, plain_type}
use Rattle.nd_rules.proofs.Types.{found_type}
use Rattle.nd_rules.proofs.shapes.has_type.Goals as goal

pub returns-in-Some : goal.returns-in-Some
returns-in-Some c =
    let typed = rw c.in-Some.is at c.in_ok-found.ensures in
    found_type (plain_term c.args.term.now) (plain_type c.in-Some.found) (plain_type c.args.ty.now) c.same.result typed c.same.ensures
