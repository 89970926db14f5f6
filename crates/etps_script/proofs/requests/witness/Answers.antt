use Rattle.std.proofs.Common.{inr}
use Rattle.hol_terms.specs.Terms.{plain_term, plain_type}
use Rattle.etps_script.proofs.requests.witness.Goals as goal

pub returns-in-Err-term-clause-fault : goal.returns-in-Err-term-clause-fault
returns-in-Err-term-clause-fault c =
    let q = c.in-Some.quantified in
    inr (inr (plain_type q.ty.now, (plain_term c.in-Ok.formula, c.in-Ok.ensures.means, (plain_term q.body.now, c.in-Some.ensures.some)), c.in-Err-term.ensures.fault))
