use Rattle.std.proofs.Common.{inr}
use Rattle.hol_terms.specs.Terms.{plain_type}
use Rattle.etps_script.proofs.requests.instance.Goals as goal

pub returns-in-Err-term-clause-fault : goal.returns-in-Err-term-clause-fault
returns-in-Err-term-clause-fault c = inr (plain_type c.in-Ok.ty.now, c.in-Ok.ensures.source, c.in-Err-term.ensures.fault)
