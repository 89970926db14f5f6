use Rattle.std.proofs.lemmas.Result.{IfOk-weaker}
use Rattle.hol_terms.specs.Terms.{plain_type}
use Rattle.etps_script.proofs.Naming.{begins_put}
use Rattle.etps_script.proofs.Tallying.{gained_put}
use Rattle.etps_script.proofs.known.with_variable.Goals as goal

pub returns-then-branch-clause-gained : goal.returns-then-branch-clause-gained
returns-then-branch-clause-gained c =
    IfOk-weaker c.with_new.result _ _
    (λ t h. gained_put c.args.tally.variables t.variables (c.args.name.now, plain_type c.args.ty.now) h) c.with_new.ensures.put

pub returns-then-branch-clause-longer : goal.returns-then-branch-clause-longer
returns-then-branch-clause-longer c =
    IfOk-weaker c.with_new.result _ _
    (λ t h. begins_put c.args.tally.variables t.variables (c.args.name.now, plain_type c.args.ty.now) h) c.with_new.ensures.put
