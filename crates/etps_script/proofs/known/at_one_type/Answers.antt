use Rattle.std.proofs.lemmas.Result.{IfOk-weaker}
use Rattle.etps_script.proofs.Naming.{unshared_at_one_type}
use Rattle.etps_script.proofs.known.at_one_type.Goals as goal

pub returns : goal.returns
returns c =
    IfOk-weaker c.unshared.result _ _
    (λ known h. unshared_at_one_type c.args.tally.now.variables c.args.tally.now.names c.args.tally.now.shared known c.requires h) c.unshared.ensures
