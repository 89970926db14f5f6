use Rattle.std.proofs.lemmas.Result.{IfOk-weaker}
use Rattle.tps_cli.proofs.Writing.{derivation_written}
use Rattle.tps_cli.proofs.translate.translated.Goals as goal

pub returns : goal.returns
returns c =
    IfOk-weaker c.write_derivation.result _ _ (λ text written. derivation_written c.args.accepted.now.fitted.formula c.in_ok-outline.outline text c.in_ok-outline.ensures.derivation written) c.write_derivation.ensures.written
