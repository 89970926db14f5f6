use Rattle.std.proofs.Common.{inl}
use Rattle.std.proofs.lemmas.Result.{IfOk-weaker}
use Rattle.script_text.specs.Commands.{plain_script}
use Rattle.etps_script.proofs.scripts.reply.Goals as goal

pub returns-in-Ok-clause-reply : goal.returns-in-Ok-clause-reply
returns-in-Ok-clause-reply c =
    IfOk-weaker c.execute_with.result _ _
    (λ r h. inl (plain_script c.in-Ok.command, c.in-Ok.ensures.command, h)) c.execute_with.ensures.replied
