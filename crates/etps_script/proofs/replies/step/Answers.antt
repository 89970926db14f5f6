use Rattle.etps_session.specs.Replays.{replay}
use Rattle.script_text.specs.Commands.{plain_script}
use Rattle.etps_script.proofs.Naming.{names_known}
use Rattle.etps_script.proofs.Stepping.{line_there, no_step, step_after}
use Rattle.etps_script.proofs.replies.step.Goals as goal

pub take-requires-clause-known : goal.take-requires-clause-known
take-requires-clause-known c = names_known (replay c.args.session.now) c.args.names c.requires.names

pub with_step-requires : goal.with_step-requires
with_step-requires c =
    step_after c.args.session.now (plain_script c.args.script.now) c.take.new.session c.in-Ok.number c.args.names c.len-count.result c.outline-in-Ok.result.now
    c.in-Ok.ensures.taken c.requires.names (rw c.outline.ensures.lines at c.len-count.ensures.count) c.outline-in-Ok.ensures.lines

pub shown-requires : goal.shown-requires
shown-requires c = line_there c.args.session.now (plain_script c.args.script.now) c.take.new.session c.in-Ok.number c.in-Ok.ensures.taken

pub returns-in_ok-reply-in-Err-clause-reply : goal.returns-in_ok-reply-in-Err-clause-reply
returns-in_ok-reply-in-Err-clause-reply c =
    no_step c.args.session.now (plain_script c.args.script.now) c.take.new.session c.in-Err.refusal c.in_ok-reply-in-Err.reply
    c.in-Err.ensures.refused c.in-Err.ensures.kept c.in_ok-reply-in-Err.ensures.told c.in_ok-reply-in-Err.ensures.text
