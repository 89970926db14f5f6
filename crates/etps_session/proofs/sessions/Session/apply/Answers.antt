use Rattle.std.proofs.Common.{◌≡◌, ◌∙◌, map, true, sym, ap}
use Rattle.std.specs.Prelude.{is_some}
use Rattle.std.specs.Option.{option_map}
use Rattle.etps_session.specs.Commands.{plain_command}
use Rattle.etps_session.specs.Traces.{plain_goal, plain_step}
use Rattle.etps_session.proofs.Refused.{answer_excludes}
use Rattle.etps_session.proofs.Traced.{answer_for, session_more, session_same, some_kept}
use Rattle.etps_session.proofs.sessions.Session.apply.Goals as goal
use Rattle.etps_session.proofs.sessions.Session.apply.Goals.{in-Ok-accept, in-Err-accept}

pub invariant_of-self : goal.invariant_of-self
invariant_of-self c =
    let held = option_map plain_goal c.self.inside.goal in
    let old = map plain_step c.self.inside.steps.items in
    let new = map plain_step c.accept.new.steps.items in
    let lines = c.self.inside.outline in
    let started : is_some held ≡ true = sym (c.is_some.ensures ∙ some_kept c.self.inside.goal) ∙ c.in-Ok.ensures.started in
    elim c.match-accept.branch [
      | in-Ok-accept w ↦
          session_more held old new lines c.accept.new.outline (plain_command c.args.command) started c.self.invariant c.in-Ok.ensures.accepted w.in-Ok-accept.ensures.steps w.in-Ok-accept.ensures.outline
      | in-Err-accept w ↦
          session_same held old new lines c.accept.new.outline c.self.invariant (ap (map plain_step) w.in-Err-accept.ensures.kept_steps) w.in-Err-accept.ensures.kept_outline
    ]

pub returns-in-Err-clause-refused : goal.returns-in-Err-clause-refused
returns-in-Err-clause-refused c =
    answer_for c.args.self.now (option_map plain_goal c.self.inside.goal) (map plain_step c.self.inside.steps.items) c.self.inside.outline (plain_command c.args.command) c.in-Err.fault
    c.is_some.result c.self.view_is c.self.invariant (c.is_some.ensures ∙ some_kept c.self.inside.goal) c.in-Err.ensures.fault

pub returns-in-Err-clause-only : goal.returns-in-Err-clause-only
returns-in-Err-clause-only c different accepted =
    answer_excludes c.args.self.now (plain_command c.args.command) c.in-Err.fault (returns-in-Err-clause-refused c) different accepted
