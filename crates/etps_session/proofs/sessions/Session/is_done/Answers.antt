use Rattle.std.proofs.Common.{◌∙◌, List, map, not, ap}
use Rattle.std.specs.Option.{option_map}
use Rattle.nd_rules.specs.Lines.{DeductionLine}
use Rattle.etps_session.specs.Progress.{first_planned_in, lines_upto}
use Rattle.etps_session.specs.Traces.{plain_goal, plain_step}
use Rattle.etps_session.proofs.Done.{done_derives}
use Rattle.etps_session.proofs.sessions.Session.is_done.Goals as goal

pub returns-in-Some-clause-derivation : goal.returns-in-Some-clause-derivation
returns-in-Some-clause-derivation c holds =
    done_derives c.args.self.now (option_map plain_goal c.self.inside.goal) (map plain_step c.self.inside.steps.items) c.self.inside.outline (plain_goal c.in-Some.goal)
    c.first_planned_upto.result c.self.view_is (ap (option_map plain_goal) c.in-Some.is) c.self.invariant c.as_slice.ensures.outline
    (c.first_planned_upto.ensures ∙ ap (λ (ls : List DeductionLine). first_planned_in (lines_upto ls c.in-Some.goal.number)) c.as_slice.ensures.all)
    (c.is_none.ensures ∙ ap not holds)
