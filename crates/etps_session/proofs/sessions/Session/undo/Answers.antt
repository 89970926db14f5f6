use Rattle.std.proofs.Common.{◌∙◌, ℕ, map, sym, ap₂, subst}
use Rattle.std.specs.Prelude.{IsSome}
use Rattle.std.specs.Option.{option_map}
use Rattle.nd_rules.specs.Lines.{line_of}
use Rattle.etps_session.specs.Traces.{plain_goal, plain_step, taken_back}
use Rattle.etps_session.specs.declared.steps.Change.{Change}
use Rattle.etps_session.proofs.Traced.{last_there, session_less, steps_popped}
use Rattle.etps_session.proofs.sessions.Session.undo.Goals as goal

pub take_back-requires : goal.take_back-requires
take_back-requires c =
    let old = c.self.inside.steps.items in
    let new = c.pop.new.self.items in
    subst (λ (n : ℕ). IsSome (line_of c.self.inside.outline n)) (sym c.undone-number.ensures.number)
    (
    last_there (option_map plain_goal c.self.inside.goal) (map plain_step new) (map plain_step old) c.self.inside.outline (plain_step c.in-Some.step)
    (steps_popped old new c.in-Some.step c.in-Some.ensures.items) c.self.invariant
    )

pub invariant_of-self-in-Some : goal.invariant_of-self-in-Some
invariant_of-self-in-Some c =
    let old = c.self.inside.steps.items in
    let new = c.pop.new.self.items in
    session_less (option_map plain_goal c.self.inside.goal) (map plain_step new) (map plain_step old) c.self.inside.outline c.take_back.new.outline (plain_step c.in-Some.step)
    c.take_back.ensures.outline (steps_popped old new c.in-Some.step c.in-Some.ensures.items) c.self.invariant
    (c.take_back.ensures.lines ∙ ap₂ (λ (k : Change) (n : ℕ). taken_back k c.self.inside.outline n) c.undone-number.ensures.change c.undone-number.ensures.number)
