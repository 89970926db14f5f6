use Rattle.std.proofs.Common.{◌≡◌, ◌∙◌, ℕ, List, [], ◌∷◌, ◌++◌, map, sym, ap, ap₂, subst}
use Rattle.std.specs.Prelude.{IsSome, Option}
use Rattle.nd_rules.specs.Lines.{DeductionLine, line_of, plain_line}
use Rattle.nd_rules.specs.Outlines.{HasTypedTerms, IsOutline}
use Rattle.etps_session.specs.Commands.{number_of, plain_command}
use Rattle.etps_session.specs.Replays.{taken}
use Rattle.etps_session.specs.Traces.{change_of, plain_step, taken_back}
use Rattle.etps_session.specs.declared.steps.Change.{Change}
use Rattle.etps_session.proofs.Undone.{judged_number, judged_put, judged_why, taken_then_back, taken_there}
use Rattle.etps_session.proofs.steps.accept.Goals as goal

pub put_line-requires-clause-term : goal.put_line-requires-clause-term
put_line-requires-clause-term c =
    subst HasTypedTerms (sym (ap (λ (l : DeductionLine). l.why) c.requires.line ∙ judged_why c.args.outline.now (plain_command c.args.command))) c.requires.typed.1

pub take_back-requires : goal.take_back-requires
take_back-requires c =
    let lines = c.args.outline.now in
    let r = plain_command c.args.command in
    let put = c.in-Ok.ensures.ok ∙ judged_put lines r (plain_line c.args.line) c.requires.line in
    let number = ap (λ (l : DeductionLine). l.number) c.requires.line ∙ judged_number lines r in
    subst (λ (o : Option DeductionLine). IsSome o) (sym (ap₂ (λ (ls : List DeductionLine) (n : ℕ). line_of ls n) put number)) (taken_there lines r)

pub returns-in-Ok-push_step-clause-outline : goal.returns-in-Ok-push_step-clause-outline
returns-in-Ok-push_step-clause-outline c = c.in-Ok.ensures.ok ∙ judged_put c.args.outline.now (plain_command c.args.command) (plain_line c.args.line) c.requires.line

pub returns-in-Ok-push_step-clause-steps : goal.returns-in-Ok-push_step-clause-steps
returns-in-Ok-push_step-clause-steps c =
    let lines = c.args.outline.now in
    let r = plain_command c.args.command in
    let number = ap (λ (l : DeductionLine). l.number) c.requires.line ∙ judged_number lines r in
    c.in-Ok-push_step.ensures.ok
    ∙ ap (λ (k : Change). map plain_step c.args.steps.now.items ++ (r, k) ∷ []) (c.in-Ok.ensures.change ∙ ap (λ (n : ℕ). change_of (line_of lines n)) number)

pub returns-in-Err-push_step-clause-kept_outline : goal.returns-in-Err-push_step-clause-kept_outline
returns-in-Err-push_step-clause-kept_outline c =
    let lines = c.args.outline.now in
    let r = plain_command c.args.command in
    let put : c.put_line.new.outline ≡ taken lines r = c.in-Ok.ensures.ok ∙ judged_put lines r (plain_line c.args.line) c.requires.line in
    let number : c.args.line.number ≡ number_of r = ap (λ (l : DeductionLine). l.number) c.requires.line ∙ judged_number lines r in
    let change : c.in-Ok.change ≡ change_of (line_of lines (number_of r)) = c.in-Ok.ensures.change ∙ ap (λ (n : ℕ). change_of (line_of lines n)) number in
    c.take_back.ensures.lines
    ∙ ap (λ (k : Change). taken_back k c.put_line.new.outline c.args.line.number) change
    ∙ ap₂ (λ (ls : List DeductionLine) (n : ℕ). taken_back (change_of (line_of lines (number_of r))) ls n) put number
    ∙ taken_then_back lines r (subst IsOutline put c.take_back.ensures.outline) c.requires.free
