use Rattle.std.proofs.Common.{◌≡◌, ◌∙◌, true, ap}
use Rattle.std.specs.Prelude.{Option}
use Rattle.hol_terms.specs.Terms.{Term, plain_term, plain_type}
use Rattle.etps_session.specs.Tables.{instance_in, universal_in}
use Rattle.etps_session.proofs.Typed.{instance_made, instance_typed, instance_untyped}
use Rattle.etps_session.proofs.tables.instance.Goals as goal

pub returns-then-not-branch-clause-formula : goal.returns-then-not-branch-clause-formula
returns-then-not-branch-clause-formula c =
    let term = plain_term c.args.term.now in
    instance_untyped (plain_term c.in-Some.formula.now) (plain_term c.in-Some-universal_body.quantified.body.now) term (plain_type c.in-Some-universal_body.quantified.ty.now)
    c.in-Some-universal_body.ensures.some (λ typed. let same : c.in_ok-has_type.field-0 ≡ true = c.in_ok-has_type.ensures.1 typed in cc)
    ∙ ap (λ (o : Option Term). instance_in (universal_in o) term) c.in-Some.ensures.formula

pub returns-clause-formula : goal.returns-clause-formula
returns-clause-formula c =
    let term = plain_term c.args.term.now in
    let holds : c.in_ok-has_type.field-0 ≡ true = cc in
    instance_made (plain_term c.in-Some.formula.now) (plain_term c.in-Some-universal_body.quantified.body.now) term (plain_term c.in_ok-instantiate.field-0)
    (plain_type c.in-Some-universal_body.quantified.ty.now) c.in-Some-universal_body.ensures.some (c.in_ok-has_type.ensures.0 holds) c.in_ok-instantiate.ensures
    ∙ ap (λ (o : Option Term). instance_in (universal_in o) term) c.in-Some.ensures.formula

pub returns-clause-formed : goal.returns-clause-formed
returns-clause-formed c =
    let holds : c.in_ok-has_type.field-0 ≡ true = cc in
    instance_typed (plain_term c.in-Some.formula.now) (plain_term c.in-Some-universal_body.quantified.body.now) (plain_term c.args.term.now) (plain_term c.in_ok-instantiate.field-0)
    (plain_type c.in-Some-universal_body.quantified.ty.now) c.in-Some.ensures.formed c.in-Some-universal_body.ensures.some (c.in_ok-has_type.ensures.0 holds) c.in_ok-instantiate.ensures
