use Rattle.std.proofs.Common.{◌≡◌, ◌∙◌, ap₂}
use Rattle.hol_terms.specs.Terms.{Term, application, plain_term, plain_type, truth_type}
use Rattle.hol_terms.proofs.TypingLaws.{typed_is_closed}
use Rattle.nd_rules.specs.Rules.{universal}
use Rattle.etps_session.proofs.Typed.{universal_is, universal_typed}
use Rattle.etps_session.proofs.tables.universal.Goals as goal

pub abstract_over-requires : goal.abstract_over-requires
abstract_over-requires c = typed_is_closed (plain_term c.args.formula.now) truth_type c.requires

pub returns-clause-formula : goal.returns-clause-formula
returns-clause-formula c =
    let made : plain_term c.in_ok-formula.formula ≡ universal (plain_type c.args.ty.now) (plain_term c.in_ok-body.body) =
    c.in_ok-formula.ensures ∙ ap₂ (λ (q : Term) (p : Term). application q p) c.in_ok-head.ensures c.in_ok-predicate.ensures in
    universal_is c.args.name.now (plain_type c.args.ty.now) (plain_term c.args.formula.now) (plain_term c.in_ok-body.body) (plain_term c.in_ok-formula.formula) c.requires c.in_ok-body.ensures made

pub returns-clause-formed : goal.returns-clause-formed
returns-clause-formed c =
    let made : plain_term c.in_ok-formula.formula ≡ universal (plain_type c.args.ty.now) (plain_term c.in_ok-body.body) =
    c.in_ok-formula.ensures ∙ ap₂ (λ (q : Term) (p : Term). application q p) c.in_ok-head.ensures c.in_ok-predicate.ensures in
    universal_typed c.args.name.now (plain_type c.args.ty.now) (plain_term c.args.formula.now) (plain_term c.in_ok-body.body) (plain_term c.in_ok-formula.formula) c.requires c.in_ok-body.ensures made
