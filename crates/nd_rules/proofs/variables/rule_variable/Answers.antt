use Rattle.std.proofs.Common.{refl, sym, subst}
use Rattle.hol_terms.specs.Terms.{plain_term, plain_type}
use Rattle.nd_rules.specs.declared.lines.Why.{Why}
use Rattle.nd_rules.specs.Lines.{plain_line, plain_why}
use Rattle.nd_rules.specs.Rules.{IsRuleVariable}
use Rattle.nd_rules.proofs.variables.rule_variable.Goals as goal

pub returns-in-Some-existential_body-clause-some : goal.returns-in-Some-existential_body-clause-some
returns-in-Some-existential_body-clause-some c =
    let quantified = c.in-Some-existential_body.quantified in
    let line = rw c.in-Some-line_at.is at c.line_at.ensures.line in
    let P : Why → Type 0 = λ w. IsRuleVariable c.args.outline.now (plain_line c.args.line.now) (plain_why w) c.in-Rulec.var (plain_type quantified.ty.now) in
    subst P (sym c.in-Rulec.is) (refl, (plain_line c.in-Some-line_at.some_line.now, sym line, (plain_term quantified.body.now, c.in-Some-existential_body.ensures.some)))
