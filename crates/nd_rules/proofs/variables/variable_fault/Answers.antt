use Rattle.std.proofs.Common.{◌∙◌}
use Rattle.hol_terms.specs.Terms.{plain_type}
use Rattle.nd_rules.specs.Lines.{plain_line}
use Rattle.nd_rules.proofs.Firsts.{variable_judged}
use Rattle.nd_rules.proofs.variables.variable_fault.Goals as goal

pub returns : goal.returns
returns c =
    let variable = c.in-Some.variable in
    variable_judged c.args.outline.now (plain_line c.args.line.now) variable.name.now (plain_type variable.ty.now) c.as_slice.result.now c.first_free.result
    c.in-Some.ensures.some (c.as_slice.ensures ∙ c.in_ok-numbers.ensures) c.first_free.ensures.none c.first_free.ensures.some
