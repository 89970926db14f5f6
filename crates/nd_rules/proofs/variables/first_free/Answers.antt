use Rattle.hol_terms.specs.Terms.{plain_type}
use Rattle.nd_rules.specs.Lines.{plain_line}
use Rattle.nd_rules.specs.Variables.{IsFreeAt}
use Rattle.nd_rules.proofs.Firsts.{first_found, one_more, none_in_all}
use Rattle.nd_rules.proofs.variables.first_free.Goals as goal

pub returns-then-is_free_at-clause-some : goal.returns-then-is_free_at-clause-some
returns-then-is_free_at-clause-some c =
    first_found (IsFreeAt c.args.outline.now (plain_line c.args.line.now) c.args.variable.name.now (plain_type c.args.variable.ty.now)) c.args.numbers.now c.loop-n.n-index c.loop-n-test.true c.loop-n.invariant (c.is_free_at.ensures.0 c.if-is_free_at.true)

pub loop-n-preserved : goal.loop-n-preserved
loop-n-preserved c =
    one_more (IsFreeAt c.args.outline.now (plain_line c.args.line.now) c.args.variable.name.now (plain_type c.args.variable.ty.now)) c.args.numbers.now c.loop-n.n-index c.is_free_at.result c.loop-n-test.true c.loop-n.invariant c.is_free_at.ensures c.if-is_free_at.false

pub returns-clause-none : goal.returns-clause-none
returns-clause-none c =
    none_in_all (IsFreeAt c.args.outline.now (plain_line c.args.line.now) c.args.variable.name.now (plain_type c.args.variable.ty.now)) c.args.numbers.now c.loop-n.n-index c.loop-n-test.false c.loop-n.invariant
