use Rattle.std.proofs.Common.{◌∙◌, ap, subst, sym, List}
use Rattle.hol_terms.specs.Terms.{plain_term}
use Rattle.nd_rules.specs.Lines.{DeductionLine}
use Rattle.nd_rules.specs.Outlines.{IsDerivation}
use Rattle.outline_translate.proofs.Translating.{derived}
use Rattle.outline_translate.proofs.translate.translate.Goals as goal

pub returns-then-is_normal-clause-derivation : goal.returns-then-is_normal-clause-derivation
returns-then-is_normal-clause-derivation c =
    let formula = c.formula-formula.ensures ∙ ap (λ f. f.formula) c.fitted.ensures.fitted in
    let whole =
    derived 2 c.refute.new.deduction c.by_contradiction.new.self c.new-none.result c.in_ok-line.line (plain_term c.in_ok-normal.normal) c.args.accepted.now.fitted.formula c.in_ok-line.ensures.deduction c.new-none.ensures (c.same-is_normal.ensures.0 c.if-is_normal.true ∙ formula)
    c.in_ok-line.ensures.derives in
    subst (λ (lines : List DeductionLine). IsDerivation lines c.args.accepted.now.fitted.formula) (sym c.into_outline.ensures.lines) whole
