use Rattle.std.proofs.Common.{true, subst, sym}
use Rattle.std.specs.declared.alloc.AllocError.{AllocError}
use Rattle.hol_terms.specs.Terms.{truth_type, plain_term}
use Rattle.hol_terms.specs.Typing.{IsFormula}
use Rattle.expansion_tree.specs.Standing.{IsNormalFormula, Stands}
use Rattle.expansion_tree.specs.Trees.{ExpansionTree}
use Rattle.expansion_tree.proofs.Formulas.{normal_formula}
use Rattle.expansion_tree.proofs.Deepening.{fitted_formula, fitted_stands, deep_of_fitted}
use Rattle.expansion_tree.proofs.deep.deep_formula.Goals as goal

pub normal-requires : goal.normal-requires
normal-requires c =
    let f = c.args.fitted.now in
    let fitted = c.tree-tree.ensures.stands in
    (truth_type, subst IsFormula (sym c.formula.ensures) (fitted_formula f.formula f.tree fitted.0 fitted.1.is_tree))

pub deepened-requires-clause-formula : goal.deepened-requires-clause-formula
deepened-requires-clause-formula c =
    let f = c.args.fitted.now in
    let fitted = c.tree-tree.ensures.stands in
    let formula : IsFormula (plain_term c.formula.result.now) = subst IsFormula (sym c.formula.ensures) (fitted_formula f.formula f.tree fitted.0 fitted.1.is_tree) in
    normal_formula (plain_term c.in_ok-formula.formula) (plain_term c.formula.result.now) (c.in_ok-formula.ensures.normal truth_type formula)

pub deepened-requires-clause-stands : goal.deepened-requires-clause-stands
deepened-requires-clause-stands c =
    let f = c.args.fitted.now in
    let fitted = c.tree-tree.ensures.stands in
    let formula : IsFormula (plain_term c.formula.result.now) = subst IsFormula (sym c.formula.ensures) (fitted_formula f.formula f.tree fitted.0 fitted.1.is_tree) in
    let normal : IsNormalFormula (plain_term c.in_ok-formula.formula) f.formula = subst (IsNormalFormula (plain_term c.in_ok-formula.formula)) c.formula.ensures (c.in_ok-formula.ensures.normal truth_type formula) in
    (fitted.0, subst (λ (t : ExpansionTree). Stands true (plain_term c.in_ok-formula.formula) t fitted.0) (sym c.tree-tree.ensures.tree) (fitted_stands f.formula (plain_term c.in_ok-formula.formula) f.tree fitted.0 normal fitted.1.is_tree))

pub returns : goal.returns
returns c =
    let f = c.args.fitted.now in
    let fitted = c.tree-tree.ensures.stands in
    let formula : IsFormula (plain_term c.formula.result.now) = subst IsFormula (sym c.formula.ensures) (fitted_formula f.formula f.tree fitted.0 fitted.1.is_tree) in
    let normal : IsNormalFormula (plain_term c.in_ok-formula.formula) f.formula = subst (IsNormalFormula (plain_term c.in_ok-formula.formula)) c.formula.ensures (c.in_ok-formula.ensures.normal truth_type formula) in
    deep_of_fitted AllocError f (plain_term c.in_ok-formula.formula) c.deepened.result normal (rw c.tree-tree.ensures.tree at c.deepened.ensures)
