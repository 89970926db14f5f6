use Rattle.std.proofs.Common.{◌≡◌, ℕ, List, [], ◌∷◌, Bool, not, refl, sym, ◌∙◌, subst, ap}
use Rattle.hol_terms.specs.Terms.{Term, plain_term}
use Rattle.hol_terms.specs.Truth.{Follows}
use Rattle.hol_terms.specs.Typing.{IsFormula}
use Rattle.expansion_tree.specs.Standing.{negation_of}
use Rattle.expansion_tree.proofs.Formulas.{formula_negated}
use Rattle.nd_steps.specs.Deductions.{Proves}
use Rattle.refutations.specs.Opens.{said}
use Rattle.refutations.proofs.Saying.{proves_says}
use Rattle.refutations.proofs.Speaking.{says_formed, said_formed, not_denied, denies, negation_read, ok_derived_reaches}
use Rattle.refutations.proofs.lines.line_under_negation.Goals as goal

pub formula_of-requires : goal.formula_of-requires
formula_of-requires c =
    let (hyps, b, d, assumed, proved) = c.requires in
    let lines = c.args.deduction.now in
    let n = c.args.node.line in
    let p = c.args.node.positive in
    (negation_of b, denies lines n p (negation_of b) c.if-not-node.false (proves_says lines n hyps (said p (negation_of b)) proved))

pub conclude_one-requires-clause-formula : goal.conclude_one-requires-clause-formula
conclude_one-requires-clause-formula c =
    let (hyps, b, d, assumed, proved) = c.requires in
    let lines = c.args.deduction.now in
    let n = c.args.node.line in
    let p = c.args.node.positive in
    let f = plain_term c.formula_of.result.now in
    let u = plain_term c.negated-formula.result.now in
    let t = plain_term c.in_ok-formula.formula in
    let says = proves_says lines n hyps (said p (negation_of b)) proved in
    let is = negation_read lines n p b f u t c.if-not-node.false says c.formula_of.ensures c.negated-formula.ensures c.in_ok-formula.ensures in
    let formed = said_formed p (negation_of b) (says_formed lines n (said p (negation_of b)) d says) in
    subst IsFormula (sym is) (formula_negated (negation_of b) b refl formed)

pub conclude_one-requires-clause-premises : goal.conclude_one-requires-clause-premises
conclude_one-requires-clause-premises c =
    let (hyps, b, d, assumed, proved) = c.requires in
    let lines = c.args.deduction.now in
    let n = c.args.node.line in
    let p = c.args.node.positive in
    let f = plain_term c.formula_of.result.now in
    let u = plain_term c.negated-formula.result.now in
    let t = plain_term c.in_ok-formula.formula in
    let says = proves_says lines n hyps (said p (negation_of b)) proved in
    let is = negation_read lines n p b f u t c.if-not-node.false says c.formula_of.ensures c.negated-formula.ensures c.in_ok-formula.ensures in
    (hyps, said p (negation_of b), assumed, proved, subst (Follows (said p (negation_of b) ∷ [])) (sym is) (not_denied p b c.if-not-node.false))

pub returns-clause-reaches : goal.returns-clause-reaches
returns-clause-reaches c =
    let lines = c.args.deduction.now in
    let n = c.args.node.line in
    let p = c.args.node.positive in
    let f = plain_term c.formula_of.result.now in
    let u = plain_term c.negated-formula.result.now in
    let t = plain_term c.in_ok-formula.formula in
    let turned : (b : Term) → b ≡ said (not p) b = λ b. ap (λ (q : Bool). said (not q) b) (sym c.if-not-node.false) in
    let is : (hyps : List ℕ) (b : Term) → Proves lines n hyps (said p (negation_of b)) → t ≡ said (not p) b =
    λ hyps b proved.
    negation_read lines n p b f u t c.if-not-node.false (proves_says lines n hyps (said p (negation_of b)) proved) c.formula_of.ensures c.negated-formula.ensures c.in_ok-formula.ensures
    ∙ turned b in
    ok_derived_reaches c.conclude_one.result 1 lines c.conclude_one.new.deduction n t (λ b. said p (negation_of b)) (said (not p)) c.conclude_one.ensures.derives is
