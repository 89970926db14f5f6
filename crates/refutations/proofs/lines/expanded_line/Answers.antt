use Rattle.std.proofs.Common.{◌≡◌, ℕ, List}
use Rattle.hol_terms.specs.Terms.{SimpleType, Term, plain_term, truth_type}
use Rattle.hol_terms.specs.Indices.{instance_of}
use Rattle.expansion_tree.specs.Standing.{IsNormalFormula, quantified, expanding}
use Rattle.nd_steps.specs.Deductions.{Proves}
use Rattle.refutations.specs.Opens.{said}
use Rattle.refutations.proofs.Saying.{proves_says}
use Rattle.refutations.proofs.Speaking.{expanding_read, instance_formed, lower_converts, copy_typed, lower_is, ok_expanded_reaches}
use Rattle.refutations.proofs.lines.expanded_line.Goals as goal

pub normal-requires : goal.normal-requires
normal-requires c =
    let (hyps, ty, b, d, assumed, proved, typed, long) = c.requires in
    let lines = c.args.deduction.now in
    let n = c.args.front.node.line in
    let p = c.args.front.node.positive in
    let f = plain_term c.formula_of-formula.result.now in
    let u = plain_term c.args.front.term.now in
    let v = plain_term c.in_ok-instance.instance in
    let says = proves_says lines n hyps (said p (quantified (expanding p ty) ty b)) proved in
    let is : v ≡ instance_of b u = c.in_ok-instance.ensures ty b (expanding_read lines n p ty b f says c.formula_of-formula.ensures) in
    (truth_type, instance_formed ty u b v typed long is)

pub expand-requires : goal.expand-requires
expand-requires c =
    let (hyps, ty, b, d, assumed, proved, typed, long) = c.requires in
    let lines = c.args.deduction.now in
    let n = c.args.front.node.line in
    let p = c.args.front.node.positive in
    let f = plain_term c.formula_of-formula.result.now in
    let u = plain_term c.args.front.term.now in
    let v = plain_term c.in_ok-instance.instance in
    let w = plain_term c.in_ok-term.term in
    let lower = plain_term c.in_ok-lower.lower in
    let says = proves_says lines n hyps (said p (quantified (expanding p ty) ty b)) proved in
    let is : v ≡ instance_of b u = c.in_ok-instance.ensures ty b (expanding_read lines n p ty b f says c.formula_of-formula.ensures) in
    let normal : IsNormalFormula lower v = c.in_ok-lower.ensures.normal truth_type (instance_formed ty u b v typed long is) in
    record { premises = (hyps, ty, b, assumed, proved, copy_typed ty u w long c.in_ok-term.ensures, lower_converts b u v w lower is c.in_ok-term.ensures normal) }

pub returns-clause-reaches : goal.returns-clause-reaches
returns-clause-reaches c =
    let (hyps, ty, b, d, assumed, proved, typed, long) = c.requires in
    let lines = c.args.deduction.now in
    let n = c.args.front.node.line in
    let p = c.args.front.node.positive in
    let f = plain_term c.formula_of-formula.result.now in
    let u = plain_term c.args.front.term.now in
    let v = plain_term c.in_ok-instance.instance in
    let lower = plain_term c.in_ok-lower.lower in
    let is : (hs : List ℕ) (s : SimpleType) (x : Term) → Proves lines n hs (said p (quantified (expanding p s) s x)) → v ≡ instance_of x u =
    λ hs s x proves. c.in_ok-instance.ensures s x (expanding_read lines n p s x f (proves_says lines n hs (said p (quantified (expanding p s) s x)) proves) c.formula_of-formula.ensures) in
    let normal : IsNormalFormula lower v = c.in_ok-lower.ensures.normal truth_type (instance_formed ty u b v typed long (is hyps ty b proved)) in
    let one : (hs : List ℕ) (s : SimpleType) (x a : Term) → Proves lines n hs (said p (quantified (expanding p s) s x)) → IsNormalFormula a (instance_of x u) → lower ≡ a =
    λ hs s x a proves is_normal. lower_is (instance_of x u) v lower a (is hs s x proves) normal is_normal in
    ok_expanded_reaches c.expand.result 6 lines c.expand.new.deduction n p lower u c.expand.ensures.reaches one
