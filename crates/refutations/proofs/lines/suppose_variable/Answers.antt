use Rattle.std.proofs.Common.{◌≡◌, ◌∙◌, subst, ap}
use Rattle.std.proofs.lemmas.Result.{IfOk-weaker}
use Rattle.hol_terms.specs.Terms.{SimpleType, Term, free, plain_term}
use Rattle.hol_terms.specs.Indices.{instance_of}
use Rattle.expansion_tree.specs.Standing.{quantified, selecting}
use Rattle.nd_steps.specs.Deductions.{Assumes}
use Rattle.refutations.specs.Opens.{said, Says}
use Rattle.refutations.proofs.Saying.{said_read}
use Rattle.refutations.proofs.Speaking.{says_formed, selected_formed}
use Rattle.refutations.proofs.lines.suppose_variable.Goals as goal

pub assume-requires : goal.assume-requires
assume-requires c =
    let (ty, b, d, says) = c.requires in
    let lines = c.args.deduction.now in
    let n = c.args.node.line in
    let p = c.args.node.positive in
    let f = plain_term c.formula_of-formula.result.now in
    let t = plain_term c.in_ok-formula.formula in
    let variable : SimpleType → Term = free c.args.name.now in
    let a = quantified (selecting p ty) ty b in
    let is : t ≡ said p (instance_of b (variable ty)) = c.in_ok-formula.ensures ∙ ap (said p) (c.in_ok-instance.ensures ty b (said_read lines n p a f says c.formula_of-formula.ensures)) in
    selected_formed p c.args.name.now ty b t (says_formed lines n (said p a) d says) is

pub returns-clause-assumes : goal.returns-clause-assumes
returns-clause-assumes c =
    let lines = c.args.deduction.now in
    let n = c.args.node.line in
    let p = c.args.node.positive in
    let f = plain_term c.formula_of-formula.result.now in
    let t = plain_term c.in_ok-formula.formula in
    let variable : SimpleType → Term = free c.args.name.now in
    let new = c.assume.new.self in
    let is : (ty : SimpleType) (b : Term) → Says lines n (said p (quantified (selecting p ty) ty b)) → t ≡ said p (instance_of b (variable ty)) =
    λ ty b says. c.in_ok-formula.ensures ∙ ap (said p) (c.in_ok-instance.ensures ty b (said_read lines n p (quantified (selecting p ty) ty b) f says c.formula_of-formula.ensures)) in
    IfOk-weaker c.assume.result (λ k. Assumes new k t)
    (λ k. (ty : SimpleType) (b : Term) → Says lines n (said p (quantified (selecting p ty) ty b)) → Assumes new k (said p (instance_of b (variable ty))))
    (λ k assumed ty b says. subst (Assumes new k) (is ty b says) assumed) c.assume.ensures.assumes
