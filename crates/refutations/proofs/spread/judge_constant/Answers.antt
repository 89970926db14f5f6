use Rattle.std.proofs.Common.{Bool, [], ◌∷◌, refl, sym, subst}
use Rattle.hol_terms.specs.Terms.{Term, plain_term}
use Rattle.hol_terms.specs.Truth.{Follows}
use Rattle.expansion_tree.specs.Standing.{truth_value}
use Rattle.refutations.specs.Opens.{said, Says}
use Rattle.refutations.proofs.Holding.{constant_left, wanted_proves, closed_with, wanted_constant, unwanted, wanted}
use Rattle.refutations.proofs.spread.judge_constant.Goals as goal

pub returns-then-is_truth-node-clause-spread : goal.returns-then-is_truth-node-clause-spread
returns-then-is_truth-node-clause-spread c = λ hyps others done state.
    let g = c.args.reading.now.accepted.now in
    let lines = c.args.deduction.now in
    let case = c.args.case.now in
    let node = c.args.node in
    let v : Bool = c.is_truth.result in
    let p : Bool = node.positive in
    let says : Says lines node.line (said p (truth_value v)) = subst (λ (a : Term). Says lines node.line (said p a)) c.is_truth.ensures c.formula_of.ensures in
    constant_left g lines case hyps node others done state v c.requires.constant says (unwanted v p c.if-is_truth-node.true)

pub conclude_one-requires-clause-premises : goal.conclude_one-requires-clause-premises
conclude_one-requires-clause-premises c =
    let g = c.args.reading.now.accepted.now in
    let lines = c.args.deduction.now in
    let case = c.args.case.now in
    let node = c.args.node in
    let v : Bool = c.is_truth.result in
    let p : Bool = node.positive in
    let says : Says lines node.line (said p (truth_value v)) = subst (λ (a : Term). Says lines node.line (said p a)) c.is_truth.ensures c.formula_of.ensures in
    let hyps = c.requires.is_open.0 in
    let others = c.requires.is_open.1 in
    let done = c.requires.is_open.2 in
    let state = c.requires.is_open.3 in
    let proved = wanted_proves g lines case hyps node others done state v c.requires.constant says (wanted v p c.if-is_truth-node.false) in
    (hyps, said p (truth_value p), state.is_case.assumptions, proved, subst (Follows (said p (truth_value p) ∷ [])) (sym c.falsehood.ensures) (wanted_constant p))

pub returns-clause-spread : goal.returns-clause-spread
returns-clause-spread c = λ hyps others done state.
    let g = c.args.reading.now.accepted.now in
    let lines = c.args.deduction.now in
    let case = c.args.case.now in
    let node = c.args.node in
    let v : Bool = c.is_truth.result in
    let p : Bool = node.positive in
    let says : Says lines node.line (said p (truth_value v)) = subst (λ (a : Term). Says lines node.line (said p a)) c.is_truth.ensures c.formula_of.ensures in
    let proved = wanted_proves g lines case hyps node others done state v c.requires.constant says (wanted v p c.if-is_truth-node.false) in
    let derived = c.in_ok-closed.ensures.derives hyps (said p (truth_value p)) state.is_case.assumptions proved in
    closed_with g lines case hyps node others done state c.conclude_one.new.deduction case c.in_ok-closed.closed (plain_term c.falsehood.result) c.falsehood.ensures refl derived

pub returns-clause-grown : goal.returns-clause-grown
returns-clause-grown c =
    let g = c.args.reading.now.accepted.now in
    let lines = c.args.deduction.now in
    let case = c.args.case.now in
    let node = c.args.node in
    let v : Bool = c.is_truth.result in
    let p : Bool = node.positive in
    let says : Says lines node.line (said p (truth_value v)) = subst (λ (a : Term). Says lines node.line (said p a)) c.is_truth.ensures c.formula_of.ensures in
    let hyps = c.requires.is_open.0 in
    let others = c.requires.is_open.1 in
    let done = c.requires.is_open.2 in
    let state = c.requires.is_open.3 in
    let proved = wanted_proves g lines case hyps node others done state v c.requires.constant says (wanted v p c.if-is_truth-node.false) in
    (c.in_ok-closed.ensures.derives hyps (said p (truth_value p)) state.is_case.assumptions proved).grown
