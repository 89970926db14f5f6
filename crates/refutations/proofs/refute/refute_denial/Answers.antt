use Rattle.std.proofs.Common.{◌≡◌, [], ◌∷◌, ◌*◌, ◌^◌, ℕ, List, true, sym, ◌∙◌, ap, subst}
use Rattle.std.proofs.lemmas.Result.{IfOk-weaker}
use Rattle.hol_terms.specs.Terms.{constant, falsehood}
use Rattle.expansion_tree.specs.Fitted.{FittedTree}
use Rattle.expansion_tree.specs.Standing.{IsNormalFormula}
use Rattle.expansion_tree.specs.Trees.{ExpansionTree, node_count, plain_tree}
use Rattle.exp_check.specs.Accepted.{AcceptedProof}
use Rattle.refutations.specs.declared.nodes.Node.{Node}
use Rattle.refutations.specs.Opens.{at_node, open_node}
use Rattle.refutations.specs.Reaching.{Reaches}
use Rattle.refutations.specs.States.{IsState, opens_of, room}
use Rattle.refutations.proofs.Starting.{root_place}
use Rattle.refutations.proofs.Turning.{first_state, first_reaches}
use Rattle.refutations.proofs.refute.refute_denial.Goals as goal

pub close-requires-clause-state : goal.close-requires-clause-state
close-requires-clause-state c =
    let g : AcceptedProof = c.in_ok-reading.reading.accepted.now in
    let root : Node = record { positive = true; tree = c.tree.result; line = c.args.hyp; place = root_place } in
    let tree : plain_tree c.tree.result.now ≡ g.fitted.tree = c.tree.ensures.tree ∙ ap (λ (f : FittedTree). f.tree) c.fitted.ensures.fitted ∙ ap (λ (p : AcceptedProof). p.fitted.tree) (sym c.in_ok-reading.ensures.accepted) in
    let normal = subst (λ (p : AcceptedProof). IsNormalFormula c.requires.0 p.fitted.formula) (sym c.in_ok-reading.ensures.accepted) c.requires.2 in (
      c.args.hyp ∷ [],
      first_state g c.new-case.result c.new-case.ensures.cells c.new-case.ensures.fronts c.in_ok-reading.ensures.partners.accepted c.args.deduction.now c.args.hyp c.requires.0 root c.requires.1 normal c.requires.3 c.new-case.ensures.top
          c.new-case.ensures.held (ap (λ (t : ExpansionTree). at_node (record { positive = true; tree = t; line = c.args.hyp; place = root_place })) tree),
    )

pub returns-clause-reaches : goal.returns-clause-reaches
returns-clause-reaches c =
    let g : AcceptedProof = c.in_ok-reading.reading.accepted.now in
    let case = c.new-case.result in
    let root : Node = record { positive = true; tree = c.tree.result; line = c.args.hyp; place = root_place } in
    let fitted : plain_tree c.tree.result.now ≡ c.args.accepted.now.fitted.tree = c.tree.ensures.tree ∙ ap (λ (f : FittedTree). f.tree) c.fitted.ensures.fitted in
    let tree : plain_tree c.tree.result.now ≡ g.fitted.tree = fitted ∙ ap (λ (p : AcceptedProof). p.fitted.tree) (sym c.in_ok-reading.ensures.accepted) in
    let normal = subst (λ (p : AcceptedProof). IsNormalFormula c.requires.0 p.fitted.formula) (sym c.in_ok-reading.ensures.accepted) c.requires.2 in
    let state = first_state g case c.new-case.ensures.cells c.new-case.ensures.fronts c.in_ok-reading.ensures.partners.accepted c.args.deduction.now c.args.hyp c.requires.0 root c.requires.1 normal c.requires.3 c.new-case.ensures.top
    c.new-case.ensures.held (ap (λ (t : ExpansionTree). at_node (record { positive = true; tree = t; line = c.args.hyp; place = root_place })) tree) in
    IfOk-weaker c.close.result
    (λ n. (hyps : List ℕ) → IsState g c.args.deduction.now case hyps (open_node root ∷ []) 0 → Reaches (room (open_node root ∷ opens_of g.order 0 case)) c.args.deduction.now c.close.new.deduction n hyps (constant falsehood))
    (λ n. Reaches (24 * 2 ^ node_count c.args.accepted.now.fitted.tree) c.args.deduction.now c.close.new.deduction n (c.args.hyp ∷ []) (constant falsehood))
    (λ n reaches.
    let P : ExpansionTree → Type 0 = λ t. Reaches (24 * 2 ^ node_count t) c.args.deduction.now c.close.new.deduction n (c.args.hyp ∷ []) (constant falsehood) in
    subst P fitted (first_reaches g case c.new-case.ensures.cells c.new-case.ensures.fronts c.args.deduction.now c.close.new.deduction n (c.args.hyp ∷ []) (constant falsehood) root (reaches (c.args.hyp ∷ []) state)))
    c.close.ensures.reaches
