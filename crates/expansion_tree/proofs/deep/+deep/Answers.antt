use Rattle.std.proofs.Common.{◌≡◌, ◌∙◌, ap, rules, arith}
use Rattle.std.specs.declared.alloc.AllocError.{AllocError}
use Rattle.hol_terms.specs.Terms.{Constant, plain_term, plain_type}
use Rattle.hol_terms.specs.Indices.{instance_of}
use Rattle.expansion_tree.specs.Standing.{IsNormalFormula, quantified}
use Rattle.expansion_tree.specs.Trees.{plain_branches, plain_tree, branch, branch_node_count}
use Rattle.expansion_tree.proofs.Formulas.{expanding_is, normal_formula}
use Rattle.expansion_tree.proofs.Deepening.{deep_of_branches, joined_on, joined_last, more_stand, deep_at_normal, stands_at_normal}
use Rattle.expansion_tree.proofs.deep.+deep.Goals as goal

pub deepened_expansion-unreachable-requires : goal.deepened_expansion-unreachable-requires
deepened_expansion-unreachable-requires t c =
    let h = c.requires.stands.1 in
    c.in_default.ensures.none h.0 h.1 (h.2 ∙ ap (λ (k : Constant). quantified k h.0 h.1) (expanding_is c.args.positive h.0))

pub deepened_branches-returns-in_ok-first-in-More : goal.deepened_branches-returns-in_ok-first-in-More
deepened_branches-returns-in_ok-first-in-More t c =
    let first = rw c.deref.ensures at c.in_ok-first-in-More.ensures in
    let more = rw c.deref-in-More.ensures at c.deepened_rest.ensures in
    deep_of_branches AllocError (plain_term c.in-More.term) (plain_tree c.in-More.tree.value) (plain_branches c.in-More.more.value) (plain_branches c.args.branches.now) c.args.positive (plain_type c.args.ty.now) (plain_term c.args.body.now)
    (plain_term c.in_ok-first-in-More.first) c.deepened_rest.result (ap plain_branches c.in-More.is) first more

pub deepened_branches-deepened_rest-requires : goal.deepened_branches-deepened_rest-requires
deepened_branches-deepened_rest-requires t c =
    let here : plain_branches c.args.branches.now ≡ branch (plain_term c.in-More.term) (plain_tree c.in-More.tree.value) (plain_branches c.in-More.more.value) = ap plain_branches c.in-More.is in
    (search rules, (c.requires.body, rw c.deref-in-More.ensures (more_stand (plain_term c.in-More.term) (plain_tree c.in-More.tree.value) (plain_branches c.in-More.more.value) (plain_branches c.args.branches.now) c.args.positive (plain_type c.args.ty.now) (plain_term c.args.body.now) here c.requires.stand)))

pub deepened_rest-returns : goal.deepened_rest-returns
deepened_rest-returns t c =
    c.loop-rest.invariant.joined (plain_term c.loop-rest.deep)
    (joined_last (plain_branches c.loop-rest.rest.now) c.args.positive (plain_type c.args.ty.now) (plain_term c.args.body.now) (plain_term c.loop-rest.deep) (ap plain_branches c.in_default.is))

pub deepened_rest-loop-rest-preserved : goal.deepened_rest-loop-rest-preserved
deepened_rest-loop-rest-preserved t c =
    let here : plain_branches c.loop-rest.rest.now ≡ branch (plain_term c.in-More.term) (plain_tree c.in-More.tree.value) (plain_branches c.in-More.more.value) = ap plain_branches c.in-More.is in
    let deep = rw c.deref.ensures at c.in_ok-next.ensures in
    let both = rw c.joint.ensures at c.in_ok-deep.ensures in
    rw c.deref-rest.ensures record {
      stand = more_stand (plain_term c.in-More.term) (plain_tree c.in-More.tree.value) (plain_branches c.in-More.more.value) (plain_branches c.loop-rest.rest.now) c.args.positive (plain_type c.args.ty.now) (plain_term c.args.body.now) here c.loop-rest.invariant.stand;
      joined = λ d h.
          c.loop-rest.invariant.joined d
          (joined_on (plain_term c.in-More.term) (plain_tree c.in-More.tree.value) (plain_branches c.in-More.more.value) (plain_branches c.loop-rest.rest.now) c.args.positive (plain_type c.args.ty.now) (plain_term c.args.body.now)
          (plain_term c.loop-rest.deep) (plain_term c.in_ok-next.next) (plain_term c.in_ok-deep.deep) d here deep both h);
      smaller = omega (arith, ap branch_node_count here, c.loop-rest.invariant.smaller);
    }

pub deepened_branch-returns : goal.deepened_branch-returns
deepened_branch-returns t c =
    deep_at_normal AllocError (plain_term c.in-Some.instance) (instance_of (plain_term c.args.body.now) (plain_term c.args.term.now)) (plain_tree c.args.tree.now) c.args.positive c.deepened.result (rw c.in-Some.is at c.in_ok-instance.ensures.normal) c.deepened.ensures

pub deepened_branch-deepened-requires : goal.deepened_branch-deepened-requires
deepened_branch-deepened-requires t c =
    let normal : IsNormalFormula (plain_term c.in-Some.instance) (instance_of (plain_term c.args.body.now) (plain_term c.args.term.now)) = rw c.in-Some.is at c.in_ok-instance.ensures.normal in (
      search rules,
      (
        normal_formula (plain_term c.in-Some.instance) (instance_of (plain_term c.args.body.now) (plain_term c.args.term.now)) normal,
        stands_at_normal (plain_term c.in-Some.instance) (instance_of (plain_term c.args.body.now) (plain_term c.args.term.now)) (plain_tree c.args.tree.now) c.args.positive normal c.requires.stands,
      ),
    )
