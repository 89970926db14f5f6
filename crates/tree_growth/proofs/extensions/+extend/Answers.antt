use Rattle.std.proofs.Common.{◌≡◌, map, ap, sym, subst, arith}
use Rattle.std.proofs.lemmas.Result.{IfOk-weaker}
use Rattle.hol_terms.specs.Indices.{instance_of}
use Rattle.hol_terms.specs.Terms.{Term, plain_term, plain_type}
use Rattle.expansion_tree.specs.Standing.{IsNormalFormula}
use Rattle.expansion_tree.specs.Trees.{ExpansionBranches, branch, branch_node_count, expansion_node, negation_node, plain_branches, plain_tree, selection_node}
use Rattle.tree_growth.specs.Extending.{Extend, ExtendBranches}
use Rattle.tree_growth.specs.Growths.{plain_addition, plain_branch_growth, plain_growth}
use Rattle.tree_growth.specs.Wrapped.{behind_branch, in_first_branch, left_of, right_of, under_expansion, under_negation, under_selection}
use Rattle.tree_growth.proofs.Below.{expanding_from, no_expansion, some_at_instance, some_first_branch}
use Rattle.tree_growth.proofs.Extended.{extend_at_normal, extend_branch, extend_compound, extend_expansion, extend_negation, extend_selection, mapped_append}
use Rattle.tree_growth.proofs.extensions.+extend.Goals as goal

pub negation_extensions-returns : goal.negation_extensions-returns
negation_extensions-returns t c =
    IfOk-weaker c.all_negated.result (λ gs. map plain_growth gs.items ≡ map under_negation (map plain_growth c.in_ok-below.below.items))
    (λ gs. Extend (plain_addition c.args.addition.now) c.args.positive (plain_term c.args.formula) (negation_node (plain_tree c.args.t.now)) (map plain_growth gs.items))
    (λ gs e. extend_negation (plain_addition c.args.addition.now) c.args.positive (plain_term c.args.formula) (plain_term c.in-Some.b) (plain_tree c.args.t.now)
    (map plain_growth c.in_ok-below.below.items) (map plain_growth gs.items) c.in-Some.ensures.some c.in_ok-below.ensures e)
    c.all_negated.ensures

pub compound_extensions-returns : goal.compound_extensions-returns
compound_extensions-returns t c =
    let left = rw c.left_polarity.ensures at c.in_ok-left.ensures in
    let lefts = map plain_growth c.in_ok-left.left.items in
    let rights = map plain_growth c.in_ok-right.right.items in
    let all = mapped_append plain_growth c.append.new.self.items c.in_ok-all.all.items c.in_ok-more.more.items (map (left_of c.args.op (plain_tree c.args.u.now)) lefts)
    (map (right_of c.args.op (plain_tree c.args.t.now)) rights) c.in_ok-append.ensures.items c.in_ok-all.ensures c.in_ok-more.ensures
    in
    extend_compound (plain_addition c.args.addition.now) c.args.op c.args.positive (plain_term c.args.formula) (plain_term c.in-Some.b) (plain_term c.in-Some.c) (plain_tree c.args.t.now) (plain_tree c.args.u.now)
    lefts rights (map plain_growth c.append.new.self.items) c.in-Some.ensures.some left c.in_ok-right.ensures all

pub selection_extensions-returns : goal.selection_extensions-returns
selection_extensions-returns t c =
    let below = rw c.in_ok-instance.ensures.instance at c.in_ok-below.ensures in
    IfOk-weaker c.all_selected.result (λ gs. map plain_growth gs.items ≡ map (under_selection c.args.name.now) (map plain_growth c.in_ok-below.below.items))
    (λ gs. Extend (plain_addition c.args.addition.now) c.args.positive (plain_term c.args.formula) (selection_node c.args.name.now (plain_tree c.args.t.now)) (map plain_growth gs.items))
    (λ gs e. extend_selection (plain_addition c.args.addition.now) c.args.name.now c.args.positive (plain_term c.args.formula) (plain_term c.in-Some.body) (plain_type c.in-Some.ty) (plain_tree c.args.t.now)
    (map plain_growth c.in_ok-below.below.items) (map plain_growth gs.items) c.in-Some.ensures.some below e)
    c.all_selected.ensures

pub expansion_extensions-unreachable-requires : goal.expansion_extensions-unreachable-requires
expansion_extensions-unreachable-requires t c = no_expansion c.args.positive (plain_term c.args.formula) (plain_branches c.args.branches.now) c.requires.stands c.in_default.ensures.none

pub expansion_extensions-returns : goal.expansion_extensions-returns
expansion_extensions-returns t c =
    IfOk-weaker c.all_expanded.result (λ gs. map plain_growth gs.items ≡ map under_expansion (map plain_branch_growth c.in_ok-below.below.items))
    (λ gs. Extend (plain_addition c.args.addition.now) c.args.positive (plain_term c.args.formula) (expansion_node (plain_branches c.args.branches.now)) (map plain_growth gs.items))
    (λ gs e. extend_expansion (plain_addition c.args.addition.now) c.args.positive (plain_term c.args.formula) (plain_term c.in-Some.body) (plain_type c.in-Some.ty) (plain_branches c.args.branches.now)
    (map plain_branch_growth c.in_ok-below.below.items) (map plain_growth gs.items)
    (expanding_from c.args.positive (plain_term c.args.formula) (plain_term c.in-Some.body) (plain_type c.in-Some.ty) c.in-Some.ensures.some) c.in_ok-below.ensures e)
    c.all_expanded.ensures

pub branch_extensions-first_extensions-requires : goal.branch_extensions-first_extensions-requires
branch_extensions-first_extensions-requires t c =
    let here : plain_branches c.args.branches.now ≡ branch (plain_term c.in-More.term) (plain_tree c.in-More.tree.value) (plain_branches c.in-More.rest.value) = ap plain_branches c.in-More.is in
    let stands = rw here at c.requires.stands in
    rw c.deref.ensures (
      omega (arith, c.decreases, ap branch_node_count here),
      (c.requires.long, some_first_branch c.args.positive (plain_type c.args.ty.now) (plain_term c.args.body.now) (plain_term c.in-More.term) (plain_tree c.in-More.tree.value) (plain_branches c.in-More.rest.value) stands),
    )

pub branch_extensions-returns-in_ok-append-in-More : goal.branch_extensions-returns-in_ok-append-in-More
branch_extensions-returns-in_ok-append-in-More t c =
    let d = plain_addition c.args.addition.now in
    let ty = plain_type c.args.ty.now in
    let body = plain_term c.args.body.now in
    let term = plain_term c.in-More.term in
    let tree = plain_tree c.in-More.tree.value in
    let rest = plain_branches c.in-More.rest.value in
    let inner = rw c.deref.ensures at c.in_ok-inner-in-More.ensures in
    let further = rw c.deref-in-More.ensures at c.in_ok-further-in-More.ensures in
    let inner_all = rw c.deref-in-More-2.ensures at c.in_ok-all-in-More.ensures in
    let further_all = rw c.deref-in-More-3.ensures at c.in_ok-more-in-More.ensures in
    let inners = map plain_growth c.in_ok-inner-in-More.inner.items in
    let furthers = map plain_branch_growth c.in_ok-further-in-More.further.items in
    let all =
    mapped_append plain_branch_growth c.append.new.self.items c.in_ok-all-in-More.all.items c.in_ok-more-in-More.more.items (map (in_first_branch term rest) inners) (map (behind_branch term tree) furthers)
    c.in_ok-append-in-More.ensures.items inner_all further_all
    in
    let here : plain_branches c.args.branches.now ≡ branch term tree rest = ap plain_branches c.in-More.is in
    let whole = extend_branch d c.args.positive ty body term tree rest inners furthers (map plain_branch_growth c.append.new.self.items) inner further all in
    subst (λ (bs : ExpansionBranches). ExtendBranches d c.args.positive ty body bs (map plain_branch_growth c.append.new.self.items)) (sym here) whole

pub first_extensions-extensions-requires : goal.first_extensions-extensions-requires
first_extensions-extensions-requires t c =
    let normal = rw c.in-Some.is at c.in_ok-instance.ensures.normal in (
      omega (arith, c.decreases),
      (normal.0, some_at_instance c.args.positive (plain_type c.args.ty.now) (plain_term c.in-Some.instance) (plain_term c.args.body.now) (plain_term c.args.term.now) (plain_tree c.args.tree.now) normal c.requires.stands),
    )

pub first_extensions-returns : goal.first_extensions-returns
first_extensions-returns t c =
    let d = plain_addition c.args.addition.now in
    let normal = rw c.in-Some.is at c.in_ok-instance.ensures.normal in
    IfOk-weaker c.extensions.result (λ gs. Extend d c.args.positive (plain_term c.in-Some.instance) (plain_tree c.args.tree.now) (map plain_growth gs.items))
    (λ gs. (a : Term) → IsNormalFormula a (instance_of (plain_term c.args.body.now) (plain_term c.args.term.now)) → Extend d c.args.positive a (plain_tree c.args.tree.now) (map plain_growth gs.items))
    (λ gs extended a also. extend_at_normal d c.args.positive (plain_term c.in-Some.instance) a (instance_of (plain_term c.args.body.now) (plain_term c.args.term.now)) (plain_tree c.args.tree.now)
    (map plain_growth gs.items) normal also extended)
    c.extensions.ensures

pub extensions-returns-in-Not : goal.extensions-returns-in-Not
extensions-returns-in-Not t c = let below = rw c.deref.ensures at c.negation_extensions.ensures in rw c.in-Not.is below

pub extensions-returns-in-Bin : goal.extensions-returns-in-Bin
extensions-returns-in-Bin t c = let below = rw (c.deref-in-Bin.ensures, c.deref-in-Bin-2.ensures) at c.compound_extensions.ensures in rw c.in-Bin.is below

pub extensions-returns-in-Sel : goal.extensions-returns-in-Sel
extensions-returns-in-Sel t c = let below = rw c.deref-in-Sel.ensures at c.selection_extensions.ensures in rw c.in-Sel.is below

pub extensions-returns-in-Exp : goal.extensions-returns-in-Exp
extensions-returns-in-Exp t c = rw c.in-Exp.is c.expansion_extensions.ensures
