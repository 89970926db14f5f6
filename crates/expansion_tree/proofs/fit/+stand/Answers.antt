use Rattle.std.proofs.Common.{◌≡◌, ◌∙◌, ap, sym, refl, inl, arith}
use Rattle.std.proofs.lemmas.Result.{err_from_is_err_and}
use Rattle.hol_terms.specs.Terms.{Constant, plain_term, plain_type}
use Rattle.expansion_tree.specs.Standing.{quantified}
use Rattle.expansion_tree.specs.Stood.{findings_of}
use Rattle.expansion_tree.specs.Trees.{plain_branches, plain_tree, branch, branch_node_count}
use Rattle.expansion_tree.proofs.Formulas.{expanding_is}
use Rattle.expansion_tree.proofs.Walks.{compound_stood, expansion_stood}
use Rattle.expansion_tree.proofs.Stepping.{constant_fault, negation_result, selection_result, selection_fault, one_more_stood, one_more_fault, all_stood, branch_fault}
use Rattle.expansion_tree.specs.Faults.{FirstFault}
use Rattle.expansion_tree.proofs.Faulting.{memory_alone, constant_result, negation_fault, left_fault, right_fault}
use Rattle.expansion_tree.proofs.fit.+stand.Goals as goal

pub stand-returns-in-Leaf-clause-ok : goal.stand-returns-in-Leaf-clause-ok
stand-returns-in-Leaf-clause-ok t c = rw c.in-Leaf.is c.stand_leaf.ensures.ok

pub stand-returns-in-Leaf-clause-fault : goal.stand-returns-in-Leaf-clause-fault
stand-returns-in-Leaf-clause-fault t c =
    memory_alone (λ e. FirstFault c.args.found.now.taken c.args.positive (plain_term c.args.formula) (plain_tree c.args.tree.now) c.args.node e) c.stand_leaf.result c.stand_leaf.ensures.err

pub stand-returns-in-Const-clause-ok : goal.stand-returns-in-Const-clause-ok
stand-returns-in-Const-clause-ok t c =
    rw c.in-Const.is (constant_result c.args.positive (plain_term c.args.formula) c.args.node (findings_of c.args.found.now) c.stand_constant.result c.stand_constant.ensures.ok)

pub stand-returns-in-Const-clause-fault : goal.stand-returns-in-Const-clause-fault
stand-returns-in-Const-clause-fault t c =
    rw c.in-Const.is (constant_fault c.args.positive (plain_term c.args.formula) c.args.node c.args.found.now.taken c.stand_constant.result c.stand_constant.ensures.fault)

pub stand_branches-returns-in_err-matrix-clause-fault : goal.stand_branches-returns-in_err-matrix-clause-fault
stand_branches-returns-in_err-matrix-clause-fault t c =
    let fault = rw c.deref.ensures at c.in_err-matrix.ensures.fault in
    let p = err_from_is_err_and c.from_residual.result c.from_residual.ensures.1 in
    rw (p.1, p.2)
    (branch_fault (plain_term c.in-More.term) (plain_tree c.in-More.tree.value) (plain_branches c.in-More.more.value) (plain_branches c.loop-rest.rest.now) (plain_branches c.args.branches.now)
    c.args.positive (plain_type c.args.ty.now) (plain_term c.args.body.now) c.args.first c.loop-rest.at c.args.found.now.taken c.loop-rest.found.taken c.in_err-matrix.field-0.0
    (ap plain_branches c.in-More.is) c.loop-rest.invariant.fault fault)

pub stand_branches-loop-rest-preserved : goal.stand_branches-loop-rest-preserved
stand_branches-loop-rest-preserved t c =
    let ok = rw c.deref.ensures at c.in_ok-matrix.ensures.ok in
    let here : plain_branches c.loop-rest.rest.now ≡ branch (plain_term c.in-More.term) (plain_tree c.in-More.tree.value) (plain_branches c.in-More.more.value) = ap plain_branches c.in-More.is in
    rw c.deref-rest.ensures record {
      stood =
          one_more_stood (plain_term c.in-More.term) (plain_tree c.in-More.tree.value) (plain_branches c.in-More.more.value) (plain_branches c.loop-rest.rest.now) (plain_branches c.args.branches.now)
          c.args.positive (plain_type c.args.ty.now) (plain_term c.args.body.now) c.args.first c.loop-rest.at c.in_ok-matrix.end (findings_of c.args.found.now) (findings_of c.loop-rest.found) (findings_of c.stand_branch.new.found)
          c.in_ok-matrix.matrix c.loop-rest.matrices.items c.push.new.self.items here c.in_ok-matrix.ensures.long ok c.in_ok-push.ensures.items c.loop-rest.invariant.stood;
      fault =
          one_more_fault (plain_term c.in-More.term) (plain_tree c.in-More.tree.value) (plain_branches c.in-More.more.value) (plain_branches c.loop-rest.rest.now) (plain_branches c.args.branches.now)
          c.args.positive (plain_type c.args.ty.now) (plain_term c.args.body.now) c.args.first c.loop-rest.at c.in_ok-matrix.end c.args.found.now.taken (findings_of c.loop-rest.found) (findings_of c.stand_branch.new.found)
          c.in_ok-matrix.matrix here c.in_ok-matrix.ensures.long ok c.loop-rest.invariant.fault;
      smaller = omega (arith, ap branch_node_count here, c.loop-rest.invariant.smaller);
    }

pub stand_branches-returns-clause-ok : goal.stand_branches-returns-clause-ok
stand_branches-returns-clause-ok t c =
    all_stood (plain_branches c.loop-rest.rest.now) (plain_branches c.args.branches.now) c.args.positive (plain_type c.args.ty.now) (plain_term c.args.body.now) c.args.first c.loop-rest.at
    (findings_of c.args.found.now) (findings_of c.loop-rest.found) c.loop-rest.matrices.items (ap plain_branches c.in_default.is) c.loop-rest.invariant.stood

pub stand_compound-returns-clause-ok : goal.stand_compound-returns-clause-ok
stand_compound-returns-clause-ok t c =
    let left = rw (c.in_ok-below.ensures.ok, c.left_polarity-polarity.ensures) at c.in_ok-left.ensures.ok in
    compound_stood c.args.op (plain_tree c.args.t.now) (plain_tree c.args.u.now) c.args.positive (plain_term c.args.formula) (plain_term c.in-Some.b) (plain_term c.in-Some.c)
    c.args.node c.in_ok-left.middle c.in_ok-right.end (findings_of c.args.found.now) (findings_of c.stand.new.found) (findings_of c.stand-2.new.found) c.in_ok-left.left c.in_ok-right.right c.in_ok-matrix.matrix
    c.in-Some.ensures.some left c.in_ok-right.ensures.ok c.in_ok-matrix.ensures.paths c.in_ok-matrix.ensures.numbered

pub stand_expansion-returns-in_default-clause-fault : goal.stand_expansion-returns-in_default-clause-fault
stand_expansion-returns-in_default-clause-fault t c =
    inl (refl, λ ty b e. c.in_default.ensures.none ty b (e ∙ ap (λ (k : Constant). quantified k ty b) (expanding_is c.args.positive ty)))

pub stand_expansion-returns-clause-ok : goal.stand_expansion-returns-clause-ok
stand_expansion-returns-clause-ok t c =
    let branches = rw c.in_ok-below.ensures.ok at c.in_ok-matrices.ensures.ok in
    expansion_stood (plain_branches c.args.branches.now) c.args.positive (plain_term c.args.formula) (plain_term c.in-Some.body) (plain_type c.in-Some.ty) c.args.node c.in_ok-matrices.end
    (findings_of c.args.found.now) (findings_of c.stand_branches-stood.new.found) c.in_ok-matrices.matrices.items c.in_ok-matrix.matrix
    (c.in-Some.ensures.some ∙ ap (λ (k : Constant). quantified k (plain_type c.in-Some.ty) (plain_term c.in-Some.body)) (sym (expanding_is c.args.positive (plain_type c.in-Some.ty))))
    branches c.in_ok-matrix.ensures.paths c.in_ok-matrix.ensures.numbered

pub stand_negation-returns-clause-ok : goal.stand_negation-returns-clause-ok
stand_negation-returns-clause-ok t c =
    let below = rw c.in_ok-below.ensures.ok at c.stand.ensures.ok in
    negation_result (plain_tree c.args.t.now) c.args.positive (plain_term c.args.formula) (plain_term c.in-Some.b) c.args.node (findings_of c.args.found.now) (findings_of c.stand.new.found) c.stand.result c.in-Some.ensures.some below

pub stand_selection-returns-clause-ok : goal.stand_selection-returns-clause-ok
stand_selection-returns-clause-ok t c =
    let below = rw (c.in_ok-below.ensures.ok, c.in_ok-instance.ensures.instance) at c.stand.ensures.ok in
    selection_result c.args.name.now (plain_tree c.args.t.now) c.args.positive (plain_term c.args.formula) (plain_term c.in-Some.body) (plain_type c.in-Some.ty) c.args.node
    (findings_of c.args.found.now) (findings_of c.select.new.self) (findings_of c.stand.new.found) c.stand.result c.in-Some.ensures.some (c.in_ok-select.ensures.new c.if-not-branch.false) below

pub stand_selection-returns-clause-fault : goal.stand_selection-returns-clause-fault
stand_selection-returns-clause-fault t c =
    let below = rw (c.in_ok-below.ensures.ok, c.in_ok-instance.ensures.instance) at c.stand.ensures.fault in
    selection_fault c.args.name.now (plain_tree c.args.t.now) c.args.positive (plain_term c.args.formula) (plain_term c.in-Some.body) (plain_type c.in-Some.ty) c.args.node
    (findings_of c.args.found.now) (findings_of c.select.new.self) c.stand.result c.in-Some.ensures.some (c.in_ok-select.ensures.new c.if-not-branch.false) below

pub stand-returns-in-Not-clause-ok : goal.stand-returns-in-Not-clause-ok
stand-returns-in-Not-clause-ok t c = rw c.in-Not.is (rw c.deref.ensures at c.stand_negation.ensures.ok)

pub stand-returns-in-Not-clause-fault : goal.stand-returns-in-Not-clause-fault
stand-returns-in-Not-clause-fault t c = rw c.in-Not.is (rw c.deref.ensures at c.stand_negation.ensures.fault)

pub stand-returns-in-Bin-clause-ok : goal.stand-returns-in-Bin-clause-ok
stand-returns-in-Bin-clause-ok t c = rw c.in-Bin.is (rw (c.deref-in-Bin.ensures, c.deref-in-Bin-2.ensures) at c.stand_compound.ensures.ok)

pub stand-returns-in-Bin-clause-fault : goal.stand-returns-in-Bin-clause-fault
stand-returns-in-Bin-clause-fault t c = rw c.in-Bin.is (rw (c.deref-in-Bin.ensures, c.deref-in-Bin-2.ensures) at c.stand_compound.ensures.fault)

pub stand-returns-in-Sel-clause-ok : goal.stand-returns-in-Sel-clause-ok
stand-returns-in-Sel-clause-ok t c = rw c.in-Sel.is (rw c.deref-in-Sel.ensures at c.stand_selection.ensures.ok)

pub stand-returns-in-Sel-clause-fault : goal.stand-returns-in-Sel-clause-fault
stand-returns-in-Sel-clause-fault t c = rw c.in-Sel.is (rw c.deref-in-Sel.ensures at c.stand_selection.ensures.fault)

pub stand-returns-in-Exp-clause-ok : goal.stand-returns-in-Exp-clause-ok
stand-returns-in-Exp-clause-ok t c = rw c.in-Exp.is c.stand_expansion.ensures.ok

pub stand-returns-in-Exp-clause-fault : goal.stand-returns-in-Exp-clause-fault
stand-returns-in-Exp-clause-fault t c = rw c.in-Exp.is c.stand_expansion.ensures.fault

pub stand_negation-returns-clause-fault : goal.stand_negation-returns-clause-fault
stand_negation-returns-clause-fault t c =
    let below = rw c.in_ok-below.ensures.ok at c.stand.ensures.fault in
    negation_fault (plain_tree c.args.t.now) c.args.positive (plain_term c.args.formula) (plain_term c.in-Some.b) c.args.node c.args.found.now.taken c.stand.result c.in-Some.ensures.some below

pub stand_negation-returns-in_default-clause-fault : goal.stand_negation-returns-in_default-clause-fault
stand_negation-returns-in_default-clause-fault t c = inl (refl, c.in_default.ensures.none)

pub stand_compound-returns-in_default-clause-fault : goal.stand_compound-returns-in_default-clause-fault
stand_compound-returns-in_default-clause-fault t c = inl (refl, c.in_default.ensures.none)

pub stand_selection-returns-in_default-clause-fault : goal.stand_selection-returns-in_default-clause-fault
stand_selection-returns-in_default-clause-fault t c = inl (refl, c.in_default.ensures.none)

pub stand_compound-returns-in_err-left-clause-fault : goal.stand_compound-returns-in_err-left-clause-fault
stand_compound-returns-in_err-left-clause-fault t c =
    let fault = rw (c.in_ok-below.ensures.ok, c.left_polarity-polarity.ensures) at c.in_err-left.ensures.fault in
    let p = err_from_is_err_and c.from_residual-in_err-left.result c.from_residual-in_err-left.ensures.1 in
    rw (p.1, p.2)
    (left_fault c.args.op (plain_tree c.args.t.now) (plain_tree c.args.u.now) c.args.positive (plain_term c.args.formula) (plain_term c.in-Some.b) (plain_term c.in-Some.c)
    c.args.node c.args.found.now.taken c.in_err-left.field-0.0 c.in-Some.ensures.some fault)

pub stand_compound-returns-in_err-right-clause-fault : goal.stand_compound-returns-in_err-right-clause-fault
stand_compound-returns-in_err-right-clause-fault t c =
    let left = rw (c.in_ok-below.ensures.ok, c.left_polarity-polarity.ensures) at c.in_ok-left.ensures.ok in
    let p = err_from_is_err_and c.from_residual-in_err-right.result c.from_residual-in_err-right.ensures.1 in
    rw (p.1, p.2)
    (right_fault c.args.op (plain_tree c.args.t.now) (plain_tree c.args.u.now) c.args.positive (plain_term c.args.formula) (plain_term c.in-Some.b) (plain_term c.in-Some.c)
    c.args.node c.in_ok-left.middle (findings_of c.args.found.now) (findings_of c.stand.new.found) c.in_ok-left.left c.in_err-right.field-0.0 c.in-Some.ensures.some left c.in_err-right.ensures.fault)
