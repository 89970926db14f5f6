use Rattle.std.proofs.Common.{List, ap, ◌∙◌, map, refl, ◌≡◌, arith, ◌-◌}
use Rattle.hol_terms.specs.Terms.{Term, bound, base_type, plain_term, plain_type}
use Rattle.term_lists.specs.Heads.{head_term, head_type}
use Rattle.hol_terms.specs.declared.terms.Tm.{Tm}
use Rattle.term_lists.specs.Spines.{applications_of, types_above, types_below}
use Rattle.term_lists.proofs.SpineLaws.{types_above_below}
use Rattle.term_lists.proofs.Steps.{on_ok, on_ok_always, if_ok, abstracted-all, none-of_weight_zero, letter-all, heads-next, heads-all, indices-next, indices-all, head-too_heavy, head-applied, base-applied, rest-too_heavy, argument-all, rests-next, rests-all}
use Rattle.term_lists.proofs.long_terms.+list.Goals as goal

pub add_applied-returns-in-Base-clause-terms : goal.add_applied-returns-in-Base-clause-terms
add_applied-returns-in-Base-clause-terms n c =
    rw c.in-Base.is
    (on_ok c.add_where_none_left.result
    (base-applied c.args.scope.now c.args.heads.now c.in-Base.field-0.byte c.args.left (map plain_term c.args.functions.items) (map plain_term c.args.terms.now.items)
    (map plain_term c.add_where_none_left.new.terms.items)) c.add_where_none_left.ensures)

pub add_applied-returns-in-Fun-clause-terms : goal.add_applied-returns-in-Fun-clause-terms
add_applied-returns-in-Fun-clause-terms n c =
    rw c.in-Fun.is (rw (c.deref.ensures.value, c.deref-in-Fun.ensures, c.deref-in-Fun-2.ensures) at c.add_with_arguments.ensures.terms)

pub add_from_head-returns-then-not-can_weigh-clause-terms : goal.add_from_head-returns-then-not-can_weigh-clause-terms
add_from_head-returns-then-not-can_weigh-clause-terms n c =
    head-too_heavy c.args.scope.now c.args.heads.now c.args.letter.byte c.args.left (head_type c.args.head.now) (plain_type c.ty-ty.result.now) (head_term c.args.head.now)
    (map plain_term c.args.terms.now.items) c.can_weigh.result c.ty-ty.ensures c.can_weigh.ensures c.if-not-can_weigh.true

pub add_from_head-returns-clause-terms : goal.add_from_head-returns-clause-terms
add_from_head-returns-clause-terms n c =
    on_ok c.add_applied.result
    (head-applied c.args.scope.now c.args.heads.now c.args.letter.byte c.args.left (head_type c.args.head.now) (plain_type c.ty-ty.result.now) (head_term c.args.head.now)
    (plain_term c.in_ok-term.field-0) (map plain_term c.in_ok-functions.functions.items) (map plain_term c.args.terms.now.items) (map plain_term c.add_applied.new.terms.items)
    c.ty-ty.ensures (c.ends_in.ensures.0 c.if-not-ends_in.false) c.in_ok-functions.ensures c.in_ok-term.ensures)
    c.add_applied.ensures.terms

pub add_from_heads-loop-head-preserved : goal.add_from_heads-loop-head-preserved
add_from_heads-loop-head-preserved n c = record {
  scope = c.in_ok-add_from_head.ensures.scope ∙ c.loop-head.invariant.scope;
  terms =
      heads-next c.args.scope.now c.loop-head.scope c.args.heads.now c.args.letter.byte c.args.left c.args.heads.now c.loop-head.head-index c.head-item.result
      (map plain_term c.args.terms.now.items) (map plain_term c.loop-head.terms.items) (map plain_term c.add_from_head.new.terms.items)
      c.loop-head.invariant.scope c.loop-head-test.true c.head-item.is c.loop-head.invariant.terms c.in_ok-add_from_head.ensures.terms;
}

pub add_from_heads-returns-clause-terms : goal.add_from_heads-returns-clause-terms
add_from_heads-returns-clause-terms n c =
    heads-all c.args.scope.now c.args.heads.now c.args.letter.byte c.args.left c.args.heads.now c.loop-head.head-index
    (map plain_term c.args.terms.now.items) (map plain_term c.loop-head.terms.items) c.loop-head-test.false c.loop-head.invariant.terms

pub add_from_index-returns-then-not-can_weigh-clause-terms : goal.add_from_index-returns-then-not-can_weigh-clause-terms
add_from_index-returns-then-not-can_weigh-clause-terms n c =
    head-too_heavy c.args.scope.now c.args.heads.now c.args.letter.byte c.args.left (plain_type c.args.ty.now) (plain_type c.args.ty.now) (bound c.args.index)
    (map plain_term c.args.terms.now.items) c.can_weigh.result refl c.can_weigh.ensures c.if-not-can_weigh.true

pub add_from_index-returns-clause-terms : goal.add_from_index-returns-clause-terms
add_from_index-returns-clause-terms n c =
    on_ok c.add_applied.result
    (head-applied c.args.scope.now c.args.heads.now c.args.letter.byte c.args.left (plain_type c.args.ty.now) (plain_type c.args.ty.now) (bound c.args.index)
    (bound c.args.index) (map plain_term c.in_ok-functions.functions.items) (map plain_term c.args.terms.now.items) (map plain_term c.add_applied.new.terms.items)
    refl (c.ends_in.ensures.0 c.if-not-ends_in.false) c.in_ok-functions.ensures refl)
    c.add_applied.ensures.terms

pub add_from_indices-loop-ty-preserved : goal.add_from_indices-loop-ty-preserved
add_from_indices-loop-ty-preserved n c = record {
  scope = c.in_ok-add_from_index.ensures.scope ∙ c.loop-ty.invariant.scope;
  terms =
      indices-next c.args.scope.now c.loop-ty.scope c.args.heads.now c.args.letter.byte c.args.left c.loop-ty.index c.in_ok-index.index (plain_type c.in-Some.ty.now)
      (map plain_term c.args.terms.now.items) (map plain_term c.loop-ty.terms.items) (map plain_term c.add_from_index.new.terms.items)
      c.loop-ty.invariant.scope c.in-Some.ensures c.in_ok-index.ensures c.loop-ty.invariant.terms c.in_ok-add_from_index.ensures.terms;
}

pub add_from_indices-returns-clause-terms : goal.add_from_indices-returns-clause-terms
add_from_indices-returns-clause-terms n c =
    indices-all c.args.scope.now c.loop-ty.scope c.args.heads.now c.args.letter.byte c.args.left c.loop-ty.index (map plain_term c.args.terms.now.items)
    (map plain_term c.loop-ty.terms.items) c.loop-ty.invariant.scope c.in_default.ensures c.loop-ty.invariant.terms

pub add_with_argument-returns-then-not-can_weigh-clause-terms : goal.add_with_argument-returns-then-not-can_weigh-clause-terms
add_with_argument-returns-then-not-can_weigh-clause-terms n c =
    rest-too_heavy c.args.scope.now c.args.heads.now (plain_type c.args.result_type.now) (plain_type c.args.argument.now) c.args.weight c.args.rest
    (map plain_term c.args.functions.now) (map plain_term c.args.terms.now.items) c.can_weigh.result c.can_weigh.ensures c.if-not-can_weigh.true

pub add_with_argument-returns-clause-terms : goal.add_with_argument-returns-clause-terms
add_with_argument-returns-clause-terms n c =
    let functions : List Term = map plain_term c.args.functions.now in
    let arguments : List Term = map plain_term c.in_ok-arguments.arguments.items in
    on_ok c.add_applied.result
    (argument-all c.args.scope.now c.terms_of_type.new.scope c.args.heads.now (plain_type c.args.result_type.now) (plain_type c.args.argument.now) c.args.weight c.args.rest
    functions arguments (map plain_term c.in_ok-functions.functions.items) (map plain_term c.args.terms.now.items) (map plain_term c.add_applied.new.terms.items)
    c.in_ok-arguments.ensures.scope (c.in_ok-functions.ensures ∙ ap (λ (l : List Tm). applications_of functions (map plain_term l)) c.deref.ensures.value)
    c.in_ok-arguments.ensures.terms)
    c.add_applied.ensures.terms

pub add_with_arguments-loop-rest-preserved : goal.add_with_arguments-loop-rest-preserved
add_with_arguments-loop-rest-preserved n c = record {
  scope = c.in_ok-add_with_argument.ensures.scope ∙ c.loop-rest.invariant.scope;
  terms =
      rests-next c.args.scope.now c.loop-rest.scope c.args.heads.now (plain_type c.args.result_type.now) (plain_type c.args.argument.now) c.args.left c.loop-rest.rest
      (map plain_term c.args.functions.now) (map plain_term c.args.terms.now.items) (map plain_term c.loop-rest.terms.items) (map plain_term c.add_with_argument.new.terms.items)
      c.loop-rest.invariant.scope c.loop-rest.invariant.terms c.in_ok-add_with_argument.ensures.terms;
}

pub add_with_arguments-returns-clause-terms : goal.add_with_arguments-returns-clause-terms
add_with_arguments-returns-clause-terms n c =
    rests-all c.args.scope.now c.args.heads.now (plain_type c.args.result_type.now) (plain_type c.args.argument.now) c.args.left c.loop-rest.rest
    (map plain_term c.args.functions.now) (map plain_term c.args.terms.now.items) (map plain_term c.loop-rest.terms.items) (omega (arith, c.loop-rest-test.false, c.loop-rest.auto.rest-end)) c.loop-rest.invariant.terms

pub terms_of_letter-returns-then-weight-eq0-clause-terms : goal.terms_of_letter-returns-then-weight-eq0-clause-terms
terms_of_letter-returns-then-weight-eq0-clause-terms n c =
    rw c.new-terms.ensures.items (none-of_weight_zero c.args.scope.now c.args.heads.now (base_type c.args.letter.byte) c.args.weight c.if-weight-eq0.true)

pub terms_of_letter-returns-clause-terms : goal.terms_of_letter-returns-clause-terms
terms_of_letter-returns-clause-terms n c =
    letter-all c.args.scope.now c.add_from_heads.new.scope c.args.heads.now c.args.letter.byte c.args.weight (c.args.weight - 1) (map plain_term c.new-terms.result.items)
    (map plain_term c.add_from_heads.new.terms.items) (map plain_term c.add_from_indices.new.terms.items) c.in_ok-add_from_heads.ensures.scope
    (omega (arith, c.if-weight-eq0.false)) (ap (map plain_term) c.new-terms.ensures.items) c.in_ok-add_from_heads.ensures.terms c.in_ok-add_from_indices.ensures.terms

pub terms_of_type-returns-clause-scope : goal.terms_of_type-returns-clause-scope
terms_of_type-returns-clause-scope n c =
    let ty = plain_type c.args.ty.now in
    let below : c.terms_of_letter.new.scope ≡ types_below ty c.args.scope.now = c.in_ok-bodies.ensures.scope ∙ c.in_ok-letter.ensures.scope in
    on_ok_always c.all_abstracted.result (c.leave_arguments.ensures ∙ ap (types_above ty) below ∙ types_above_below ty c.args.scope.now)

pub terms_of_type-returns-clause-terms : goal.terms_of_type-returns-clause-terms
terms_of_type-returns-clause-terms n c =
    let bodies : List Term = map plain_term c.in_ok-bodies.bodies.items in
    if_ok c.all_abstracted.result
    (λ terms listed. abstracted-all c.args.scope.now c.enter_arguments.new.scope c.args.heads.now (plain_type c.args.ty.now) c.in_ok-letter.letter.byte c.args.weight
    bodies (map plain_term terms.items) c.in_ok-letter.ensures.scope c.in_ok-letter.ensures.letter listed c.in_ok-bodies.ensures.terms)
    c.all_abstracted.ensures
