-- Hereditary substitution by the parts of the term.
use Rattle.std.proofs.Common.{ℕ, ◌+◌, ◌*◌, ◌<◌, List, [], ◌∷◌, IfOk, OnOk, ◌≡◌, ap, ap₂, sym, subst, ◌∙◌, arith}
use Rattle.hol_terms.specs.Indices.{raise}
use Rattle.hol_terms.specs.Terms.{Term, abstraction, function_type, plain_type}
use Rattle.hol_conv.specs.NormalForms.{apply_all, apply_long, hereditary, put_long}
use Rattle.hol_conv.proofs.Heights.{apply_long_height}
use Rattle.terms_db.specs.Stores.{term_at}
use Rattle.terms_db.proofs.StoreLaws.{grown_term, grows_on}
use Rattle.beta_eta.specs.Listed.{AreLive, terms_at}
use Rattle.beta_eta.specs.Tables.{ArePutInLong}
use Rattle.beta_eta.proofs.BeyondLoose.{hereditary_beyond_loose}
use Rattle.beta_eta.proofs.Calls.{application_falls, application_term, function_falls, function_term, index_above, index_at, index_below}
use Rattle.beta_eta.proofs.Growing.{below_live, closed_by, live_kept, on_ok, results_kept, results_with, terms_kept}
use Rattle.beta_eta.proofs.hereditary.+put.Goals as goal

-- a term that is looked up

pub put_in_long-returns-then-loose_bound-at-clause-term : goal.put_in_long-returns-then-loose_bound-at-clause-term
put_in_long-returns-then-loose_bound-at-clause-term t c =
    let whole = term_at c.args.db.now c.args.t.place in
    sym (hereditary_beyond_loose (plain_type c.args.ty.now) c.args.at (term_at c.args.db.now c.args.by.place) whole (closed_by whole c.args.at c.loose_bound.result c.loose_bound.ensures c.if-loose_bound-at.true))

pub put_in_long-returns-clause-table : goal.put_in_long-returns-clause-table
put_in_long-returns-clause-table t c =
    let old = c.args.db.now in let new = c.put_applied.new.db in
    let s = plain_type c.args.ty.now in let u = term_at old c.args.by.place in
    let r = c.in_ok-result.ensures in
    let moved = grown_term old new c.args.t.place r.kept c.requires.live in
    let whole = ap₂ (λ (x : Term) (l : List ℕ). put_long (apply_long s) c.args.at u x (terms_at old l)) (sym moved.1) c.none.ensures in
    results_with (λ k x. hereditary s k u x) new c.put_applied.new.table c.keep.new.self c.args.t.place c.args.at c.in_ok-result.result.place r.table c.in_ok-keep.ensures.kept (moved.0, r.live, r.term ∙ whole)

-- an index

pub put_for_index-long_applied-requires : goal.put_for_index-long_applied-requires
put_for_index-long_applied-requires t c =
    let old = c.args.db.now in let new = c.raised.new.db in
    let s = plain_type c.args.ty.now in
    let grows = c.in_ok-head.ensures.kept in
    let same : apply_long_height s (term_at new c.in_ok-head.head.place) (terms_at new c.args.arguments) ≡ apply_long_height s (raise c.args.at 0 (term_at old c.args.by.place)) (terms_at old c.args.arguments) =
    ap₂ (apply_long_height s) c.in_ok-head.ensures.term (terms_kept old new c.args.arguments grows c.requires.arguments) in
    let whole : 2 * apply_long_height s (raise c.args.at 0 (term_at old c.args.by.place)) (terms_at old c.args.arguments) + 2 ≡ t = c.decreases in
    let falls : 2 * apply_long_height s (term_at new c.in_ok-head.head.place) (terms_at new c.args.arguments) < t = omega arith in
    (falls, (c.in_ok-head.ensures.live, live_kept old new c.args.arguments grows c.requires.arguments))

pub put_for_index-applied-requires-clause-arguments : goal.put_for_index-applied-requires-clause-arguments
put_for_index-applied-requires-clause-arguments t c =
    live_kept c.args.db.now c.put.new.self c.args.arguments c.in_ok-head-2.ensures.kept c.requires.arguments

pub put_for_index-applied-requires-else-index-at-2-clause-arguments : goal.put_for_index-applied-requires-else-index-at-2-clause-arguments
put_for_index-applied-requires-else-index-at-2-clause-arguments t c =
    live_kept c.args.db.now c.put-else-index-at-2.new.self c.args.arguments c.in_ok-head-3.ensures.kept c.requires.arguments

pub put_for_index-returns-in_ok-head-clause-term : goal.put_for_index-returns-in_ok-head-clause-term
put_for_index-returns-in_ok-head-clause-term t c =
    let old = c.args.db.now in let new = c.raised.new.db in let s = plain_type c.args.ty.now in
    let same = ap₂ (apply_long s) c.in_ok-head.ensures.term (terms_kept old new c.args.arguments c.in_ok-head.ensures.kept c.requires.arguments) in
    let is = index_at (apply_long s) c.args.at (term_at old c.args.by.place) c.args.index (terms_at old c.args.arguments) c.if-index-at.true in
    let P : Term → Type 0 = λ x. IfOk c.long_applied.result (λ r. term_at c.long_applied.new.db r.place ≡ x) in
    subst P (same ∙ sym is) c.long_applied.ensures.term

pub put_for_index-returns-in_ok-head-2-clause-term : goal.put_for_index-returns-in_ok-head-2-clause-term
put_for_index-returns-in_ok-head-2-clause-term t c =
    let old = c.args.db.now in let new = c.put.new.self in let s = plain_type c.args.ty.now in
    let same = ap₂ apply_all c.in_ok-head-2.ensures.term (terms_kept old new c.args.arguments c.in_ok-head-2.ensures.kept c.requires.arguments) in
    let is = index_below (apply_long s) c.args.at (term_at old c.args.by.place) c.args.index (terms_at old c.args.arguments) c.if-index-at-2.true in
    let P : Term → Type 0 = λ x. IfOk c.applied.result (λ r. term_at c.applied.new.db r.place ≡ x) in
    subst P (same ∙ sym is) c.applied.ensures.term

pub put_for_index-returns-in_ok-head-3-clause-term : goal.put_for_index-returns-in_ok-head-3-clause-term
put_for_index-returns-in_ok-head-3-clause-term t c =
    let old = c.args.db.now in let new = c.put-else-index-at-2.new.self in let s = plain_type c.args.ty.now in
    let same = ap₂ apply_all c.in_ok-head-3.ensures.term (terms_kept old new c.args.arguments c.in_ok-head-3.ensures.kept c.requires.arguments) in
    let is = index_above (apply_long s) c.args.at (term_at old c.args.by.place) c.args.index (terms_at old c.args.arguments) c.if-index-at.false c.if-index-at-2.false in
    let P : Term → Type 0 = λ x. IfOk c.applied-else-index-at-2.result (λ r. term_at c.applied-else-index-at-2.new.db r.place ≡ x) in
    subst P (same ∙ sym is) c.applied-else-index-at-2.ensures.term

-- a long abstraction and its first argument

pub long_applied-long_applied-requires : goal.long_applied-long_applied-requires
long_applied-long_applied-requires t c =
    let old = c.args.db.now in let new = c.instance_of_long.new.db in
    let q = plain_type c.args.ty.now in let r = plain_type c.in-Fun-Lam.result_type.value in let s = plain_type c.in-Fun-Lam.argument_type.value in
    let b = term_at old c.in-Fun-Lam.body.place in let a = term_at old c.in-Some.argument.place in
    let rest = c.take_first.new.self in
    let made = c.in-Fun-Lam.ensures in let i = c.in_ok-instance-in-Some.ensures in
    let live = subst (AreLive old) c.in-Some.ensures c.requires.arguments in
    let ty : q ≡ function_type r s = ap plain_type c.in-Fun-Lam.is-0 in
    let part : plain_type c.deref-in-Some.result.now ≡ r = ap plain_type c.deref-in-Some.ensures in
    let term = i.term ∙ ap (λ z. hereditary (plain_type z) 0 a b) c.deref.ensures in
    let falls = application_falls q (plain_type c.deref-in-Some.result.now) r s (term_at old c.args.function.place) made.0 b a (term_at new c.in_ok-instance-in-Some.instance.place) (terms_at old c.args.arguments) (terms_at old rest) (terms_at new rest) t ty part made.2 (ap (terms_at old) c.in-Some.ensures) term (terms_kept old new rest i.kept live.1) c.decreases in
    (falls, (i.live, live_kept old new rest i.kept live.1))

pub long_applied-returns-in_ok-instance-in-Some-clause-term : goal.long_applied-returns-in_ok-instance-in-Some-clause-term
long_applied-returns-in_ok-instance-in-Some-clause-term t c =
    let old = c.args.db.now in let new = c.instance_of_long.new.db in
    let q = plain_type c.args.ty.now in let r = plain_type c.in-Fun-Lam.result_type.value in let s = plain_type c.in-Fun-Lam.argument_type.value in
    let b = term_at old c.in-Fun-Lam.body.place in let a = term_at old c.in-Some.argument.place in
    let rest = c.take_first.new.self in
    let made = c.in-Fun-Lam.ensures in let i = c.in_ok-instance-in-Some.ensures in
    let live = subst (AreLive old) c.in-Some.ensures c.requires.arguments in
    let ty : q ≡ function_type r s = ap plain_type c.in-Fun-Lam.is-0 in
    let part : plain_type c.deref-in-Some.result.now ≡ r = ap plain_type c.deref-in-Some.ensures in
    let term = i.term ∙ ap (λ z. hereditary (plain_type z) 0 a b) c.deref.ensures in
    let same = application_term q (plain_type c.deref-in-Some.result.now) r s (term_at old c.args.function.place) made.0 b a (term_at new c.in_ok-instance-in-Some.instance.place) (terms_at old c.args.arguments) (terms_at old rest) (terms_at new rest) ty part made.2 (ap (terms_at old) c.in-Some.ensures) term (terms_kept old new rest i.kept live.1) in
    let P : Term → Type 0 = λ x. IfOk c.long_applied.result (λ r. term_at c.long_applied.new.db r.place ≡ x) in
    subst P same c.long_applied.ensures.term

-- a variable or a constant

pub put_applied-returns-in-Free-clause-table : goal.put_applied-returns-in-Free-clause-table
put_applied-returns-in-Free-clause-table t c =
    let s = plain_type c.args.ty.now in let u = term_at c.args.db.now c.args.by.place in let new = c.applied.new.db in
    on_ok c.applied.result (ArePutInLong s u new c.args.table.now)
    (results_kept (λ k x. hereditary s k u x) c.args.db.now new c.args.table.now c.applied.ensures.kept c.requires.table)

pub put_applied-returns-in-Bound-clause-table : goal.put_applied-returns-in-Bound-clause-table
put_applied-returns-in-Bound-clause-table t c =
    let s = plain_type c.args.ty.now in let u = term_at c.args.db.now c.args.by.place in let new = c.put_for_index.new.db in
    on_ok c.put_for_index.result (ArePutInLong s u new c.args.table.now)
    (results_kept (λ k x. hereditary s k u x) c.args.db.now new c.args.table.now c.put_for_index.ensures.kept c.requires.table)

-- an application

pub put_applied-put_applied-requires : goal.put_applied-put_applied-requires
put_applied-put_applied-requires t c =
    let old = c.args.db.now in let new = c.put_in_long.new.db in
    let s = plain_type c.args.ty.now in let u = term_at old c.args.by.place in
    let f = term_at old c.in-App.function.place in let x = term_at old c.in-App.argument.place in
    let made = c.in-App.ensures in let a = c.in_ok-argument-in-App.ensures in
    let list = c.in_ok-put_first-in-App.ensures in
    let by = grown_term old new c.args.by.place a.kept c.requires.by in
    let function = grown_term old new c.in-App.function.place a.kept (below_live old c.args.t.place c.in-App.function.place c.requires.live made.0) in
    let arguments : terms_at new c.put_first.new.self ≡ put_long (apply_long s) c.args.at u x [] ∷ terms_at old c.args.arguments =
    ap (terms_at new) list ∙ ap₂ (λ (y : Term) (l : List Term). y ∷ l) a.term (terms_kept old new c.args.arguments a.kept c.requires.arguments) in
    let falls = function_falls (apply_long s) (apply_long_height s) c.args.at u (term_at new c.args.by.place) (term_at old c.args.t.place) f (term_at new c.in-App.function.place) x (terms_at old c.args.arguments) (terms_at new c.put_first.new.self) t made.2 by.1 function.1 arguments c.decreases in
    let live = subst (AreLive new) (sym list) (a.live, live_kept old new c.args.arguments a.kept c.requires.arguments) in
    let P : Term → Type 0 = λ v. ArePutInLong s v new c.put_in_long.new.table in
    (falls, (by.0, (function.0, (live, subst P (sym by.1) a.table))))

pub put_applied-returns-in_ok-put_first-in-App-clause-table : goal.put_applied-returns-in_ok-put_first-in-App-clause-table
put_applied-returns-in_ok-put_first-in-App-clause-table t c =
    let by = grown_term c.args.db.now c.put_in_long.new.db c.args.by.place c.in_ok-argument-in-App.ensures.kept c.requires.by in
    let P : Term → Type 0 = λ v. OnOk c.put_applied.result (ArePutInLong (plain_type c.args.ty.now) v c.put_applied.new.db c.put_applied.new.table) in
    subst P by.1 c.put_applied.ensures.table

pub put_applied-returns-in_ok-put_first-in-App-clause-term : goal.put_applied-returns-in_ok-put_first-in-App-clause-term
put_applied-returns-in_ok-put_first-in-App-clause-term t c =
    let old = c.args.db.now in let new = c.put_in_long.new.db in
    let s = plain_type c.args.ty.now in let u = term_at old c.args.by.place in
    let f = term_at old c.in-App.function.place in let x = term_at old c.in-App.argument.place in
    let made = c.in-App.ensures in let a = c.in_ok-argument-in-App.ensures in
    let list = c.in_ok-put_first-in-App.ensures in
    let by = grown_term old new c.args.by.place a.kept c.requires.by in
    let function = grown_term old new c.in-App.function.place a.kept (below_live old c.args.t.place c.in-App.function.place c.requires.live made.0) in
    let arguments : terms_at new c.put_first.new.self ≡ put_long (apply_long s) c.args.at u x [] ∷ terms_at old c.args.arguments =
    ap (terms_at new) list ∙ ap₂ (λ (y : Term) (l : List Term). y ∷ l) a.term (terms_kept old new c.args.arguments a.kept c.requires.arguments) in
    let same = function_term (apply_long s) (apply_long_height s) c.args.at u (term_at new c.args.by.place) (term_at old c.args.t.place) f (term_at new c.in-App.function.place) x (terms_at old c.args.arguments) (terms_at new c.put_first.new.self) made.2 by.1 function.1 arguments in
    let P : Term → Type 0 = λ y. IfOk c.put_applied.result (λ r. term_at c.put_applied.new.db r.place ≡ y) in
    subst P same c.put_applied.ensures.term

-- an abstraction

pub put_applied-applied-requires-in-Lam-clause-arguments : goal.put_applied-applied-requires-in-Lam-clause-arguments
put_applied-applied-requires-in-Lam-clause-arguments t c =
    let old = c.args.db.now in let new = c.abstraction_like.new.self in
    let grows = grows_on old c.put_in_long-in-Lam.new.db new c.in_ok-body-in-Lam.ensures.kept c.in_ok-head-in-Lam.ensures.kept in
    live_kept old new c.args.arguments grows c.requires.arguments

pub put_applied-returns-in_ok-head-in-Lam-clause-table : goal.put_applied-returns-in_ok-head-in-Lam-clause-table
put_applied-returns-in_ok-head-in-Lam-clause-table t c =
    let middle = c.put_in_long-in-Lam.new.db in let last = c.abstraction_like.new.self in let new = c.applied-in-Lam.new.db in
    let table = c.put_in_long-in-Lam.new.table in
    let s = plain_type c.args.ty.now in let u = term_at c.args.db.now c.args.by.place in
    let grows = grows_on middle last new c.in_ok-head-in-Lam.ensures.kept c.applied-in-Lam.ensures.kept in
    on_ok c.applied-in-Lam.result (ArePutInLong s u new table)
    (results_kept (λ k x. hereditary s k u x) middle new table grows c.in_ok-body-in-Lam.ensures.table)

pub put_applied-returns-in_ok-head-in-Lam-clause-term : goal.put_applied-returns-in_ok-head-in-Lam-clause-term
put_applied-returns-in_ok-head-in-Lam-clause-term t c =
    let old = c.args.db.now in let middle = c.put_in_long-in-Lam.new.db in let last = c.abstraction_like.new.self in
    let s = plain_type c.args.ty.now in let u = term_at old c.args.by.place in
    let made = c.in-Lam.ensures in let b = c.in_ok-body-in-Lam.ensures in
    let inside = term_at old c.in-Lam.body.place in
    let grows = grows_on old middle last b.kept c.in_ok-head-in-Lam.ensures.kept in
    let whole = (grown_term old middle c.args.t.place b.kept c.requires.live).1 ∙ made.2 in
    let body = b.term ∙ ap (λ (n : ℕ). hereditary s n u inside) c.in_ok-inner-in-Lam.ensures in
    let head : term_at last c.in_ok-head-in-Lam.head.place ≡ abstraction made.0 (hereditary s (c.args.at + 1) u inside) =
    c.in_ok-head-in-Lam.ensures.term made.0 inside whole ∙ ap (abstraction made.0) body in
    let arguments = terms_at old c.args.arguments in
    let same = ap₂ apply_all head (terms_kept old last c.args.arguments grows c.requires.arguments) ∙ sym (ap (λ (x : Term). put_long (apply_long s) c.args.at u x arguments) made.2) in
    let P : Term → Type 0 = λ x. IfOk c.applied-in-Lam.result (λ r. term_at c.applied-in-Lam.new.db r.place ≡ x) in
    subst P same c.applied-in-Lam.ensures.term
