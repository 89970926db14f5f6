-- Terms put for an index, by the parts of the term in which they are put.
use Rattle.std.proofs.Common.{ℕ, ◌≡◌, IfOk, rules, ap, ap₂, sym, subst, ◌∙◌}
use Rattle.hol_terms.specs.Terms.{Term, application, abstraction}
use Rattle.hol_terms.specs.Indices.{put}
use Rattle.hol_terms.proofs.IndexLaws.{put-closed}
use Rattle.terms_db.specs.Stores.{term_at}
use Rattle.terms_db.proofs.StoreLaws.{grown_term}
use Rattle.beta_eta.specs.Tables.{ArePut}
use Rattle.beta_eta.proofs.Growing.{below_live, closed_by, like_term, on_ok, results_kept, results_with}
use Rattle.beta_eta.proofs.instances.+put_plain.Goals as goal

pub put_in-returns-then-loose_bound-at-clause-term : goal.put_in-returns-then-loose_bound-at-clause-term
put_in-returns-then-loose_bound-at-clause-term t c =
    let whole = term_at c.args.db.now c.args.t.place in
    sym (put-closed c.args.at (term_at c.args.db.now c.args.by.place) whole (closed_by whole c.args.at c.loose_bound.result c.loose_bound.ensures c.if-loose_bound-at.true))

pub put_in-returns-clause-table : goal.put_in-returns-clause-table
put_in-returns-clause-table t c =
    let old = c.args.db.now in let new = c.put_parts.new.db in
    let u = term_at old c.args.by.place in
    let moved = grown_term old new c.args.t.place c.in_ok-instance.ensures.kept c.requires.live in
    results_with (λ k x. put k u x) new c.put_parts.new.table c.keep.new.self c.args.t.place c.args.at c.in_ok-instance.instance.place c.in_ok-instance.ensures.table c.in_ok-keep.ensures.kept (moved.0, c.in_ok-instance.ensures.live, c.in_ok-instance.ensures.term ∙ ap (put c.args.at u) (sym moved.1))

pub put_parts-put_in-requires-in-App : goal.put_parts-put_in-requires-in-App
put_parts-put_in-requires-in-App t c =
    let old = c.args.db.now in let middle = c.put_in.new.db in
    let f = c.in_ok-function-in-App in let i = c.in-App.argument.place in
    let by = grown_term old middle c.args.by.place f.ensures.kept c.requires.by in
    let argument = grown_term old middle i f.ensures.kept (below_live old c.args.t.place i c.requires.live c.in-App.ensures.1) in
    let P : Term → Type 0 = λ u. ArePut u middle c.put_in.new.table in
    (search rules, (by.0, (argument.0, subst P (sym by.1) f.ensures.table)))

pub put_parts-returns-in-Bound-clause-table : goal.put_parts-returns-in-Bound-clause-table
put_parts-returns-in-Bound-clause-table t c =
    let u = term_at c.args.db.now c.args.by.place in let new = c.put_for_index.new.db in
    on_ok c.put_for_index.result (ArePut u new c.args.table.now)
    (results_kept (λ k x. put k u x) c.args.db.now new c.args.table.now c.put_for_index.ensures.kept c.requires.table)

pub put_parts-returns-in_ok-argument-in-App-clause-table : goal.put_parts-returns-in_ok-argument-in-App-clause-table
put_parts-returns-in_ok-argument-in-App-clause-table t c =
    let old = c.args.db.now in let middle = c.put_in.new.db in let last = c.put_in-in-App.new.db in
    let table = c.put_in-in-App.new.table in let new = c.application.new.self in
    let u = term_at old c.args.by.place in
    let by = grown_term old middle c.args.by.place c.in_ok-function-in-App.ensures.kept c.requires.by in
    let P : Term → Type 0 = λ v. ArePut v last table in
    on_ok c.application.result (ArePut u new table)
    (results_kept (λ k x. put k u x) last new table c.application.ensures.kept (subst P by.1 c.in_ok-argument-in-App.ensures.table))

pub put_parts-returns-in_ok-argument-in-App-clause-term : goal.put_parts-returns-in_ok-argument-in-App-clause-term
put_parts-returns-in_ok-argument-in-App-clause-term t c =
    let old = c.args.db.now in let middle = c.put_in.new.db in let last = c.put_in-in-App.new.db in
    let u = term_at old c.args.by.place in
    let instance = put c.args.at u in
    let made = c.in-App.ensures in
    let f = c.in_ok-function-in-App in let a = c.in_ok-argument-in-App in
    let by = grown_term old middle c.args.by.place f.ensures.kept c.requires.by in
    let function : term_at last f.function.place ≡ instance (term_at old c.in-App.function.place) =
    (grown_term middle last f.function.place a.ensures.kept f.ensures.live).1 ∙ f.ensures.term in
    let live = below_live old c.args.t.place c.in-App.argument.place c.requires.live made.1 in
    let argument : term_at last a.argument.place ≡ instance (term_at old c.in-App.argument.place) =
    a.ensures.term ∙ ap₂ (put c.args.at) by.1 (grown_term old middle c.in-App.argument.place f.ensures.kept live).1 in
    let P : Term → Type 0 = λ x. IfOk c.application.result (λ r. term_at c.application.new.self r.place ≡ x) in
    subst P (ap₂ application function argument ∙ sym (ap instance made.2)) c.application.ensures.term

pub put_parts-returns-in_ok-body-in-Lam-clause-table : goal.put_parts-returns-in_ok-body-in-Lam-clause-table
put_parts-returns-in_ok-body-in-Lam-clause-table t c =
    let table = c.put_in-in-Lam.new.table in let new = c.abstraction_like.new.self in
    let u = term_at c.args.db.now c.args.by.place in
    on_ok c.abstraction_like.result (ArePut u new table)
    (results_kept (λ k x. put k u x) c.put_in-in-Lam.new.db new table c.abstraction_like.ensures.kept c.in_ok-body-in-Lam.ensures.table)

pub put_parts-returns-in_ok-body-in-Lam-clause-term : goal.put_parts-returns-in_ok-body-in-Lam-clause-term
put_parts-returns-in_ok-body-in-Lam-clause-term t c =
    let old = c.args.db.now in let last = c.put_in-in-Lam.new.db in
    let u = term_at old c.args.by.place in
    let instance = put c.args.at u in
    let made = c.in-Lam.ensures in let b = c.in_ok-body-in-Lam in
    let inside = term_at old c.in-Lam.body.place in
    let whole = (grown_term old last c.args.t.place b.ensures.kept c.requires.live).1 ∙ made.2 in
    let body : abstraction made.0 (term_at last b.body.place) ≡ instance (abstraction made.0 inside) =
    ap (abstraction made.0) (b.ensures.term ∙ ap (λ (n : ℕ). put n u inside) c.in_ok-inner-in-Lam.ensures) in
    like_term c.abstraction_like.result last c.abstraction_like.new.self c.args.t.place b.body.place made.0 inside (instance (term_at old c.args.t.place)) c.abstraction_like.ensures.term whole (body ∙ sym (ap instance made.2))
