-- Raised terms by their parts.
use Rattle.std.proofs.Common.{ℕ, ◌≡◌, IfOk, ap, ap₂, sym, subst, ◌∙◌}
use Rattle.hol_terms.specs.Terms.{Term, application, abstraction}
use Rattle.hol_terms.specs.Indices.{raise}
use Rattle.hol_terms.proofs.IndexLaws.{raise-closed}
use Rattle.terms_db.specs.Stores.{term_at}
use Rattle.terms_db.proofs.StoreLaws.{grown_term}
use Rattle.beta_eta.specs.Tables.{AreRaised}
use Rattle.beta_eta.proofs.Growing.{below_live, closed_by, like_term, on_ok, results_kept, results_with}
use Rattle.beta_eta.proofs.instances.+raised.Goals as goal

pub raised_in-returns-then-loose_bound-from-clause-term : goal.raised_in-returns-then-loose_bound-from-clause-term
raised_in-returns-then-loose_bound-from-clause-term t c =
    let whole = term_at c.args.db.now c.args.t.place in
    sym (raise-closed c.args.by c.args.from whole (closed_by whole c.args.from c.loose_bound.result c.loose_bound.ensures c.if-loose_bound-from.true))

pub raised_in-returns-clause-table : goal.raised_in-returns-clause-table
raised_in-returns-clause-table t c =
    let old = c.args.db.now in let new = c.raised_parts.new.db in
    let moved = grown_term old new c.args.t.place c.in_ok-raised.ensures.kept c.requires.live in
    let raised = raise c.args.by c.args.from in
    results_with (raise c.args.by) new c.raised_parts.new.table c.keep.new.self c.args.t.place c.args.from c.in_ok-raised.raised.place c.in_ok-raised.ensures.table c.in_ok-keep.ensures.kept (moved.0, c.in_ok-raised.ensures.live, c.in_ok-raised.ensures.term ∙ ap raised (sym moved.1))

pub raised_parts-returns-in_ok-raised_index-in-Bound-clause-table : goal.raised_parts-returns-in_ok-raised_index-in-Bound-clause-table
raised_parts-returns-in_ok-raised_index-in-Bound-clause-table t c =
    on_ok c.put.result (AreRaised c.args.by c.put.new.self c.args.table.now)
    (results_kept (raise c.args.by) c.args.db.now c.put.new.self c.args.table.now c.put.ensures.kept c.requires.table)

pub raised_parts-returns-in_ok-argument-in-App-clause-table : goal.raised_parts-returns-in_ok-argument-in-App-clause-table
raised_parts-returns-in_ok-argument-in-App-clause-table t c =
    let table = c.raised_in-in-App.new.table in let new = c.application.new.self in
    on_ok c.application.result (AreRaised c.args.by new table)
    (results_kept (raise c.args.by) c.raised_in-in-App.new.db new table c.application.ensures.kept c.in_ok-argument-in-App.ensures.table)

pub raised_parts-returns-in_ok-argument-in-App-clause-term : goal.raised_parts-returns-in_ok-argument-in-App-clause-term
raised_parts-returns-in_ok-argument-in-App-clause-term t c =
    let old = c.args.db.now in let middle = c.raised_in.new.db in let last = c.raised_in-in-App.new.db in
    let raised = raise c.args.by c.args.from in
    let made = c.in-App.ensures in
    let f = c.in_ok-function-in-App in let a = c.in_ok-argument-in-App in
    let function : term_at last f.function.place ≡ raised (term_at old c.in-App.function.place) =
    (grown_term middle last f.function.place a.ensures.kept f.ensures.live).1 ∙ f.ensures.term in
    let live = below_live old c.args.t.place c.in-App.argument.place c.requires.live made.1 in
    let argument : term_at last a.argument.place ≡ raised (term_at old c.in-App.argument.place) =
    a.ensures.term ∙ ap raised (grown_term old middle c.in-App.argument.place f.ensures.kept live).1 in
    let P : Term → Type 0 = λ x. IfOk c.application.result (λ r. term_at c.application.new.self r.place ≡ x) in
    subst P (ap₂ application function argument ∙ sym (ap raised made.2)) c.application.ensures.term

pub raised_parts-returns-in_ok-body-in-Lam-clause-table : goal.raised_parts-returns-in_ok-body-in-Lam-clause-table
raised_parts-returns-in_ok-body-in-Lam-clause-table t c =
    let table = c.raised_in-in-Lam.new.table in let new = c.abstraction_like.new.self in
    on_ok c.abstraction_like.result (AreRaised c.args.by new table)
    (results_kept (raise c.args.by) c.raised_in-in-Lam.new.db new table c.abstraction_like.ensures.kept c.in_ok-body-in-Lam.ensures.table)

pub raised_parts-returns-in_ok-body-in-Lam-clause-term : goal.raised_parts-returns-in_ok-body-in-Lam-clause-term
raised_parts-returns-in_ok-body-in-Lam-clause-term t c =
    let old = c.args.db.now in let last = c.raised_in-in-Lam.new.db in
    let raised = raise c.args.by c.args.from in
    let made = c.in-Lam.ensures in let b = c.in_ok-body-in-Lam in
    let whole = (grown_term old last c.args.t.place b.ensures.kept c.requires.live).1 ∙ made.2 in
    let body : abstraction made.0 (term_at last b.body.place) ≡ raised (abstraction made.0 (term_at old c.in-Lam.body.place)) =
    ap (abstraction made.0) (b.ensures.term ∙ ap (λ (n : ℕ). raise c.args.by n (term_at old c.in-Lam.body.place)) c.in_ok-inner-in-Lam.ensures) in
    like_term c.abstraction_like.result last c.abstraction_like.new.self c.args.t.place b.body.place made.0 (term_at old c.in-Lam.body.place) (raised (term_at old c.args.t.place)) c.abstraction_like.ensures.term whole (body ∙ sym (ap raised made.2))
