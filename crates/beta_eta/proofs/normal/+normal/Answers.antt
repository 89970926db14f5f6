-- Long normal forms by the parts of the term.
use Rattle.std.proofs.Common.{ℕ, ◌+◌, ◌*◌, ◌<◌, List, [], ◌∷◌, IfOk, OnOk, ◌≡◌, ap, ap₂, sym, subst, ◌∙◌, arith}
use Rattle.hol_terms.specs.Terms.{SimpleType, Term, abstraction}
use Rattle.hol_conv.specs.NormalForms.{apply_abstractions, normal_form, normal_with}
use Rattle.terms_db.specs.Stores.{term_at}
use Rattle.terms_db.proofs.StoreLaws.{grown_term, grows_on}
use Rattle.beta_eta.specs.Listed.{AreLive, terms_at}
use Rattle.beta_eta.specs.Normals.{AreNormals, variable_type}
use Rattle.beta_eta.proofs.Growing.{below_live, like_term, live_kept, on_ok, results_kept, terms_kept}
use Rattle.beta_eta.proofs.Normalizing.{abstraction_normal}
use Rattle.beta_eta.proofs.normal.+normal.Goals as goal

-- a term that is looked up

pub normal_in-returns-in-Some-clause-live : goal.normal_in-returns-in-Some-clause-live
normal_in-returns-in-Some-clause-live t c = (c.in-Some.ensures c.args.types.now c.requires.closed c.requires.loose).0

pub normal_in-returns-clause-closed : goal.normal_in-returns-clause-closed
normal_in-returns-clause-closed t c =
    let old = c.args.db.now in let new = c.normal_applied.new.db in let types = c.args.types.now in
    let r = c.in_ok-normal.ensures in
    let moved = grown_term old new c.args.t.place r.kept c.requires.live in
    let whole = ap₂ (λ (x : Term) (l : List ℕ). normal_with types x (terms_at old l)) (sym moved.1) c.none.ensures in
    c.in_ok-keep_normal.ensures.closed types r.closed (r.live, r.term ∙ whole)

pub normal_in-returns-clause-loose : goal.normal_in-returns-clause-loose
normal_in-returns-clause-loose t c =
    let old = c.args.db.now in let new = c.normal_applied.new.db in let types = c.args.types.now in
    let r = c.in_ok-normal.ensures in
    let moved = grown_term old new c.args.t.place r.kept c.requires.live in
    let whole = ap₂ (λ (x : Term) (l : List ℕ). normal_with types x (terms_at old l)) (sym moved.1) c.none.ensures in
    c.in_ok-keep_normal.ensures.loose types r.loose (r.live, r.term ∙ whole)

-- an abstraction

pub normal_abstraction-returns-clause-closed : goal.normal_abstraction-returns-clause-closed
normal_abstraction-returns-clause-closed t c =
    let new = c.abstraction_like.new.self in
    on_ok c.abstraction_like.result (AreNormals [] new c.normal_in.new.closed)
    (results_kept (λ k x. normal_form [] x) c.normal_in.new.db new c.normal_in.new.closed c.abstraction_like.ensures.kept c.in_ok-body.ensures.closed)

pub normal_abstraction-returns-clause-term : goal.normal_abstraction-returns-clause-term
normal_abstraction-returns-clause-term t c =
    let old = c.args.db.now in let middle = c.normal_in.new.db in let types = c.args.types.now in
    let is = c.requires.is in let b = c.in_ok-body in
    let inside = term_at old c.args.body.place in
    let entered = c.in_ok-enter.ensures ∙ ap (λ (q : SimpleType). q ∷ types) (c.in_ok-ty.ensures ∙ ap variable_type is.1) in
    let whole = (grown_term old middle c.args.t.place b.ensures.kept c.requires.live).1 ∙ is.1 in
    let body : abstraction is.0 (term_at middle b.body.place) ≡ normal_form types (abstraction is.0 inside) =
    ap (abstraction is.0) (b.ensures.term ∙ ap (λ (l : List SimpleType). normal_form l inside) entered) in
    like_term c.abstraction_like.result middle c.abstraction_like.new.self c.args.t.place b.body.place is.0 inside (normal_form types (term_at old c.args.t.place)) c.abstraction_like.ensures.term whole (body ∙ sym (ap (normal_form types) is.1))

pub normal_applied-abstractions_applied-requires-clause-arguments : goal.normal_applied-abstractions_applied-requires-clause-arguments
normal_applied-abstractions_applied-requires-clause-arguments t c =
    live_kept c.args.db.now c.normal_abstraction.new.db c.args.arguments c.in_ok-function-in-Lam.ensures.kept c.requires.arguments

pub normal_applied-returns-in_ok-function-in-Lam-clause-closed : goal.normal_applied-returns-in_ok-function-in-Lam-clause-closed
normal_applied-returns-in_ok-function-in-Lam-clause-closed t c =
    let new = c.abstractions_applied.new.db in
    on_ok c.abstractions_applied.result (AreNormals [] new c.normal_abstraction.new.closed)
    (results_kept (λ k x. normal_form [] x) c.normal_abstraction.new.db new c.normal_abstraction.new.closed c.abstractions_applied.ensures.kept c.in_ok-function-in-Lam.ensures.closed)

pub normal_applied-returns-in_ok-function-in-Lam-clause-loose : goal.normal_applied-returns-in_ok-function-in-Lam-clause-loose
normal_applied-returns-in_ok-function-in-Lam-clause-loose t c =
    let old = c.args.db.now in let new = c.abstractions_applied.new.db in let types = c.args.types.now in
    let grows = grows_on old c.normal_abstraction.new.db new c.in_ok-function-in-Lam.ensures.kept c.abstractions_applied.ensures.kept in
    on_ok c.abstractions_applied.result (AreNormals types new c.args.loose.now)
    (results_kept (λ k x. normal_form types x) old new c.args.loose.now grows c.requires.loose)

pub normal_applied-returns-in_ok-function-in-Lam-clause-term : goal.normal_applied-returns-in_ok-function-in-Lam-clause-term
normal_applied-returns-in_ok-function-in-Lam-clause-term t c =
    let old = c.args.db.now in let middle = c.normal_abstraction.new.db in let types = c.args.types.now in
    let made = c.in-Lam.ensures in let f = c.in_ok-function-in-Lam.ensures in
    let same = ap₂ apply_abstractions f.term (terms_kept old middle c.args.arguments f.kept c.requires.arguments) in
    let is = abstraction_normal types (term_at old c.args.t.place) made.0 (term_at old c.in-Lam.body.place) (terms_at old c.args.arguments) made.2 in
    let P : Term → Type 0 = λ x. IfOk c.abstractions_applied.result (λ r. term_at c.abstractions_applied.new.db r.place ≡ x) in
    subst P (same ∙ sym is) c.abstractions_applied.ensures.term

-- an application

pub normal_applied-normal_applied-requires : goal.normal_applied-normal_applied-requires
normal_applied-normal_applied-requires t c =
    let old = c.args.db.now in let new = c.normal_in.new.db in
    let made = c.in-App.ensures in let a = c.in_ok-argument-in-App.ensures in
    let list = c.in_ok-put_first-in-App.ensures in
    let whole : 3 * c.args.t.place + 1 ≡ t = c.decreases in
    let part : c.in-App.function.place < c.args.t.place = made.0 in
    let falls : 3 * c.in-App.function.place + 1 < t = omega arith in
    let function = grown_term old new c.in-App.function.place a.kept (below_live old c.args.t.place c.in-App.function.place c.requires.live made.0) in
    let live = subst (AreLive new) (sym list) (a.live, live_kept old new c.args.arguments a.kept c.requires.arguments) in
    let P : List SimpleType → Type 0 = λ l. AreNormals l new c.normal_in.new.loose in
    (falls, (function.0, (live, (a.closed, subst P (sym a.types) a.loose))))

pub normal_applied-returns-in_ok-put_first-in-App-clause-loose : goal.normal_applied-returns-in_ok-put_first-in-App-clause-loose
normal_applied-returns-in_ok-put_first-in-App-clause-loose t c =
    let P : List SimpleType → Type 0 = λ l. OnOk c.normal_applied.result (AreNormals l c.normal_applied.new.db c.normal_applied.new.loose) in
    subst P c.in_ok-argument-in-App.ensures.types c.normal_applied.ensures.loose

pub normal_applied-returns-in_ok-put_first-in-App-clause-term : goal.normal_applied-returns-in_ok-put_first-in-App-clause-term
normal_applied-returns-in_ok-put_first-in-App-clause-term t c =
    let old = c.args.db.now in let new = c.normal_in.new.db in let types = c.args.types.now in
    let x = term_at old c.in-App.argument.place in
    let made = c.in-App.ensures in let a = c.in_ok-argument-in-App.ensures in
    let list = c.in_ok-put_first-in-App.ensures in
    let function = grown_term old new c.in-App.function.place a.kept (below_live old c.args.t.place c.in-App.function.place c.requires.live made.0) in
    let arguments : terms_at new c.put_first.new.self ≡ normal_form types x ∷ terms_at old c.args.arguments =
    ap (terms_at new) list ∙ ap₂ (λ (y : Term) (l : List Term). y ∷ l) a.term (terms_kept old new c.args.arguments a.kept c.requires.arguments) in
    let same = ap (λ (l : List SimpleType). normal_with l (term_at new c.in-App.function.place) (terms_at new c.put_first.new.self)) a.types
    ∙ (ap₂ (normal_with types) function.1 arguments ∙ sym (ap (λ (z : Term). normal_with types z (terms_at old c.args.arguments)) made.2)) in
    let P : Term → Type 0 = λ y. IfOk c.normal_applied.result (λ r. term_at c.normal_applied.new.db r.place ≡ y) in
    subst P same c.normal_applied.ensures.term

-- a head

pub normal_applied-returns-in-Free-clause-closed : goal.normal_applied-returns-in-Free-clause-closed
normal_applied-returns-in-Free-clause-closed t c =
    let new = c.head_with.new.db in let table = c.args.closed.now in
    on_ok c.head_with.result (AreNormals [] new table)
    (results_kept (λ k x. normal_form [] x) c.args.db.now new table c.head_with.ensures.kept c.requires.closed)

pub normal_applied-returns-in-Free-clause-loose : goal.normal_applied-returns-in-Free-clause-loose
normal_applied-returns-in-Free-clause-loose t c =
    let new = c.head_with.new.db in let table = c.args.loose.now in
    on_ok c.head_with.result (AreNormals c.args.types.now new table)
    (results_kept (λ k x. normal_form c.args.types.now x) c.args.db.now new table c.head_with.ensures.kept c.requires.loose)

pub normal_applied-returns-in-Bound-clause-closed : goal.normal_applied-returns-in-Bound-clause-closed
normal_applied-returns-in-Bound-clause-closed t c =
    let new = c.head_with-in-Bound.new.db in let table = c.args.closed.now in
    on_ok c.head_with-in-Bound.result (AreNormals [] new table)
    (results_kept (λ k x. normal_form [] x) c.args.db.now new table c.head_with-in-Bound.ensures.kept c.requires.closed)

pub normal_applied-returns-in-Bound-clause-loose : goal.normal_applied-returns-in-Bound-clause-loose
normal_applied-returns-in-Bound-clause-loose t c =
    let new = c.head_with-in-Bound.new.db in let table = c.args.loose.now in
    on_ok c.head_with-in-Bound.result (AreNormals c.args.types.now new table)
    (results_kept (λ k x. normal_form c.args.types.now x) c.args.db.now new table c.head_with-in-Bound.ensures.kept c.requires.loose)

pub normal_applied-returns-in-Con-clause-closed : goal.normal_applied-returns-in-Con-clause-closed
normal_applied-returns-in-Con-clause-closed t c =
    let new = c.head_with-in-Con.new.db in let table = c.args.closed.now in
    on_ok c.head_with-in-Con.result (AreNormals [] new table)
    (results_kept (λ k x. normal_form [] x) c.args.db.now new table c.head_with-in-Con.ensures.kept c.requires.closed)

pub normal_applied-returns-in-Con-clause-loose : goal.normal_applied-returns-in-Con-clause-loose
normal_applied-returns-in-Con-clause-loose t c =
    let new = c.head_with-in-Con.new.db in let table = c.args.loose.now in
    on_ok c.head_with-in-Con.result (AreNormals c.args.types.now new table)
    (results_kept (λ k x. normal_form c.args.types.now x) c.args.db.now new table c.head_with-in-Con.ensures.kept c.requires.loose)
