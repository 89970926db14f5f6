-- Long forms by their parts.
use Rattle.std.proofs.Common.{ℕ, ◌≡◌, IfOk, ap, sym, subst, ◌∙◌, arith}
use Rattle.std.proofs.lemmas.Grind.{common_steps}
use Rattle.hol_terms.specs.Indices.{raise}
use Rattle.hol_terms.specs.Terms.{Term, plain_type}
use Rattle.hol_conv.specs.LongForms.{filled_form}
use Rattle.hol_conv.proofs.LongForms.{long_form_filled}
use Rattle.terms_db.specs.Stores.{term_at}
use Rattle.terms_db.proofs.StoreLaws.{grown_term}
use Rattle.beta_eta.proofs.long_forms.+long_form.Goals as goal

pub filled-returns-in_ok-body-in-Fun-clause-term :
    goal.filled-returns-in_ok-body-in-Fun-clause-term
filled-returns-in_ok-body-in-Fun-clause-term t c =
    let old = c.args.db.now in let middle = c.put.new.self in let last = c.lengthened.new.db in
    let first = grown_term old middle c.args.head.place c.in_ok-variable-in-Fun.ensures.kept c.requires.live in
    let second = grown_term middle last c.args.head.place c.in_ok-argument-in-Fun.ensures.kept first.0 in
    let head : term_at last c.args.head.place ≡ term_at old c.args.head.place = second.1 ∙ first.1 in
    grind (arith, common_steps, head)

pub lengthened-returns-in_ok-raised_head-in-Fun-clause-term :
    goal.lengthened-returns-in_ok-raised_head-in-Fun-clause-term
lengthened-returns-in_ok-raised_head-in-Fun-clause-term t c =
    let s = plain_type c.args.ty.now in let head = term_at c.args.db.now c.args.head.place in
    let raised : ℕ → Term = λ n. raise n 0 head in
    let P : Term → Type 0 = λ x. IfOk c.filled.result (λ r. term_at c.filled.new.db r.place ≡ x) in
    subst P (ap (filled_form s) (c.in_ok-raised_head-in-Fun.ensures.term ∙ ap raised c.in_ok-count-in-Fun.ensures) ∙ sym (long_form_filled s head)) c.filled.ensures.term
