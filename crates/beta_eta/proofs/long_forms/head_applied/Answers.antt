-- One more argument is applied.
use Rattle.std.proofs.Common.{ℕ, List, ap, ap₂, sym, subst, ◌∙◌}
use Rattle.hol_terms.specs.Terms.{SimpleType, plain_type}
use Rattle.hol_conv.specs.NormalForms.{long_head, type_after_argument}
use Rattle.terms_db.specs.Stores.{term_at}
use Rattle.terms_db.proofs.StoreLaws.{grows_on}
use Rattle.beta_eta.specs.Listed.{AreLive, terms_at}
use Rattle.beta_eta.proofs.Growing.{live_kept, terms_kept}
use Rattle.beta_eta.proofs.long_forms.head_applied.Goals as goal

pub loop-argument-preserved : goal.loop-argument-preserved
loop-argument-preserved c =
    let old = c.loop-argument.db in let new = c.application.new.self in let rest = c.take_first.new.self in
    let split = c.in-Some.ensures in
    let live = subst (AreLive old) split c.loop-argument.invariant.arguments in
    let grows = c.in_ok-head.ensures.kept in
    let s = plain_type c.loop-argument.ty.now in
    let first = long_head s (term_at old c.loop-argument.head.place) in
    record {
      kept = grows_on c.args.db.now old new c.loop-argument.invariant.kept grows;
      head = c.in_ok-head.ensures.live;
      arguments = live_kept old new rest grows live.1;
      term = ap (λ (q : SimpleType). long_head q (term_at new c.in_ok-head.head.place) (terms_at new rest)) c.after_argument-ty.ensures
          ∙ (ap₂ (long_head (type_after_argument s)) c.in_ok-head.ensures.term (terms_kept old new rest grows live.1)
          ∙ (sym (ap (λ (l : List ℕ). first (terms_at old l)) split) ∙ c.loop-argument.invariant.term));
    }
