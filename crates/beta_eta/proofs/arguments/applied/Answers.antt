-- One more argument is applied.
use Rattle.std.proofs.Common.{ℕ, List, ap, ap₂, sym, subst, ◌∙◌}
use Rattle.hol_conv.specs.NormalForms.{apply_all}
use Rattle.terms_db.specs.Stores.{term_at}
use Rattle.terms_db.proofs.StoreLaws.{grows_on}
use Rattle.beta_eta.specs.Listed.{AreLive, terms_at}
use Rattle.beta_eta.proofs.Growing.{live_kept, terms_kept}
use Rattle.beta_eta.proofs.arguments.applied.Goals as goal

pub loop-argument-preserved : goal.loop-argument-preserved
loop-argument-preserved c =
    let old = c.loop-argument.db in let new = c.application.new.self in let rest = c.take_first.new.self in
    let split = c.in-Some.ensures in
    let live = subst (AreLive old) split c.loop-argument.invariant.arguments in
    let grows = c.in_ok-function.ensures.kept in
    let first = apply_all (term_at old c.loop-argument.function.place) in
    record {
      kept = grows_on c.args.db.now old new c.loop-argument.invariant.kept grows;
      function = c.in_ok-function.ensures.live;
      arguments = live_kept old new rest grows live.1;
      term = ap₂ apply_all c.in_ok-function.ensures.term (terms_kept old new rest grows live.1)
          ∙ (sym (ap (λ (l : List ℕ). first (terms_at old l)) split) ∙ c.loop-argument.invariant.term);
    }
