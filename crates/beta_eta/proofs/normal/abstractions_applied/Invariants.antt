use Rattle.std.proofs.Common.{◌≡◌, length}
use Rattle.hol_conv.specs.NormalForms.{apply_abstractions}
use Rattle.terms_db.specs.Stores.{Grows, IsLive, term_at}
use Rattle.beta_eta.specs.Listed.{AreLive, terms_at}
use Rattle.beta_eta.proofs.normal.abstractions_applied.Given as goal

abbrev pub decreases-loop-argument : goal.decreases-loop-argument
decreases-loop-argument l = length l.arguments

abbrev pub invariant-loop-argument : goal.invariant-loop-argument
invariant-loop-argument l = record {
  kept : Grows l.initial.db l.db;
  function : IsLive l.db l.function.place;
  arguments : AreLive l.db l.arguments;
  term : apply_abstractions (term_at l.db l.function.place) (terms_at l.db l.arguments) ≡ apply_abstractions (term_at l.initial.db l.initial.function.place) (terms_at l.initial.db l.initial.arguments);
}
