use Rattle.std.proofs.Common.{◌≡◌, length}
use Rattle.hol_terms.specs.Terms.{plain_type}
use Rattle.hol_conv.specs.NormalForms.{long_head}
use Rattle.terms_db.specs.Stores.{Grows, IsLive, term_at}
use Rattle.beta_eta.specs.Listed.{AreLive, terms_at}
use Rattle.beta_eta.proofs.long_forms.head_applied.Given as goal

abbrev pub decreases-loop-argument : goal.decreases-loop-argument
decreases-loop-argument l = length l.arguments

abbrev pub invariant-loop-argument : goal.invariant-loop-argument
invariant-loop-argument l = record {
  kept : Grows l.initial.db l.db;
  head : IsLive l.db l.head.place;
  arguments : AreLive l.db l.arguments;
  term : long_head (plain_type l.ty) (term_at l.db l.head.place) (terms_at l.db l.arguments) ≡ long_head (plain_type l.initial.ty) (term_at l.initial.db l.initial.head.place) (terms_at l.initial.db l.initial.arguments);
}
