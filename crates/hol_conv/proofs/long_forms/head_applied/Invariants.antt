use Rattle.std.proofs.Common.{◌≡◌, length}
use Rattle.hol_terms.specs.Terms.{plain_term, plain_type}
use Rattle.hol_conv.specs.NormalForms.{long_head}
use Rattle.hol_conv.proofs.long_forms.head_applied.Given as goal

abbrev pub decreases-loop-argument : goal.decreases-loop-argument
decreases-loop-argument l = length l.arguments

abbrev pub invariant-loop-argument : goal.invariant-loop-argument
invariant-loop-argument l =
    long_head (plain_type l.ty) (plain_term l.head) l.arguments ≡ long_head (plain_type l.initial.ty) (plain_term l.initial.head) l.initial.arguments
