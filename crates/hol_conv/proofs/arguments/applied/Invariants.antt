use Rattle.std.proofs.Common.{◌≡◌, length}
use Rattle.hol_terms.specs.Terms.{plain_term}
use Rattle.hol_conv.specs.NormalForms.{apply_all}
use Rattle.hol_conv.proofs.arguments.applied.Given as goal

abbrev pub decreases-loop-argument : goal.decreases-loop-argument
decreases-loop-argument l = length l.arguments

abbrev pub invariant-loop-argument : goal.invariant-loop-argument
invariant-loop-argument l = apply_all (plain_term l.function) l.arguments ≡ apply_all (plain_term l.initial.function) l.initial.arguments
