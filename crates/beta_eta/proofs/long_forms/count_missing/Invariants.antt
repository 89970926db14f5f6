use Rattle.std.proofs.Common.{◌+◌, ◌≡◌}
use Rattle.hol_terms.specs.Terms.{plain_type}
use Rattle.hol_conv.specs.LongForms.{missing_arguments}
use Rattle.beta_eta.proofs.long_forms.count_missing.Given as goal

abbrev pub decreases-loop-rest : goal.decreases-loop-rest
decreases-loop-rest l = missing_arguments (plain_type l.rest)

abbrev pub invariant-loop-rest : goal.invariant-loop-rest
invariant-loop-rest l = l.count + missing_arguments (plain_type l.rest) ≡ missing_arguments (plain_type l.ty)
