use Rattle.std.proofs.Common.{◌+◌}
use Rattle.hol_terms.specs.Terms.{plain_type}
use Rattle.hol_conv.proofs.LongForms.{twice_size}
use Rattle.beta_eta.proofs.long_forms.+long_form.Given as goal

abbrev pub decreases-filled : goal.decreases-filled
decreases-filled l = twice_size (plain_type l.ty.now)

abbrev pub decreases-lengthened : goal.decreases-lengthened
decreases-lengthened l = twice_size (plain_type l.ty.now) + 1
