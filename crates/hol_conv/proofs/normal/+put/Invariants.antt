use Rattle.std.proofs.Common.{◌+◌, []}
use Rattle.hol_terms.specs.Terms.{plain_type, plain_term}
use Rattle.hol_terms.specs.Indices.{raise}
use Rattle.hol_conv.specs.NormalForms.{apply_long}
use Rattle.hol_conv.proofs.Heights.{put_long_height, apply_long_height}
use Rattle.hol_conv.proofs.normal.+put.Given as goal

abbrev pub decreases-put_in_long : goal.decreases-put_in_long
decreases-put_in_long l = put_long_height (apply_long (plain_type l.ty.now)) (apply_long_height (plain_type l.ty.now)) l.at (plain_term l.by.now) (plain_term l.t.now) l.arguments

abbrev pub decreases-long_applied : goal.decreases-long_applied
decreases-long_applied l = apply_long_height (plain_type l.ty.now) (plain_term l.function) l.arguments

abbrev pub decreases-instance_of_long : goal.decreases-instance_of_long
decreases-instance_of_long l = put_long_height (apply_long (plain_type l.ty.now)) (apply_long_height (plain_type l.ty.now)) 0 (plain_term l.argument) (plain_term l.body) [] + 1

abbrev pub decreases-put_for_index : goal.decreases-put_for_index
decreases-put_for_index l = apply_long_height (plain_type l.ty.now) (raise l.at 0 (plain_term l.by.now)) l.arguments + 1
