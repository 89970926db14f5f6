use Rattle.hol_conv.proofs.Normals.{has_normal_form, one_normal_form, same_normal, same_values, normal_of_step, normal_of_long}
use Rattle.hol_conv.proofs.laws.normal_forms.Goals as goal

pub returns : goal.returns
returns c = record { has = has_normal_form; one = one_normal_form; convertible = same_normal; values = same_values; step = normal_of_step; long = normal_of_long }
