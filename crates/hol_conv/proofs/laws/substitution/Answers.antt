use Rattle.hol_conv.proofs.Normals.{normal_instance, normal_instance_variable, normal_renamed, normal_replace_free, normal_replacements_commute}
use Rattle.hol_conv.proofs.laws.substitution.Goals as goal

pub returns : goal.returns
returns c = record {
  instance = normal_instance;
  variable = normal_instance_variable;
  renamed = normal_renamed;
  replaced = normal_replace_free;
  commute = normal_replacements_commute;
}
