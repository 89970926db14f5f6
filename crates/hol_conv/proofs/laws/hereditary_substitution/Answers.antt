use Rattle.hol_conv.proofs.Normals.{put_of_long_form, put_in_long_form}
use Rattle.hol_conv.proofs.Commuting.{hereditary_commute}
use Rattle.hol_conv.proofs.laws.hereditary_substitution.Goals as goal

pub returns : goal.returns
returns c = record { commutes = hereditary_commute; of_long_form = put_of_long_form; in_long_form = put_in_long_form }
