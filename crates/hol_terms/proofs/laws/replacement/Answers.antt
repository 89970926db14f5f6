use Rattle.hol_terms.proofs.Replacing.{typed-replace_free, replace_free-replace_free, replace_free-not_free, instance_of_body}
use Rattle.hol_terms.proofs.laws.replacement.Goals as goal

pub returns : goal.returns
returns c = record { typed = typed-replace_free; commute = replace_free-replace_free; not_free = replace_free-not_free; instance = instance_of_body }
