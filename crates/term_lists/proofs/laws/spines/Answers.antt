use Rattle.term_lists.proofs.SpineLaws.{long_by_body, long_by_head, weight_not_zero}
use Rattle.term_lists.proofs.laws.spines.Goals as goal

pub returns : goal.returns
returns c = record { body = long_by_body; head = long_by_head; some = weight_not_zero }
