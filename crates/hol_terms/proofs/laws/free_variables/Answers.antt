use Rattle.hol_terms.proofs.FirstOccurrences.{once, in_order}
use Rattle.hol_terms.proofs.FreeLaws.{free-put, free_variables-contains}
use Rattle.hol_terms.proofs.TypingLaws.{one_body}
use Rattle.hol_terms.proofs.laws.free_variables.Goals as goal

pub returns : goal.returns
returns c = record { instance = free-put; list = free_variables-contains; once = once; order = in_order; body = one_body }
