use Rattle.hol_terms.proofs.TypingLaws.{typed_once, typed_closed, weakening, substitution, typed_body}
use Rattle.hol_terms.proofs.laws.types.Goals as goal

pub returns : goal.returns
returns c = record { one = typed_once; closed = typed_closed; raised = weakening; put = substitution; body = typed_body }
