use Rattle.std.proofs.Common.{Err, ap, codes}
use Rattle.term_lists.proofs.Filling.{fill_bytes, fill_from_bytes, fill_is_name}
use Rattle.term_lists.proofs.signatures.fill_name.Goals as goal

pub unreachable-requires : goal.unreachable-requires
unreachable-requires c = c.in-Err-NotAName.ensures.not_a_name (ap Err c.in-Err-NotAName.field-0-is) (codes "FILL") fill_bytes fill_is_name

pub returns-in-Ok : goal.returns-in-Ok
returns-in-Ok c = fill_from_bytes c.in-Ok.name c.in-Ok.ensures.ok.0
