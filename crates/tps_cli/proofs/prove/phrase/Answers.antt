use Rattle.tps_cli.proofs.Formulas.{fails}
use Rattle.tps_cli.proofs.prove.phrase.Goals as goal

pub returns-else-text_wants_memory-clause-found : goal.returns-else-text_wants_memory-clause-found
returns-else-text_wants_memory-clause-found c =
    c.in-Err.ensures.none (fails c.text_wants_memory.result c.if-text_wants_memory.false c.text_wants_memory.ensures)
