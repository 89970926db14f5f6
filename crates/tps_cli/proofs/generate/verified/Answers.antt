use Rattle.tps_cli.proofs.Formulas.{fails}
use Rattle.tps_cli.proofs.generate.verified.Goals as goal

pub unreachable-requires : goal.unreachable-requires
unreachable-requires c =
    c.in-Err.ensures.refused (fails c.wanted_memory.result c.if-wanted_memory.false c.wanted_memory.ensures) c.args.accepted.now.fitted.formula c.in_ok-outline.ensures.derivation
