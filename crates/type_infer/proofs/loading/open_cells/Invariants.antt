use Rattle.std.proofs.Common.{◌≡◌, replicate}
use Rattle.type_infer.specs.declared.cells.Cell.TheVariants.{Open}
use Rattle.type_infer.proofs.loading.open_cells.Given as goal

abbrev pub invariant-loop : goal.invariant-loop
invariant-loop l = l.cells.items ≡ replicate l.counter Open
