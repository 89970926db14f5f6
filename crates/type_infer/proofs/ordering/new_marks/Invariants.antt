use Rattle.std.proofs.Common.{◌≡◌, replicate}
use Rattle.type_infer.specs.declared.ordering.Mark.TheVariants.{New}
use Rattle.type_infer.proofs.ordering.new_marks.Given as goal

abbrev pub invariant-loop : goal.invariant-loop
invariant-loop l = l.marks.items ≡ replicate l.counter New
