use Rattle.std.proofs.Common.{length}
use Rattle.nd_steps.specs.Deductions.{IsDeduction}
use Rattle.refutations.proofs.Discharging.{OwesAlways}
use Rattle.refutations.proofs.refute.discharge_to.Given as goal

-- FALSEHOOD is proved with the duties that are left
abbrev pub invariant-loop-alloc : goal.invariant-loop-alloc
invariant-loop-alloc l = record {
  deduction : IsDeduction l.deduction;
  owes : OwesAlways l.fn.deduction l.deduction l.fn.duties.items l.count l.fn.line l.duties.items l.line;
}

abbrev pub decreases-loop-alloc : goal.decreases-loop-alloc
decreases-loop-alloc l = length l.duties.items
