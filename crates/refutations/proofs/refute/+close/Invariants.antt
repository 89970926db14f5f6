use Rattle.std.proofs.Common.{◌∷◌, ◌+◌, ◌*◌, ◌-◌, ℕ, [], List, length}
use Rattle.nd_steps.specs.Deductions.{Grows, IsDeduction}
use Rattle.refutations.specs.Opens.{all_unwritten, open_node}
use Rattle.refutations.specs.States.{HasMore, GoesOn, IsState, opens_of, room}
use Rattle.refutations.proofs.refute.+close.Given as goal

-- five times the number of nodes without a line, and more for those who call others at the same number

abbrev pub decreases-close : goal.decreases-close
decreases-close l = 5 * all_unwritten (open_node l.node ∷ opens_of l.reading.now.accepted.now.order l.done l.case.now) + 4

abbrev pub decreases-reach : goal.decreases-reach
decreases-reach l = 5 * all_unwritten (open_node l.node ∷ opens_of l.reading.now.accepted.now.order l.done l.case.now) + 3

abbrev pub decreases-go_on : goal.decreases-go_on
decreases-go_on l = 5 * all_unwritten (opens_of l.reading.now.accepted.now.order l.done l.case.now) + 2

abbrev pub decreases-step : goal.decreases-step
decreases-step l = 5 * all_unwritten (opens_of l.reading.now.accepted.now.order l.done l.case.now) + 1

abbrev pub decreases-split : goal.decreases-split
decreases-split l = 5 * all_unwritten (open_node l.node ∷ opens_of l.reading.now.accepted.now.order l.done l.case.now)

-- the case goes on from where it began
abbrev pub invariant-go_on-loop-stepped : goal.invariant-go_on-loop-stepped
invariant-go_on-loop-stepped l = record {
  goes_on : (hyps : List ℕ) → IsState l.reading.accepted.now l.fn.deduction l.fn.case hyps [] l.fn.done
      → GoesOn l.reading.accepted.now l.fn.deduction l.fn.case l.deduction l.case hyps [] l.done (room (opens_of l.reading.accepted.now.order l.fn.done l.fn.case)) (all_unwritten (opens_of l.reading.accepted.now.order l.fn.done l.fn.case));
  grown : Grows l.fn.deduction l.deduction;
  more : HasMore l.fn.case l.case;
  deduction : IsDeduction l.deduction;
}

abbrev pub decreases-go_on-loop-stepped : goal.decreases-go_on-loop-stepped
decreases-go_on-loop-stepped l = all_unwritten (opens_of l.reading.accepted.now.order l.done l.case) + (length l.reading.accepted.now.order - l.done)
