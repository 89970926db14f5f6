use Rattle.std.proofs.Common.{take, Contains}
use Rattle.std.specs.List.{AllByRecursion}
use Rattle.refutations.specs.Cases.{leaves_of}
use Rattle.refutations.proofs.spread.mated_line.Given as goal

-- none of the partners so far is held
abbrev pub invariant-loop-partner : goal.invariant-loop-partner
invariant-loop-partner l = AllByRecursion (λ partner. Contains (leaves_of l.held.entries) partner → ⊥) (take l.partner-index l.partners)
