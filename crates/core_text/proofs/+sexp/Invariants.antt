use Rattle.std.proofs.Common.{◌≤◌}
use Rattle.core_text.specs.declared.sexps.Sexps.{size-Sexps}
use Rattle.core_text.proofs.+sexp.Given as goal

-- what is left is no larger than all
abbrev pub invariant-sexps::Sexps::drop-loop-self : goal.invariant-sexps::Sexps::drop-loop-self
invariant-sexps::Sexps::drop-loop-self l = size-Sexps l.self ≤ size-Sexps l.fn.self
