use Rattle.std.proofs.Common.{take}
use Rattle.std.specs.Prelude.{All}
use Rattle.hol_terms.specs.Terms.{plain_type}
use Rattle.nd_rules.specs.Lines.{plain_line}
use Rattle.nd_rules.specs.Variables.{IsFreeAt}
use Rattle.nd_rules.proofs.variables.first_free.Given as goal

abbrev pub invariant-loop-n : goal.invariant-loop-n
invariant-loop-n l = All (λ n. IsFreeAt l.outline (plain_line l.line) l.variable.name.now (plain_type l.variable.ty.now) n → ⊥) (take l.n-index l.numbers)
