use Rattle.std.proofs.Common.{◌≡◌, take}
use Rattle.nd_rules.specs.Lines.{plain_line}
use Rattle.nd_rules.specs.Rules.{formulas_of}
use Rattle.nd_rules.proofs.justifying.premises_of.Given as goal

abbrev pub invariant-loop-n : goal.invariant-loop-n
invariant-loop-n l = l.premises ≡ formulas_of l.outline (plain_line l.line) (take l.n-index l.sources)
