use Rattle.std.proofs.Common.{◌≡◌, ◌++◌, map}
use Rattle.std.specs.Vec.Iter.{into_iter_items}
use Rattle.nd_rules.specs.Lines.{plain_line}
use Rattle.nd_check.proofs.texts.outline_of.Given as goal

-- the lines that were put in, and those that are left
abbrev pub invariant-loop-line : goal.invariant-loop-line
invariant-loop-line l = l.outline ++ map plain_line (into_iter_items l.line-iterator) ≡ map plain_line l.fn.lines.items
