use Rattle.std.proofs.Common.{◌≡◌, map, take}
use Rattle.expansion_tree.specs.Counted.{plain_occurrence}
use Rattle.expansion_tree.specs.Occurrences.{weight_of_all}
use Rattle.expansion_tree.proofs.occurrences.weight_of_occurrences.Given as goal

abbrev pub invariant-loop-occurrence : goal.invariant-loop-occurrence
invariant-loop-occurrence l = l.total ≡ weight_of_all (map plain_occurrence (take l.occurrence-index l.occurrences))
