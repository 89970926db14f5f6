use Rattle.std.proofs.Common.{◌≡◌}
use Rattle.std.specs.List.{AllByRecursion}
use Rattle.expansion_tree.specs.Trees.{plain_branches}
use Rattle.refutations.specs.Opens.{branch_occurrence_total, terms_below}
use Rattle.refutations.proofs.Adding.{AreFound}
use Rattle.refutations.proofs.Finding.{IsOutside}
use Rattle.refutations.proofs.spread.find_terms.Given as goal

-- the terms that were found, with those of the branches that are left, and none of these is there
abbrev pub invariant-loop-rest : goal.invariant-loop-rest
invariant-loop-rest l = record {
  found : AreFound l.fn.case.fronts.entries l.case.fronts.entries l.fn.node.positive l.fn.node.line l.place (plain_branches l.rest)
      (terms_below l.fn.node.positive l.fn.node.line l.fn.place (plain_branches l.fn.branches));
  unfound : AllByRecursion (IsOutside l.place.occurrences (branch_occurrence_total (plain_branches l.rest))) l.case.fronts.entries;
  splits : l.case.splits ≡ l.fn.case.splits;
  held : l.case.held ≡ l.fn.case.held;
  duties : l.case.duties ≡ l.fn.case.duties;
}
