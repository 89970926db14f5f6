use Rattle.std.proofs.Common.{map, take}
use Rattle.hol_terms.specs.Terms.{plain_term}
use Rattle.tree_growth.specs.Growths.{plain_growth}
use Rattle.plain_search.specs.Searching.{HasNoProof}
use Rattle.plain_search.proofs.search.first_proof.Given as goal

abbrev pub invariant-loop-growth : goal.invariant-loop-growth
invariant-loop-growth l = HasNoProof (plain_term l.formula) (map plain_growth (take l.growth-index l.growths))
