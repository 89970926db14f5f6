-- Where a search stands: which trees it has tried.
use Rattle.std.specs.Prelude.{◌≡◌, ◌<◌, ℕ, List, Contains}
use Rattle.hol_terms.specs.Terms.{Term}
use Rattle.exp_check.specs.Accepted.{AcceptedProof, IsAccepted}
use Rattle.tree_growth.specs.Growths.{GrownTree}
use Rattle.plain_search.specs.Levels.{trees_at}
use Rattle.plain_search.specs.Trials.{CanBeMated}

-- none of the trees can be mated
abbrev pub HasNoProof : Term → List GrownTree → Type 0
HasNoProof formula cs = (c : GrownTree) → Contains cs c → CanBeMated formula c.0 → ⊥

-- an expansion proof of the formula that has one of the trees
pub record IsProofAmong (formula : Term) (cs : List GrownTree) (a : AcceptedProof) : Type 0 where
  pub accepted : IsAccepted a
  pub of : a.fitted.formula ≡ formula
  pub found : GrownTree
  pub there : Contains cs found
  pub tree : a.fitted.tree ≡ found.0

-- no tree of a weight below that one can be mated
abbrev pub HasNoLighterProof : Term → List (List GrownTree) → ℕ → Type 0
HasNoLighterProof formula levels weight = (w : ℕ) → w < weight → HasNoProof formula (trees_at levels w)
