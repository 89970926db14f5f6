-- Expansion proofs, and what keeps a formula, a tree and a mating from being one. After Miller 1987 and Andrews 1981.
use Rattle.std.specs.Prelude.{◌≡◌, Some, All, nat_eq}
use Rattle.std.specs.List.{IsDistinct}
use Rattle.hol_terms.specs.Typing.{IsFormula}
use Rattle.expansion_tree.specs.Faults.{IsTree, IsFirstFault}
use Rattle.expansion_tree.specs.Occurrences.{occurrences_of}
use Rattle.expansion_tree.specs.Standing.{Standing, leaves, paths, selections}
use Rattle.vertical_paths.specs.Matings.{IsGood, IsFirstBad, Spans, first_open}
use Rattle.dependency.specs.Graphs.{IsClosedChain}
use Rattle.dependency.specs.Dependencies.{Before, IsAcyclic}
use Rattle.proof_text.specs.Texts.{Proof}
use Rattle.exp_check.specs.declared.faults.CheckFault.{CheckFault}
use Rattle.exp_check.specs.declared.faults.CheckFault.TheVariants.{Memory, Fit, BadPair, Cycle, OpenPath}

-- The tree is an expansion tree of the formula and stands in this way; each pair of the mating is good; no occurrence depends on itself
-- in a circle; and the mating spans: each path holds both leaves of some pair.
pub record IsProofAs (p : Proof) (s : Standing) : Type 0 where
  pub formula : IsFormula p.formula
  pub is_tree : IsTree p.formula p.tree s
  pub good : All (IsGood (leaves s)) p.mating
  pub acyclic : IsAcyclic (occurrences_of p.tree) (selections s)
  pub spans : Spans p.mating (paths s)

-- an expansion proof
abbrev pub IsProof : Proof → Type 0
IsProof p = (s : Standing) × IsProofAs p s

-- the tree is an expansion tree of the formula, and each pair of the mating is good
abbrev pub IsMatedTree : Proof → Standing → Type 0
IsMatedTree p s = IsTree p.formula p.tree s × All (IsGood (leaves s)) p.mating

-- What is wrong first: the tree; then the first pair that isn't good; then a closed chain of occurrences, none of them twice; then
-- the first path that holds no pair. Want of memory is free.
abbrev pub IsFirstCheckFault : Proof → CheckFault → Type 0
IsFirstCheckFault p Memory = Unit {0}
IsFirstCheckFault p (Fit fault) = IsFirstFault p.formula p.tree fault
IsFirstCheckFault p (BadPair k) = (s : Standing) × IsTree p.formula p.tree s × IsFirstBad (leaves s) p.mating k
IsFirstCheckFault p (Cycle chain) =
    (s : Standing) × IsMatedTree p s × IsClosedChain (Before (occurrences_of p.tree) (selections s)) chain × IsDistinct nat_eq chain
IsFirstCheckFault p (OpenPath path) =
    (s : Standing) × IsMatedTree p s × IsAcyclic (occurrences_of p.tree) (selections s) × (first_open p.mating (paths s) ≡ Some path)
