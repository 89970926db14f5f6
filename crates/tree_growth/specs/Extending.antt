-- The extensions of a tree by one more branch.
use Rattle.std.specs.Prelude.{◌≡◌, Bool, List, [], ◌∷◌}
use Rattle.hol_terms.specs.Indices.{instance_of}
use Rattle.hol_terms.specs.Terms.{SimpleType, Term}
use Rattle.expansion_tree.specs.Standing.{BranchesStand, IsNormalFormula, Standing, StandingBranches, Stands}
use Rattle.expansion_tree.specs.Trees.{ExpansionTree, ExpansionBranches, branch, no_branch}
use Rattle.tree_growth.specs.Growths.{Allowance, AreBranchExtensions, AreExtensions, GrownBranches, GrownTree, IsBareGrowth}

-- the trees are the extensions of the tree t, as it stands at the formula a of polarity p
abbrev pub Extend : Allowance → Bool → Term → ExpansionTree → List GrownTree → Type 0
Extend d p a t gs = (s : Standing) → Stands p a t s → AreExtensions d p a s gs

abbrev pub ExtendBranches : Allowance → Bool → SimpleType → Term → ExpansionBranches → List GrownBranches → Type 0
ExtendBranches d p ty b bs gs = (ns : StandingBranches) → BranchesStand p ty b bs ns → AreBranchExtensions d p ty b ns gs

-- g is the one branch of the term u, with a bare tree
abbrev pub IsNewBranch : Allowance → Bool → SimpleType → Term → Term → GrownBranches → Type 0
IsNewBranch d p ty b u g =
    (a : Term) × IsNormalFormula a (instance_of b u) × (h : GrownTree) × IsBareGrowth d.taken d.from p a h × (g ≡ (branch u h.0 no_branch, h.1))

-- the one branch of each term, in their order
abbrev pub AreNewBranches : Allowance → Bool → SimpleType → Term → List Term → List GrownBranches → Type 0
AreNewBranches d p ty b [] gs = gs ≡ []
AreNewBranches d p ty b (u ∷ us) gs = (g : GrownBranches) × (rest : List GrownBranches) × (gs ≡ g ∷ rest) × IsNewBranch d p ty b u g × AreNewBranches d p ty b us rest
