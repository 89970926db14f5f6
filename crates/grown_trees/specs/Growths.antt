-- Expansion trees grown branch by branch: the tree without a branch, and trees with one more. After Miller 1987.
use Rattle.std.specs.Prelude.{◌≡◌, ◌⊎◌}
use Rattle.hol_terms.specs.Terms.{Term}
use Rattle.expansion_tree.specs.Budgets.{HasVariableHead}
use Rattle.expansion_tree.specs.Standing.{Standing, at_leaf, at_constant, at_negation, at_connective, at_selection, at_expansion, StandingBranches, none_standing, branch_standing}

-- a tree without a branch, each leaf of which has a variable as the head of its formula
abbrev pub IsBare : Standing → Type 0
IsBare (at_leaf p a) = HasVariableHead a
IsBare (at_constant p v) = Unit {0}
IsBare (at_negation n) = IsBare n
IsBare (at_connective op p m n) = IsBare m × IsBare n
IsBare (at_selection v n) = IsBare n
IsBare (at_expansion p ns) = ns ≡ none_standing

abbrev mutual
  -- t and t' are the tree s with one more branch, at the same place: after the others of an expansion node, with the term u, and with
  -- the tree b in t, b' in t'
  pub AreGrown : Term → Standing → Standing → Standing → Standing → Standing → Type 0
  AreGrown u b b' (at_leaf p a) t t' = ⊥
  AreGrown u b b' (at_constant p v) t t' = ⊥
  AreGrown u b b' (at_negation n) t t' = (m : Standing) × (m' : Standing) × AreGrown u b b' n m m' × (t ≡ at_negation m) × (t' ≡ at_negation m')
  AreGrown u b b' (at_connective op p m n) t t' =
      ((k : Standing) × (k' : Standing) × AreGrown u b b' m k k' × (t ≡ at_connective op p k n) × (t' ≡ at_connective op p k' n))
      ⊎ ((k : Standing) × (k' : Standing) × AreGrown u b b' n k k' × (t ≡ at_connective op p m k) × (t' ≡ at_connective op p m k'))
  AreGrown u b b' (at_selection v n) t t' = (m : Standing) × (m' : Standing) × AreGrown u b b' n m m' × (t ≡ at_selection v m) × (t' ≡ at_selection v m')
  AreGrown u b b' (at_expansion p ns) t t' =
      (ms : StandingBranches) × (ms' : StandingBranches) × AreBranchesGrown u b b' ns ms ms' × (t ≡ at_expansion p ms) × (t' ≡ at_expansion p ms')

  pub AreBranchesGrown : Term → Standing → Standing → StandingBranches → StandingBranches → StandingBranches → Type 0
  AreBranchesGrown u b b' none_standing ms ms' = (ms ≡ branch_standing u b none_standing) × (ms' ≡ branch_standing u b' none_standing)
  AreBranchesGrown u b b' (branch_standing w n ns) ms ms' =
      ((m : Standing) × (m' : Standing) × AreGrown u b b' n m m' × (ms ≡ branch_standing w m ns) × (ms' ≡ branch_standing w m' ns))
      ⊎ ((more : StandingBranches) × (more' : StandingBranches) × AreBranchesGrown u b b' ns more more'
      × (ms ≡ branch_standing w n more) × (ms' ≡ branch_standing w n more'))

-- t is the tree s with one more branch, after the others of an expansion node: the term u with the tree b
abbrev pub IsGrown : Term → Standing → Standing → Standing → Type 0
IsGrown u b s t = AreGrown u b b s t t
