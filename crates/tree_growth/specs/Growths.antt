-- Trees as a search grows them, with the variables that are new in them. After Miller 1987.
use Rattle.std.specs.Prelude.{◌≡◌, ℕ, ◌+◌, ◌≤◌, List, [], ◌∷◌, ◌++◌, Bool, All, Contains, decimal, map}
use Rattle.hol_terms.specs.Terms.{SimpleType, Term, Variable}
use Rattle.expansion_tree.specs.Budgets.{Head, heads_of, variable_head}
use Rattle.expansion_tree.specs.Occurrences.{term_weight}
use Rattle.expansion_tree.specs.Standing.{Standing, StandingBranches, Stands, BranchesStand, selected_variables}
use Rattle.expansion_tree.specs.Trees.{ExpansionTree, plain_tree, ExpansionBranches, plain_branches}
use Rattle.grown_trees.specs.Growths.{AreBranchesGrown, AreGrown, IsBare, IsGrown}
use Rattle.term_lists.specs.Heads.{plain_head}
use Rattle.tree_growth.specs.declared.growths.Growth.{Growth}
use Rattle.tree_growth.specs.declared.growths.BranchGrowth.{BranchGrowth}
use Rattle.tree_growth.specs.declared.additions.Addition.{Addition}

-- the name a1, a2 and so on
abbrev pub numbered_name : ℕ → List ℕ
numbered_name n = 97 ∷ decimal n

-- the variables have numbered names that aren't taken: the numbers rise, from one on and below another
abbrev pub AreNamed : List (List ℕ) → ℕ → ℕ → List Variable → Type 0
AreNamed taken from end [] = from ≤ end
AreNamed taken from end (v ∷ vs) = (n : ℕ) × (from ≤ n) × (v.0 ≡ numbered_name n) × (Contains taken v.0 → ⊥) × AreNamed taken (n + 1) end vs

-- what is new in a grown tree: the variables, and the number from which on names aren't used yet
pub record New : Type 0 where
  pub selected : List Head
  pub next : ℕ

-- a tree with what is new in it, and branches with what is new in them
abbrev pub GrownTree : Type 0
GrownTree = ExpansionTree × New

abbrev pub GrownBranches : Type 0
GrownBranches = ExpansionBranches × New

abbrev pub plain_growth : Growth → GrownTree
plain_growth g = (plain_tree g.tree, record { selected = map plain_head g.selected.items; next = g.next })

abbrev pub plain_branch_growth : BranchGrowth → GrownBranches
plain_branch_growth g = (plain_branches g.branches, record { selected = map plain_head g.selected.items; next = g.next })

-- the tree b is bare, its variables are the new ones, and they have names from one number on
pub record HasNew (taken : List (List ℕ)) (from : ℕ) (b : Standing) (new : New) : Type 0 where
  pub bare : IsBare b
  pub selected : new.selected ≡ map variable_head (selected_variables b)
  pub named : AreNamed taken from new.next (selected_variables b)

-- g is a bare tree at the formula a, of polarity p
abbrev pub IsBareGrowth : List (List ℕ) → ℕ → Bool → Term → GrownTree → Type 0
IsBareGrowth taken from p a g = (s : Standing) × Stands p a g.0 s × HasNew taken from s g.1

-- which branches may be added, and how their variables are named: the term has exactly the weight, and heads of the list; the names
-- aren't taken, and have numbers from one on
pub record Allowance : Type 0 where
  pub taken : List (List ℕ)
  pub heads : List Head
  pub weight : ℕ
  pub from : ℕ

abbrev pub plain_addition : Addition → Allowance
plain_addition d = record { taken = d.taken.now; heads = map plain_head d.signature.now ++ map plain_head d.selected.now; weight = d.weight; from = d.next }

pub record IsAllowed (d : Allowance) (u : Term) : Type 0 where
  pub weighs : term_weight u ≡ d.weight
  pub over : All (Contains d.heads) (heads_of u)

-- g, at the formula a of polarity p, is the tree s with one more branch, which is allowed and whose tree is bare
pub record IsExtension (d : Allowance) (p : Bool) (a : Term) (s : Standing) (g : GrownTree) : Type 0 where
  pub term : Term
  pub allowed : IsAllowed d term
  pub inner : Standing
  pub standing : Standing
  pub grown : IsGrown term inner s standing
  pub stands : Stands p a g.0 standing
  pub new : HasNew d.taken d.from inner g.1

-- g is the extension of s that t is, with the term u and the tree b, but for the names in b
pub record IsNamesake (d : Allowance) (p : Bool) (a : Term) (s : Standing) (u : Term) (b t : Standing) (g : GrownTree) : Type 0 where
  pub inner : Standing
  pub standing : Standing
  pub grown : AreGrown u inner b s standing t
  pub stands : Stands p a g.0 standing
  pub new : HasNew d.taken d.from inner g.1

-- The trees gs, at the formula a of polarity p, are the tree of s with one more branch, which is allowed and whose tree is bare; and of each
-- such tree there is a namesake among them.
pub record AreExtensions (d : Allowance) (p : Bool) (a : Term) (s : Standing) (gs : List GrownTree) : Type 0 where
  pub each : All (IsExtension d p a s) gs
  pub all :
      (u : Term) (b t : Standing) (tree : ExpansionTree) → IsAllowed d u → IsGrown u b s t → IsBare b → Stands p a tree t
      → (g : GrownTree) × Contains gs g × IsNamesake d p a s u b t g

-- the same of branches, at the body a over a variable of type ty
pub record IsBranchExtension (d : Allowance) (p : Bool) (ty : SimpleType) (a : Term) (ns : StandingBranches) (g : GrownBranches) : Type 0 where
  pub term : Term
  pub allowed : IsAllowed d term
  pub inner : Standing
  pub standing : StandingBranches
  pub grown : AreBranchesGrown term inner inner ns standing standing
  pub stands : BranchesStand p ty a g.0 standing
  pub new : HasNew d.taken d.from inner g.1

pub record IsBranchNamesake (d : Allowance) (p : Bool) (ty : SimpleType) (a : Term) (ns : StandingBranches) (u : Term) (b : Standing) (ms : StandingBranches) (g : GrownBranches) : Type 0 where
  pub inner : Standing
  pub standing : StandingBranches
  pub grown : AreBranchesGrown u inner b ns standing ms
  pub stands : BranchesStand p ty a g.0 standing
  pub new : HasNew d.taken d.from inner g.1

pub record AreBranchExtensions (d : Allowance) (p : Bool) (ty : SimpleType) (a : Term) (ns : StandingBranches) (gs : List GrownBranches) : Type 0 where
  pub each : All (IsBranchExtension d p ty a ns) gs
  pub all :
      (u : Term) (b : Standing) (ms : StandingBranches) (bs : ExpansionBranches) → IsAllowed d u → AreBranchesGrown u b b ns ms ms → IsBare b → BranchesStand p ty a bs ms
      → (g : GrownBranches) × Contains gs g × IsBranchNamesake d p ty a ns u b ms g
