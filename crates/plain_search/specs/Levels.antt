-- The trees of a search, by their weight.
use Rattle.std.specs.Prelude.{◌≡◌, ◌↔◌, ◌<◌, ◌≤◌, ℕ, ◌+◌, ◌++◌, ◌⊎◌, List, [], Bool, All, Contains, length, map, slice_index_or, Vec}
use Rattle.std.specs.declared.alloc.Global.{Global}
use Rattle.hol_terms.specs.Terms.{Term, Variable}
use Rattle.dependency.specs.Stages.{IsInOrder, Stage, StagedTree, stages, standing_of}
use Rattle.expansion_tree.specs.Budgets.{Head, HasVariableHead, IsSelected}
use Rattle.expansion_tree.specs.Faults.{IsTree}
use Rattle.expansion_tree.specs.Occurrences.{term_weight, tree_weight}
use Rattle.expansion_tree.specs.Standing.{Standing, leaves, selected_variables}
use Rattle.expansion_tree.specs.Trees.{ExpansionTree}
use Rattle.grown_trees.specs.Growths.{AreGrown, IsBare, IsGrown}
use Rattle.grown_trees.specs.Targets.{AreNoFill, IsOverHeads}
use Rattle.tree_growth.specs.Growths.{GrownTree, numbered_name, plain_growth}
use Rattle.tree_growth.specs.declared.growths.Growth.{Growth}

-- the name of the variable has a number below that one
abbrev pub IsNumberedBelow : ℕ → Variable → Type 0
IsNumberedBelow next v = (n : ℕ) × (n < next) × (v.0 ≡ numbered_name n)

-- A tree as a search keeps it: an expansion tree of the formula, of this weight, whose branches are added in order; its terms are over the
-- signature and the variables selected in it, and its leaves have variables as heads; what it selects is listed, and has numbered names.
pub record IsCandidate (formula : Term) (level weight : ℕ) (c : GrownTree) : Type 0 where
  pub staged : StagedTree
  pub is_tree : IsTree formula c.0 (standing_of staged)
  pub in_order : IsInOrder staged
  pub atoms : All (λ (leaf : Bool × Term). HasVariableHead leaf.1) (leaves (standing_of staged))
  pub heads : All (λ (x : Stage). IsOverHeads formula level (selected_variables (standing_of staged)) x.term) (stages 0 staged)
  pub weighs : tree_weight c.0 ≡ weight
  pub selected : (h : Head) → Contains c.1.selected h ↔ IsSelected (selected_variables (standing_of staged)) h
  pub named : All (IsNumberedBelow c.1.next) (selected_variables (standing_of staged))

-- what is selected first, before what is new in the tree
abbrev pub with_selected : List Head → GrownTree → GrownTree
with_selected selected e = (e.0, record { selected = selected ++ e.1.selected; next = e.1.next })

-- c is a candidate without a branch
abbrev pub IsBareCandidate : Term → ℕ → GrownTree → Type 0
IsBareCandidate formula level c = IsCandidate formula level 0 c × ((s : Standing) → IsTree formula c.0 s → IsBare s)

-- of each tree that is c with one more branch, whose term has the weight and is over the signature and what c selects, and whose tree is
-- bare, there is a namesake among the trees
abbrev pub HasGrown : Term → ℕ → GrownTree → ℕ → List GrownTree → Type 0
HasGrown formula level c weight es =
    (s : Standing) (u : Term) (b t : Standing) (tree : ExpansionTree) → IsTree formula c.0 s → IsGrown u b s t → IsBare b → IsTree formula tree t
    → IsOverHeads formula level (selected_variables s) u → term_weight u ≡ weight
    → (e : GrownTree) × Contains es e × (inner : Standing) × (r : Standing) × AreGrown u inner b s r t × IsTree formula e.0 r × IsBare inner × AreNoFill (selected_variables r)

-- The second list has the trees of the first one, and no others but candidates that come of one of cs by one more branch of the weight; and
-- of each tree that comes of one of them so it has a namesake.
pub record HasAllGrown (formula : Term) (level : ℕ) (cs : List GrownTree) (weight : ℕ) (old new : List GrownTree) : Type 0 where
  pub kept : (e : GrownTree) → Contains old e → Contains new e
  pub candidates : (w : ℕ) → All (IsCandidate formula level w) cs → (e : GrownTree) → Contains new e → Contains old e ⊎ IsCandidate formula level (w + weight) e
  pub grown : (c : GrownTree) → Contains cs c → HasGrown formula level c weight new

-- the trees of a weight, in lists from weight 0 on
abbrev pub trees_at : List (List GrownTree) → ℕ → List GrownTree
trees_at levels weight = slice_index_or levels weight []

-- Lists of trees by their weight, from 0 on: a bare tree is among the first ones, each tree is a candidate, and of each tree that comes of
-- one by one more branch there is a namesake, where there is a list for its weight.
pub record AreLevels (formula : Term) (level : ℕ) (levels : List (List GrownTree)) : Type 0 where
  pub first : (c : GrownTree) × Contains (trees_at levels 0) c × ((s : Standing) → IsTree formula c.0 s → IsBare s)
  pub candidates : (w : ℕ) (c : GrownTree) → Contains (trees_at levels w) c → IsCandidate formula level w c
  pub grown : (w v : ℕ) (c : GrownTree) → Contains (trees_at levels w) c → 1 ≤ v → w + v < length levels → HasGrown formula level c v (trees_at levels (w + v))

-- lists of trees as lists of plain trees
abbrev pub plain_levels : List (Vec Growth Global) → List (List GrownTree)
plain_levels rows = map (λ (row : Vec Growth Global). map plain_growth row.items) rows
