-- What the walk that stands a tree at a formula finds.
use Rattle.std.specs.Prelude.{◌≡◌, ◌⊎◌, ℕ, ◌+◌, List, [], ◌∷◌, ◌++◌, length, map, Bool}
use Rattle.hol_terms.specs.Terms.{SimpleType, Term, Variable, plain_term, plain_type}
use Rattle.expansion_tree.specs.declared.faults.FitFault.{FitFault}
use Rattle.expansion_tree.specs.declared.faults.FitFault.TheVariants.{Memory, Misfit, BadTerm, BadVariable}
use Rattle.expansion_tree.specs.declared.found.Leaf.{Leaf}
use Rattle.expansion_tree.specs.declared.found.Selected.{Selected}
use Rattle.expansion_tree.specs.declared.found.Found.{Found}
use Rattle.expansion_tree.specs.declared.matrices.Matrix.{Matrix}
use Rattle.expansion_tree.specs.Trees.{ExpansionTree, ExpansionBranches, node_count, branch_node_count}
use Rattle.expansion_tree.specs.Matrices.{matrix_paths, joined, IsNumberedTo}
use Rattle.expansion_tree.specs.Standing.{Standing, StandingBranches, Stands, BranchesStand, leaves, branch_leaves, paths_from, branch_paths_from, Selection, selections_from, branch_selections_from, selected_variables, branch_selected_variables}
use Rattle.expansion_tree.specs.Faults.{AreNew}

-- a leaf's polarity and formula
abbrev pub plain_leaf : Leaf → Bool × Term
plain_leaf leaf = (leaf.positive, plain_term leaf.formula)

-- a selected variable with its node
abbrev pub plain_selection : Selected → Selection
plain_selection selected = record { node = selected.node; variable = (selected.name, plain_type selected.ty) }

-- the leaves and the selected variables that were found, and the variables that are taken
pub record Findings : Type 0 where
  pub leaf_list : List (Bool × Term)
  pub selection_list : List Selection
  pub taken : List Variable

abbrev pub findings_of : Found → Findings
findings_of found = record { leaf_list = map plain_leaf found.leaves.items; selection_list = map plain_selection found.selections.items; taken = found.taken }

-- the same with more leaves and selected variables
abbrev pub with_more : Findings → List (Bool × Term) → List Selection → List Variable → Findings
with_more old more_leaves more_selections more_taken = record {
  leaf_list = old.leaf_list ++ more_leaves;
  selection_list = old.selection_list ++ more_selections;
  taken = old.taken ++ more_taken;
}

-- nothing is changed, but that the variable may have come after those that are taken
abbrev pub MayHaveTaken : Findings → Findings → Variable → Type 0
MayHaveTaken old new v = (new ≡ old) ⊎ (new ≡ with_more old [] [] (v ∷ []))

-- The tree, whose root has the number node, was stood at the formula of polarity p: its leaves and its selected variables came after
-- the old ones, the matrix has its paths, and end is the number after those of its nodes.
pub record Stood (p : Bool) (a : Term) (tree : ExpansionTree) (node : ℕ) (old new : Findings) (matrix : Matrix) (end : ℕ) : Type 0 where
  pub standing : Standing
  pub stands : Stands p a tree standing
  pub fresh : AreNew old.taken (selected_variables standing)
  pub added : new ≡ with_more old (leaves standing) (selections_from node standing) (selected_variables standing)
  pub path_list : matrix_paths matrix ≡ paths_from (length old.leaf_list + 1) standing
  pub numbered : IsNumberedTo (length new.leaf_list) matrix
  pub counted : end ≡ node + node_count tree

-- each path of the first matrix joined with each of the second and so on, and with each of the given ones at the end
abbrev pub all_joined : List Matrix → List (List ℕ) → List (List ℕ)
all_joined [] qs = qs
all_joined (m ∷ ms) qs = joined (matrix_paths m) (all_joined ms qs)

-- each leaf number of each matrix is from 1 to n
abbrev pub AreNumberedTo : ℕ → List Matrix → Type 0
AreNumberedTo n [] = Unit {0}
AreNumberedTo n (m ∷ ms) = IsNumberedTo n m × AreNumberedTo n ms

-- The same of branches at the body b over a variable of type ty, the first of which has the number at: each has its matrix.
pub record BranchesStood (p : Bool) (ty : SimpleType) (b : Term) (bs : ExpansionBranches) (at : ℕ) (old new : Findings) (matrices : List Matrix) (end : ℕ) : Type 0 where
  pub standing : StandingBranches
  pub stands : BranchesStand p ty b bs standing
  pub fresh : AreNew old.taken (branch_selected_variables standing)
  pub added : new ≡ with_more old (branch_leaves standing) (branch_selections_from at standing) (branch_selected_variables standing)
  pub path_list : all_joined matrices ([] ∷ []) ≡ branch_paths_from (length old.leaf_list + 1) standing
  pub numbered : AreNumberedTo (length new.leaf_list) matrices
  pub counted : end ≡ at + branch_node_count bs

-- the fact, where the fault isn't running out of memory
abbrev pub UnlessMemory : FitFault → Type 0 → Type 0
UnlessMemory Memory P = Unit {0}
UnlessMemory (Misfit k) P = P
UnlessMemory (BadTerm k) P = P
UnlessMemory (BadVariable k) P = P
