-- The occurrences of an expansion tree: the branches of its expansion nodes. After Miller 1987.
use Rattle.std.specs.Prelude.{ℕ, ◌+◌, ◌-◌, List, [], ◌∷◌, ◌++◌}
use Rattle.hol_terms.specs.Terms.{Term, free, bound, constant, application, abstraction}
use Rattle.expansion_tree.specs.Trees.{ExpansionTree, leaf_node, constant_node, negation_node, connective_node, selection_node, expansion_node, ExpansionBranches, no_branch, branch, node_count}

-- one branch of an expansion node: the numbers of the first and of the last node of its tree, and its term
pub record Occurrence : Type 0 where
  pub first : ℕ
  pub last : ℕ
  pub term : Term

abbrev mutual
  -- the occurrences in the order of their terms; nodes are numbered in preorder, the root having the number at
  pub occurrences_from : ℕ → ExpansionTree → List Occurrence
  occurrences_from at leaf_node = []
  occurrences_from at constant_node = []
  occurrences_from at (negation_node t) = occurrences_from (at + 1) t
  occurrences_from at (connective_node op t u) = occurrences_from (at + 1) t ++ occurrences_from (at + 1 + node_count t) u
  occurrences_from at (selection_node name t) = occurrences_from (at + 1) t
  occurrences_from at (expansion_node bs) = branch_occurrences_from (at + 1) bs

  pub branch_occurrences_from : ℕ → ExpansionBranches → List Occurrence
  branch_occurrences_from at no_branch = []
  branch_occurrences_from at (branch u t bs) =
      record { first = at; last = at + node_count t - 1; term = u } ∷ occurrences_from at t ++ branch_occurrences_from (at + node_count t) bs

-- the occurrences, nodes being numbered from 1
abbrev pub occurrences_of : ExpansionTree → List Occurrence
occurrences_of t = occurrences_from 1 t

-- how many heads a long normal term has: its free variables, bound indices and constants, each occurrence counted
abbrev pub term_weight : Term → ℕ
term_weight (free n s) = 1
term_weight (bound i) = 1
term_weight (constant c) = 1
term_weight (application f a) = term_weight f + term_weight a
term_weight (abstraction s b) = term_weight b

abbrev pub weight_of_all : List Occurrence → ℕ
weight_of_all [] = 0
weight_of_all (occurrence ∷ rest) = term_weight occurrence.term + weight_of_all rest

-- the weight of a tree: that of its terms, at each occurrence
abbrev pub tree_weight : ExpansionTree → ℕ
tree_weight t = weight_of_all (occurrences_of t)
