-- Expansion proofs whose selected variables get other names.
use Rattle.std.specs.Prelude.{◌≡◌, ℕ, List, Contains}
use Rattle.hol_terms.specs.Terms.{SimpleType, Term, free, bound, constant, application, abstraction, Variable}
use Rattle.hol_terms.specs.FreeVariables.{IsFree}
use Rattle.expansion_tree.specs.Occurrences.{Occurrence, occurrences_of, tree_weight}
use Rattle.expansion_tree.specs.Standing.{Standing, at_leaf, at_constant, at_negation, at_connective, at_selection, at_expansion, StandingBranches, none_standing, branch_standing, selected_variables}
use Rattle.expansion_tree.specs.Trees.{ExpansionTree, leaf_node, constant_node, negation_node, connective_node, selection_node, expansion_node, ExpansionBranches, no_branch, branch}
use Rattle.proof_text.specs.Texts.{Proof}
use Rattle.exp_check.specs.Proofs.{IsProof, IsProofAs}
use Rattle.plain_search.specs.Proofs.{IsLeastProof, IsProofInBudget}

-- the new name of each variable
abbrev pub NewNames : Type 0
NewNames = List ℕ → SimpleType → List ℕ

abbrev pub renamed_variable : NewNames → Variable → Variable
renamed_variable f v = (f v.0 v.1, v.1)

-- the term with the new names of its free variables
abbrev pub renamed_term : NewNames → Term → Term
renamed_term f (free n s) = free (f n s) s
renamed_term f (bound i) = bound i
renamed_term f (constant c) = constant c
renamed_term f (application g a) = application (renamed_term f g) (renamed_term f a)
renamed_term f (abstraction s b) = abstraction s (renamed_term f b)

abbrev mutual
  -- the tree that stands so, with the new names of the variables that it selects and of those that are free in its terms
  pub renamed_tree : NewNames → Standing → ExpansionTree
  renamed_tree f (at_leaf p a) = leaf_node
  renamed_tree f (at_constant p v) = constant_node
  renamed_tree f (at_negation n) = negation_node (renamed_tree f n)
  renamed_tree f (at_connective op p m n) = connective_node op (renamed_tree f m) (renamed_tree f n)
  renamed_tree f (at_selection v n) = selection_node (f v.0 v.1) (renamed_tree f n)
  renamed_tree f (at_expansion p ns) = expansion_node (renamed_tree_branches f ns)

  pub renamed_tree_branches : NewNames → StandingBranches → ExpansionBranches
  renamed_tree_branches f none_standing = no_branch
  renamed_tree_branches f (branch_standing u n ns) = branch (renamed_term f u) (renamed_tree f n) (renamed_tree_branches f ns)

-- the same formula and the same mating, with the renamed tree
abbrev pub renamed_proof : NewNames → Standing → Proof → Proof
renamed_proof f s p = record { formula = p.formula; tree = renamed_tree f s; mating = p.mating }

-- The variables that the proof's tree selects, standing in this way, get new names, and no others do. The new ones differ from each other;
-- none is free in the formula, or free in a term of the tree without being selected.
pub record AreNewNames (p : Proof) (s : Standing) (f : NewNames) : Type 0 where
  pub others : (v : Variable) → (Contains (selected_variables s) v → ⊥) → renamed_variable f v ≡ v
  pub differ : (v w : Variable) → Contains (selected_variables s) v → Contains (selected_variables s) w → renamed_variable f v ≡ renamed_variable f w → v ≡ w
  pub unfree : (v : Variable) → Contains (selected_variables s) v → IsFree (f v.0 v.1) v.1 p.formula → ⊥
  pub unused : (v : Variable) (o : Occurrence) → Contains (selected_variables s) v → Contains (occurrences_of p.tree) o → IsFree (f v.0 v.1) v.1 o.term → Contains (selected_variables s) (renamed_variable f v)

-- with new names an expansion proof is one of the same formula, with the same mating
abbrev pub ProofsCanBeRenamed : Type 0
ProofsCanBeRenamed = (p : Proof) (s : Standing) (f : NewNames) → IsProofAs p s → AreNewNames p s f → IsProof (renamed_proof f s p)

-- it weighs the same, and lies within each budget that the other one lies in
abbrev pub RenamedStaysInBudget : Type 0
RenamedStaysInBudget =
    (formula : Term) (weight level : ℕ) (p : Proof) (f : NewNames) (h : IsProofInBudget formula weight level p) → AreNewNames p h.standing f
    → IsProofInBudget formula weight level (renamed_proof f h.standing p) × (tree_weight (renamed_tree f h.standing) ≡ tree_weight p.tree)

-- and it has the least weight where the other one has
abbrev pub RenamedStaysLeast : Type 0
RenamedStaysLeast =
    (formula : Term) (weight level : ℕ) (p : Proof) (f : NewNames) (h : IsLeastProof formula weight level p) → AreNewNames p h.in_budget.standing f
    → IsLeastProof formula weight level (renamed_proof f h.in_budget.standing p)
