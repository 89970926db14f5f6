-- Chains: that P holds of s applied n times to z, if it holds of z and passes from each x to s x. The expansion proof takes n instances,
-- and its mating joins each with the next.
use Rattle.std.specs.Prelude.{◌≡◌, ℕ, zero, suc, ◌+◌, ◌*◌, List, [], ◌∷◌, ◌++◌, length, codes}
use Rattle.hol_terms.specs.Terms.{SimpleType, base_type, function_type, Term, free, bound, application, forall, truth_type}
use Rattle.expansion_tree.specs.declared.trees.Op.TheVariants.{And, Imp}
use Rattle.expansion_tree.specs.Faults.{IsTree}
use Rattle.expansion_tree.specs.Occurrences.{occurrences_of, tree_weight}
use Rattle.expansion_tree.specs.Standing.{Standing, compound_of, leaves, quantified}
use Rattle.expansion_tree.specs.Trees.{ExpansionTree, leaf_node, connective_node, expansion_node, ExpansionBranches, no_branch, branch}
use Rattle.proof_text.specs.Texts.{Proof}

-- the type of individuals, I
abbrev pub individual_type : SimpleType
individual_type = base_type 73

-- P t, with P of type OI
abbrev pub holds_of : Term → Term
holds_of t = application (free (codes "P") (function_type truth_type individual_type)) t

-- s t, with s of type II
abbrev pub successor_of : Term → Term
successor_of t = application (free (codes "s") (function_type individual_type individual_type)) t

-- s applied n times to z, which has type I
abbrev pub numeral : ℕ → Term
numeral zero = free (codes "z") individual_type
numeral (suc n) = successor_of (numeral n)

-- P x IMPLIES P [s x], with index 0 for x
abbrev pub passed_on : Term
passed_on = compound_of Imp (holds_of (bound 0)) (holds_of (successor_of (bound 0)))

-- P z AND [FORALL x(I). P x IMPLIES P [s x]] IMPLIES P t, with s applied n times to z for t
abbrev pub chain_formula : ℕ → Term
chain_formula n =
    compound_of Imp (compound_of And (holds_of (numeral 0)) (quantified (forall individual_type) individual_type passed_on)) (holds_of (numeral n))

-- branches, as many as `count`, with s applied k times to z, k + 1 times and so on, and an implication of two leaves each
abbrev pub chain_branches : ℕ → ℕ → ExpansionBranches
chain_branches k zero = no_branch
chain_branches k (suc count) = branch (numeral k) (connective_node Imp leaf_node leaf_node) (chain_branches (suc k) count)

-- the tree with n instances of the quantified formula
abbrev pub chain_tree : ℕ → ExpansionTree
chain_tree n = connective_node Imp (connective_node And leaf_node (expansion_node (chain_branches 0 n))) leaf_node

-- the pairs (1 2), (3 4) and so on, as many as `count`
abbrev pub neighbours : ℕ → List (ℕ × ℕ)
neighbours zero = []
neighbours (suc count) = neighbours count ++ (2 * count + 1, 2 * count + 2) ∷ []

-- the formula, the tree and the mating of the chain with n instances
abbrev pub chain_proof : ℕ → Proof
chain_proof n = record { formula = chain_formula n; tree = chain_tree n; mating = neighbours (n + 1) }

-- How large a proof is that has n instances as a chain has: its leaves, pairs and occurrences, and twice the weight of its terms.
pub record HasFigures (n : ℕ) (p : Proof) : Type 0 where
  pub leaf_total : (s : Standing) → IsTree p.formula p.tree s → length (leaves s) ≡ 2 * n + 2
  pub pair_total : length p.mating ≡ n + 1
  pub occurrence_total : length (occurrences_of p.tree) ≡ n
  pub weight : 2 * tree_weight p.tree ≡ n * (n + 1)
