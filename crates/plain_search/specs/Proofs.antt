-- Expansion proofs within a budget.
use Rattle.std.specs.Prelude.{◌≡◌, ◌≤◌, ℕ}
use Rattle.hol_terms.specs.Terms.{Term}
use Rattle.expansion_tree.specs.Budgets.{IsInBudget}
use Rattle.expansion_tree.specs.Occurrences.{tree_weight}
use Rattle.expansion_tree.specs.Standing.{Standing}
use Rattle.proof_text.specs.Texts.{Proof}
use Rattle.exp_check.specs.Proofs.{IsProofAs}

-- an expansion proof of the formula within the budget of this weight and level
pub record IsProofInBudget (formula : Term) (weight level : ℕ) (p : Proof) : Type 0 where
  pub of : p.formula ≡ formula
  pub standing : Standing
  pub proof : IsProofAs p standing
  pub budget : IsInBudget formula weight level p.tree standing

-- and no expansion proof of the formula within the budget weighs less
pub record IsLeastProof (formula : Term) (weight level : ℕ) (p : Proof) : Type 0 where
  pub in_budget : IsProofInBudget formula weight level p
  pub least : (q : Proof) → IsProofInBudget formula weight level q → tree_weight p.tree ≤ tree_weight q.tree
