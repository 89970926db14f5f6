-- Expansion proofs as they are kept, with an order of their occurrences.
use Rattle.std.specs.Prelude.{ℕ, List, refl}
use Rattle.std.specs.Coded.{coded_list, coded×, coded_ℕ}
use package.base.Stored.{Coded}
use denote.Struct.Codes.{code_by}
use Rattle.expansion_tree.specs.Fitted.{FittedTree, IsFitted, fitted_code}
use Rattle.expansion_tree.specs.Occurrences.{occurrences_of}
use Rattle.dependency.specs.Dependencies.{IsOrder}
use Rattle.proof_text.specs.Texts.{Proof}
use Rattle.exp_check.specs.Proofs.{IsProof}

-- a fitted tree, a mating, and the occurrences' numbers in an order
pub record AcceptedProof : Type 0 where
  pub fitted : FittedTree
  pub mating : List (ℕ × ℕ)
  pub order : List ℕ

-- its formula, tree and mating
abbrev pub proof_of : AcceptedProof → Proof
proof_of a = record { formula = a.fitted.formula; tree = a.fitted.tree; mating = a.mating }

-- an expansion proof, and an order that keeps its dependencies
pub record IsAccepted (a : AcceptedProof) : Type 0 where
  pub fits : IsFitted a.fitted
  pub proof : IsProof (proof_of a)
  pub ordered : IsOrder (occurrences_of a.fitted.tree) a.fitted.selection_list a.order

-- a code of it, as a tuple
abbrev pub accepted_code : Coded AcceptedProof
accepted_code =
    code_by (FittedTree × (List (ℕ × ℕ) × List ℕ))
    (coded× fitted_code (coded× (coded_list (coded× coded_ℕ coded_ℕ)) (coded_list coded_ℕ)))
    (λ a. (a.fitted, (a.mating, a.order)))
    (λ t. record { fitted = t.0; mating = t.1.0; order = t.1.1 })
    (λ _. refl)
