-- A chain is an expansion proof.
use Rattle.std.proofs.Common.{◌≡◌, ℕ, ◌+◌, ◌<◌, List, [], ◌∷◌, sym, subst, arith}
use Rattle.std.specs.Prelude.{Contains}
use Rattle.hol_terms.specs.Terms.{Term, truth_type}
use Rattle.hol_conv.specs.Conversion.{long}
use Rattle.hol_conv.proofs.Model.{form-typed}
use Rattle.expansion_tree.specs.Occurrences.{Occurrence, occurrences_of}
use Rattle.expansion_tree.specs.Standing.{Selection}
use Rattle.expansion_tree.specs.Trees.{ExpansionTree}
use Rattle.dependency.specs.Dependencies.{Before, IsAcyclic}
use Rattle.dependency.specs.Graphs.{last_behind}
use Rattle.exp_check.specs.Proofs.{IsProof}
use Rattle.tps_gen.specs.Chains.{chain_formula, chain_proof, chain_tree, neighbours}
use Rattle.tps_gen.proofs.Leaves.{pairs_are_good}
use Rattle.tps_gen.proofs.Spanned.{chain_spans}
use Rattle.tps_gen.proofs.Standings.{chain-normal, chain_is_tree, chain_selects_none, chain_standing}

none_contained : (selection : Selection) → Contains [] selection → ⊥
none_contained selection h = let within : h.0 < 0 = h.1 in absurd (omega arith)

-- where nothing is selected no occurrence waits for another
acyclic : (occurrences : List Occurrence) → IsAcyclic occurrences []
acyclic occurrences [] h = h
acyclic occurrences (x ∷ xs) h = let again : Before occurrences [] (last_behind x xs) x = h.1 in none_contained again.selection again.selected

chain_proves : (n : ℕ) → IsProof (chain_proof n)
chain_proves n = (
  chain_standing n,
  record {
    formula = form-typed long [] (chain_formula n) truth_type (chain-normal n).0;
    is_tree = chain_is_tree n;
    good = pairs_are_good n (n + 1) (omega arith);
    acyclic = subst (IsAcyclic (occurrences_of (chain_tree n))) (sym (chain_selects_none n)) (acyclic (occurrences_of (chain_tree n)));
    spans = chain_spans n;
  },
)

pub chain_is_proof : (n : ℕ) (a : Term) (t : ExpansionTree) (pairs : List (ℕ × ℕ)) → a ≡ chain_formula n → t ≡ chain_tree n → pairs ≡ neighbours (n + 1)
    → IsProof (record { formula = a; tree = t; mating = pairs })
chain_is_proof n a t pairs e f g = rw (e, f, g) (chain_proves n)
