-- How large a chain is.
use Rattle.std.proofs.Common.{◌≡◌, ◌∙◌, ℕ, zero, suc, ◌+◌, ◌*◌, List, [], ◌∷◌, ◌++◌, length, refl, ap, arith, length-append, append-nil}
use Rattle.hol_terms.specs.Terms.{Term}
use Rattle.expansion_tree.specs.Occurrences.{branch_occurrences_from, term_weight, weight_of_all}
use Rattle.expansion_tree.specs.Standing.{Standing, leaves}
use Rattle.expansion_tree.specs.Trees.{ExpansionTree}
use Rattle.expansion_tree.proofs.Excluding.{tree-unique}
use Rattle.tps_gen.specs.Chains.{HasFigures, chain_branches, chain_formula, chain_proof, chain_tree, neighbours, numeral}
use Rattle.tps_gen.proofs.Leaves.{leaves-length}
use Rattle.tps_gen.proofs.Standings.{chain_is_tree, chain_standing}

neighbours-length : (count : ℕ) → length (neighbours count) ≡ count
neighbours-length zero = refl
neighbours-length (suc count) = omega (arith, neighbours-length count, length-append (neighbours count) ((2 * count + 1, 2 * count + 2) ∷ []))

occurrences-length : (at k count : ℕ) → length (branch_occurrences_from at (chain_branches k count)) ≡ count
occurrences-length at k zero = refl
occurrences-length at k (suc count) = ap suc (occurrences-length (at + 3) (suc k) count)

numeral-weight : (k : ℕ) → term_weight (numeral k) ≡ k + 1
numeral-weight zero = refl
numeral-weight (suc k) = omega (arith, numeral-weight k)

branches-weight : (at k count : ℕ) → 2 * weight_of_all (branch_occurrences_from at (chain_branches k count)) ≡ 2 * (count * k) + count * (count + 1)
branches-weight at k zero = omega arith
branches-weight at k (suc count) = omega (arith, numeral-weight k, branches-weight (at + 3) (suc k) count)

figures : (n : ℕ) → HasFigures n (chain_proof n)
figures n = record {
  leaf_total = λ s tree. ap (λ (r : Standing). length (leaves r)) (tree-unique (chain_formula n) (chain_tree n) s (chain_standing n) tree (chain_is_tree n)) ∙ leaves-length n;
  pair_total = neighbours-length (n + 1);
  occurrence_total = ap length (append-nil (branch_occurrences_from 5 (chain_branches 0 n))) ∙ occurrences-length 5 0 n;
  weight =
      let all : weight_of_all (branch_occurrences_from 5 (chain_branches 0 n) ++ []) ≡ weight_of_all (branch_occurrences_from 5 (chain_branches 0 n)) =
      ap weight_of_all (append-nil (branch_occurrences_from 5 (chain_branches 0 n))) in
      omega (arith, all, branches-weight 5 0 n);
}

pub chain_figures : (n : ℕ) (a : Term) (t : ExpansionTree) (pairs : List (ℕ × ℕ)) → a ≡ chain_formula n → t ≡ chain_tree n → pairs ≡ neighbours (n + 1)
    → HasFigures n (record { formula = a; tree = t; mating = pairs })
chain_figures n a t pairs e f g = rw (e, f, g) (figures n)
