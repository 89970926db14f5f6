-- The leaves of a chain, two by two of opposite polarity with equal formulas.
use Rattle.std.proofs.Common.{◌≡◌, ◌∙◌, ℕ, zero, suc, ◌+◌, ◌-◌, ◌*◌, ◌≤◌, ◌==◌, List, [], ◌∷◌, ◌++◌, length, Bool, true, false, refl, ap, arith, length-append}
use Rattle.std.specs.Prelude.{All, Some, slice_get}
use Rattle.std.proofs.lemmas.List.Elements.{All-nil, All-push}
use Rattle.std.proofs.lemmas.Bool.Decides.{nat_tests}
use Rattle.hol_terms.specs.Terms.{Term}
use Rattle.expansion_tree.specs.Standing.{branch_leaf_count, branch_leaves, leaves}
use Rattle.vertical_paths.specs.Matings.{IsGood, leaf_at}
use Rattle.tps_gen.specs.Chains.{holds_of, neighbours, numeral}
use Rattle.tps_gen.proofs.Standings.{branch_standings, chain_standing}

-- the leaves from that before the k-th branch on, of which the last has the formula a
abbrev leaves_from : ℕ → ℕ → Term → List (Bool × Term)
leaves_from k count a = (false, holds_of (numeral k)) ∷ (branch_leaves (branch_standings k count) ++ (true, a) ∷ [])

negative_leaf : (k count i at m : ℕ) (a : Term) → i ≤ count → at ≡ 2 * i → m ≡ k + i → slice_get (leaves_from k count a) at ≡ Some (false, holds_of (numeral m))
negative_leaf k count zero at m a h e f =
    let here : at ≡ 0 = omega arith in
    let same : m ≡ k = omega arith in
    rw (here, same) refl
negative_leaf k zero (suc i) at m a h e f = absurd (omega arith)
negative_leaf k (suc count) (suc i) at m a h e f =
    let here : at ≡ suc (suc (2 * i)) = omega arith in
    rw here (negative_leaf (suc k) count i (2 * i) m a (omega arith) refl (omega arith))

positive_leaf : (k count i at m : ℕ) (a : Term) → a ≡ holds_of (numeral (k + count)) → i ≤ count → at ≡ 2 * i + 1 → m ≡ k + i → slice_get (leaves_from k count a) at ≡ Some (true, holds_of (numeral m))
positive_leaf k zero zero at m a last h e f =
    let here : at ≡ 1 = omega arith in
    let same : m ≡ k + 0 = omega arith in
    rw (here, same, last) refl
positive_leaf k (suc count) zero at m a last h e f =
    let here : at ≡ 1 = omega arith in
    let same : m ≡ k = omega arith in
    rw (here, same) refl
positive_leaf k zero (suc i) at m a last h e f = absurd (omega arith)
positive_leaf k (suc count) (suc i) at m a last h e f =
    let here : at ≡ suc (suc (2 * i + 1)) = omega arith in
    let same : k + suc count ≡ suc k + count = omega arith in
    rw here (positive_leaf (suc k) count i (2 * i + 1) m a (last ∙ ap (λ (j : ℕ). holds_of (numeral j)) same) (omega arith) refl (omega arith))

leaf_at-next : (ls : List (Bool × Term)) (i n : ℕ) → n ≡ suc i → leaf_at ls n ≡ slice_get ls i
leaf_at-next ls i n e =
    let test : (n == 0) ≡ false = grind (arith, nat_tests) in
    let before : n - 1 ≡ i = omega arith in
    rw (test, before) refl

pub pairs_are_good : (n count : ℕ) → count ≤ n + 1 → All (IsGood (leaves (chain_standing n))) (neighbours count)
pairs_are_good n zero h = All-nil (IsGood (leaves (chain_standing n)))
pairs_are_good n (suc count) h =
    All-push (IsGood (leaves (chain_standing n))) (neighbours count) (2 * count + 1, 2 * count + 2)
    (pairs_are_good n count (omega arith)) (
      false,
      holds_of (numeral count),
      leaf_at-next (leaves (chain_standing n)) (2 * count) (2 * count + 1) (omega arith)
          ∙ negative_leaf 0 n count (2 * count) count (holds_of (numeral n)) (omega arith) refl (omega arith),
      leaf_at-next (leaves (chain_standing n)) (2 * count + 1) (2 * count + 2) (omega arith)
          ∙ positive_leaf 0 n count (2 * count + 1) count (holds_of (numeral n)) (let same : n ≡ 0 + n = omega arith in ap (λ (j : ℕ). holds_of (numeral j)) same) (omega arith) refl (omega arith),
    )

pub branch_leaf_count-is : (k count : ℕ) → branch_leaf_count (branch_standings k count) ≡ 2 * count
branch_leaf_count-is k zero = refl
branch_leaf_count-is k (suc count) = omega (arith, branch_leaf_count-is (suc k) count)

branch_leaves-length : (k count : ℕ) → length (branch_leaves (branch_standings k count)) ≡ 2 * count
branch_leaves-length k zero = refl
branch_leaves-length k (suc count) = omega (arith, branch_leaves-length (suc k) count)

pub leaves-length : (n : ℕ) → length (leaves (chain_standing n)) ≡ 2 * n + 2
leaves-length n = omega (arith, branch_leaves-length 0 n, length-append (branch_leaves (branch_standings 0 n)) ((true, holds_of (numeral n)) ∷ []))
