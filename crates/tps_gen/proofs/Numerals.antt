-- Numerals, branches and pairs, one more at a time.
use Rattle.std.proofs.Common.{◌≡◌, ◌∙◌, ℕ, suc, ◌+◌, ◌*◌, ◌-◌, ◌<◌, [], ◌∷◌, ◌++◌, refl, ap, add-one, arith}
use Rattle.hol_terms.specs.Terms.{Term}
use Rattle.expansion_tree.specs.declared.trees.Op.TheVariants.{Imp}
use Rattle.expansion_tree.specs.Trees.{leaf_node, connective_node, ExpansionBranches, branch}
use Rattle.tps_gen.specs.Chains.{chain_branches, neighbours, numeral, successor_of}

pub numeral_more : (n : ℕ) (t u : Term) → t ≡ numeral n → u ≡ successor_of t → u ≡ numeral (n + 1)
numeral_more n t u e f = rw add-one (cc)

pub neighbours_more : (count : ℕ) → neighbours (count + 1) ≡ neighbours count ++ (2 * count + 1, 2 * count + 2) ∷ []
neighbours_more count = rw add-one refl

one_before : (k made : ℕ) (u : Term) (bs : ExpansionBranches) → bs ≡ chain_branches (suc k) made → u ≡ numeral k → branch u (connective_node Imp leaf_node leaf_node) bs ≡ chain_branches k (suc made)
one_before k made u bs e f = cc

-- the branches from the last but one on
pub branches_more : (n made : ℕ) (u : Term) (bs : ExpansionBranches) → made < n → bs ≡ chain_branches (n - made) made → u ≡ numeral (n - 1 - made)
    → branch u (connective_node Imp leaf_node leaf_node) bs ≡ chain_branches (n - (made + 1)) (made + 1)
branches_more n made u bs h e f =
    let next : n - made ≡ suc (n - (made + 1)) = omega arith in
    let here : n - 1 - made ≡ n - (made + 1) = omega arith in
    let more : suc made ≡ made + 1 = omega arith in
    one_before (n - (made + 1)) made u bs (e ∙ ap (λ (j : ℕ). chain_branches j made) next) (f ∙ ap numeral here) ∙ ap (chain_branches (n - (made + 1))) more
