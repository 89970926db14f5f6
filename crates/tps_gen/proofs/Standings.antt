-- How the tree of a chain stands at its formula, which is long.
use Rattle.std.proofs.Common.{◌≡◌, ℕ, zero, suc, ◌+◌, List, [], ◌∷◌, ◌++◌, true, false, refl, sym, ap, subst}
use Rattle.hol_terms.specs.Terms.{SimpleType, function_type, Term, bound, forall, truth_type, Variable}
use Rattle.hol_terms.specs.Indices.{instance_of}
use Rattle.hol_terms.specs.FreeVariables.{free_variables_of}
use Rattle.hol_terms.proofs.IndexLaws.{raise-none}
use Rattle.hol_conv.specs.Conversion.{Long, long, done}
use Rattle.hol_conv.proofs.Model.{form-typed}
use Rattle.expansion_tree.specs.declared.trees.Op.{Op}
use Rattle.expansion_tree.specs.declared.trees.Op.TheVariants.{And, Or, Imp}
use Rattle.expansion_tree.specs.Faults.{AreNew, IsTree}
use Rattle.expansion_tree.specs.Standing.{Standing, at_leaf, at_connective, at_expansion, StandingBranches, none_standing, branch_standing, Stands, BranchesStand, IsNormalFormula, Selection, branch_selected_variables, branch_selections_from, compound_of, quantified, selections}
use Rattle.expansion_tree.specs.Trees.{leaf_node, connective_node, expansion_node}
use Rattle.tps_gen.specs.Chains.{chain_branches, chain_formula, chain_tree, holds_of, individual_type, numeral, passed_on, successor_of}

-- P of s applied k times to z implies it of one more
abbrev pub instance : ℕ → Term
instance k = compound_of Imp (holds_of (numeral k)) (holds_of (numeral (suc k)))

abbrev pub instance_standing : ℕ → Standing
instance_standing k = at_connective Imp false (at_leaf true (holds_of (numeral k))) (at_leaf false (holds_of (numeral (suc k))))

abbrev pub branch_standings : ℕ → ℕ → StandingBranches
branch_standings k zero = none_standing
branch_standings k (suc count) = branch_standing (numeral k) (instance_standing k) (branch_standings (suc k) count)

abbrev pub premises_standing : ℕ → Standing
premises_standing n = at_connective And false (at_leaf false (holds_of (numeral 0))) (at_expansion false (branch_standings 0 n))

abbrev pub chain_standing : ℕ → Standing
chain_standing n = at_connective Imp true (premises_standing n) (at_leaf true (holds_of (numeral n)))

-- long terms

numeral-long : (n : ℕ) → Long [] (numeral n) individual_type
numeral-long zero = (tt, refl)
numeral-long (suc n) = (tt, (individual_type, (tt, refl), numeral-long n))

holds-long : (types : List SimpleType) (t : Term) → Long types t individual_type → Long types (holds_of t) truth_type
holds-long types t h = (tt, (individual_type, (tt, refl), h))

compound-long : (types : List SimpleType) (op : Op) (a b : Term) → Long types a truth_type → Long types b truth_type → Long types (compound_of op a b) truth_type
compound-long types And a b p q = (tt, (truth_type, (tt, (truth_type, (tt, refl), p)), q))
compound-long types Or a b p q = (tt, (truth_type, (tt, (truth_type, (tt, refl), p)), q))
compound-long types Imp a b p q = (tt, (truth_type, (tt, (truth_type, (tt, refl), p)), q))

passed_on-long : Long (individual_type ∷ []) passed_on truth_type
passed_on-long =
    compound-long (individual_type ∷ []) Imp (holds_of (bound 0)) (holds_of (successor_of (bound 0)))
    (holds-long (individual_type ∷ []) (bound 0) (tt, refl))
    (holds-long (individual_type ∷ []) (successor_of (bound 0)) (tt, (individual_type, (tt, refl), (tt, refl))))

premise-long : Long [] (quantified (forall individual_type) individual_type passed_on) truth_type
premise-long = (tt, (function_type truth_type individual_type, (tt, refl), (truth_type, passed_on-long, refl)))

chain-long : (n : ℕ) → Long [] (chain_formula n) truth_type
chain-long n =
    compound-long [] Imp (compound_of And (holds_of (numeral 0)) (quantified (forall individual_type) individual_type passed_on)) (holds_of (numeral n))
    (
    compound-long [] And (holds_of (numeral 0)) (quantified (forall individual_type) individual_type passed_on)
    (holds-long [] (numeral 0) (numeral-long 0))
    premise-long
    )
    (holds-long [] (numeral n) (numeral-long n))

instance-long : (k : ℕ) → Long [] (instance k) truth_type
instance-long k =
    compound-long [] Imp (holds_of (numeral k)) (holds_of (numeral (suc k))) (holds-long [] (numeral k) (numeral-long k)) (holds-long [] (numeral (suc k)) (numeral-long (suc k)))

-- a long formula is its own long normal form
long_is_normal : (a : Term) → Long [] a truth_type → IsNormalFormula a a
long_is_normal a h = (h, done a (form-typed long [] a truth_type h))

pub chain-normal : (n : ℕ) → IsNormalFormula (chain_formula n) (chain_formula n)
chain-normal n = long_is_normal (chain_formula n) (chain-long n)

instance_is : (k : ℕ) → instance_of passed_on (numeral k) ≡ instance k
instance_is k = ap (λ (t : Term). compound_of Imp (holds_of t) (holds_of (successor_of t))) (raise-none 0 (numeral k))

instance-normal : (k : ℕ) → IsNormalFormula (instance k) (instance_of passed_on (numeral k))
instance-normal k = subst (IsNormalFormula (instance k)) (sym (instance_is k)) (long_is_normal (instance k) (instance-long k))

-- the tree stands

branches_stand : (k count : ℕ) → BranchesStand false individual_type passed_on (chain_branches k count) (branch_standings k count)
branches_stand k zero = refl
branches_stand k (suc count) = (
  numeral-long k,
  instance k,
  instance-normal k,
  instance_standing k,
  (holds_of (numeral k), holds_of (numeral (suc k)), refl, at_leaf true (holds_of (numeral k)), refl, at_leaf false (holds_of (numeral (suc k))), refl, refl),
  branch_standings (suc k) count,
  branches_stand (suc k) count,
  refl,
)

premises_stand : (n : ℕ)
    → Stands false (compound_of And (holds_of (numeral 0)) (quantified (forall individual_type) individual_type passed_on))
    (connective_node And leaf_node (expansion_node (chain_branches 0 n))) (premises_standing n)
premises_stand n = (
  holds_of (numeral 0),
  quantified (forall individual_type) individual_type passed_on,
  refl,
  at_leaf false (holds_of (numeral 0)),
  refl,
  at_expansion false (branch_standings 0 n),
  (individual_type, passed_on, refl, branch_standings 0 n, branches_stand 0 n, refl),
  refl,
)

chain_stands : (n : ℕ) → Stands true (chain_formula n) (chain_tree n) (chain_standing n)
chain_stands n = (
  compound_of And (holds_of (numeral 0)) (quantified (forall individual_type) individual_type passed_on),
  holds_of (numeral n),
  refl,
  premises_standing n,
  premises_stand n,
  at_leaf true (holds_of (numeral n)),
  refl,
  refl,
)

-- nothing is selected

none_selected : (k count : ℕ) → branch_selected_variables (branch_standings k count) ≡ []
none_selected k zero = refl
none_selected k (suc count) = none_selected (suc k) count

none_chosen : (at k count : ℕ) → branch_selections_from at (branch_standings k count) ≡ []
none_chosen at k zero = refl
none_chosen at k (suc count) = none_chosen (at + 3) (suc k) count

pub chain_selects_none : (n : ℕ) → selections (chain_standing n) ≡ []
chain_selects_none n = ap (λ (list : List Selection). list ++ []) (none_chosen 5 0 n)

pub chain_is_tree : (n : ℕ) → IsTree (chain_formula n) (chain_tree n) (chain_standing n)
chain_is_tree n = record {
  normal = chain_formula n;
  is_normal = chain-normal n;
  stands = chain_stands n;
  selected =
      subst (λ (vs : List Variable). AreNew (free_variables_of (chain_formula n)) (vs ++ [])) (sym (none_selected 0 n)) tt;
}
