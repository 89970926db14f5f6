-- What stands at a formula, without the tree that stands there.
use Rattle.std.proofs.Common.{◌≡◌, [], Bool, not, refl, sym, ap, ap₂, subst}
use Rattle.hol_terms.specs.Terms.{SimpleType, Term, free}
use Rattle.hol_terms.specs.Indices.{instance_of}
use Rattle.hol_conv.specs.Conversion.{Long}
use Rattle.expansion_tree.specs.Trees.{ExpansionTree, leaf_node, constant_node, negation_node, connective_node, selection_node, expansion_node, ExpansionBranches, no_branch, branch}
use Rattle.expansion_tree.specs.Standing.{Standing, at_leaf, at_constant, at_negation, at_connective, at_selection, at_expansion, StandingBranches, none_standing, branch_standing, Stands, BranchesStand, IsNormalFormula, left_polarity, negation_of, compound_of, truth_value, quantified, selecting, expanding}

abbrev mutual
  -- it stands at the formula a, of polarity p
  pub Fits : Bool → Term → Standing → Type 0
  Fits p a (at_leaf q b) = (q ≡ p) × (b ≡ a)
  Fits p a (at_constant q v) = (q ≡ p) × (a ≡ truth_value v)
  Fits p a (at_negation n) = (b : Term) × (a ≡ negation_of b) × Fits (not p) b n
  Fits p a (at_connective op q m n) = (q ≡ p) × (b : Term) × (c : Term) × (a ≡ compound_of op b c) × Fits (left_polarity op p) b m × Fits p c n
  Fits p a (at_selection v n) = (b : Term) × (a ≡ quantified (selecting p v.1) v.1 b) × Fits p (instance_of b (free v.0 v.1)) n
  Fits p a (at_expansion q ns) = (q ≡ p) × (ty : SimpleType) × (b : Term) × (a ≡ quantified (expanding p ty) ty b) × BranchesFit p ty b ns

  pub BranchesFit : Bool → SimpleType → Term → StandingBranches → Type 0
  BranchesFit p ty b none_standing = Unit {0}
  BranchesFit p ty b (branch_standing u n ns) = Long [] u ty × (a : Term) × IsNormalFormula a (instance_of b u) × Fits p a n × BranchesFit p ty b ns

mutual
  pub stands_fits : (t : ExpansionTree) (p : Bool) (a : Term) (s : Standing) → Stands p a t s → Fits p a s
  stands_fits leaf_node p a s h = subst (Fits p a) (sym h) (refl, refl)
  stands_fits constant_node p a s h = subst (Fits p a) (sym h.2) (refl, h.1)
  stands_fits (negation_node t) p a s h = subst (Fits p a) (sym h.4) (h.0, h.1, stands_fits t (not p) h.0 h.2 h.3)
  stands_fits (connective_node op t u) p a s h =
      subst (Fits p a) (sym h.7) (refl, h.0, h.1, h.2, stands_fits t (left_polarity op p) h.0 h.3 h.4, stands_fits u p h.1 h.5 h.6)
  stands_fits (selection_node name t) p a s h = subst (Fits p a) (sym h.5) (h.1, h.2, stands_fits t p (instance_of h.1 (free name h.0)) h.3 h.4)
  stands_fits (expansion_node bs) p a s h = subst (Fits p a) (sym h.5) (refl, h.0, h.1, h.2, branches_stand_fit bs p h.0 h.1 h.3 h.4)

  pub branches_stand_fit : (bs : ExpansionBranches) (p : Bool) (ty : SimpleType) (b : Term) (ns : StandingBranches) → BranchesStand p ty b bs ns → BranchesFit p ty b ns
  branches_stand_fit no_branch p ty b ns h = subst (BranchesFit p ty b) (sym h) tt
  branches_stand_fit (branch u t bs) p ty b ns h =
      subst (BranchesFit p ty b) (sym h.7) (h.0, h.1, h.2, stands_fits t p h.1 h.3 h.4, branches_stand_fit bs p ty b h.5 h.6)

abbrev mutual
  -- the tree that stands so
  pub tree_of : Standing → ExpansionTree
  tree_of (at_leaf p a) = leaf_node
  tree_of (at_constant p v) = constant_node
  tree_of (at_negation n) = negation_node (tree_of n)
  tree_of (at_connective op p m n) = connective_node op (tree_of m) (tree_of n)
  tree_of (at_selection v n) = selection_node v.0 (tree_of n)
  tree_of (at_expansion p ns) = expansion_node (branches_of ns)

  pub branches_of : StandingBranches → ExpansionBranches
  branches_of none_standing = no_branch
  branches_of (branch_standing u n ns) = branch u (tree_of n) (branches_of ns)

mutual
  pub fits_stands : (s : Standing) (p : Bool) (a : Term) → Fits p a s → Stands p a (tree_of s) s
  fits_stands (at_leaf q b) p a h = ap₂ at_leaf h.0 h.1
  fits_stands (at_constant q v) p a h = (v, h.1, ap (λ (r : Bool). at_constant r v) h.0)
  fits_stands (at_negation n) p a h = (h.0, h.1, n, fits_stands n (not p) h.0 h.2, refl)
  fits_stands (at_connective op q m n) p a h =
      (h.1, h.2, h.3, m, fits_stands m (left_polarity op p) h.1 h.4, n, fits_stands n p h.2 h.5, ap (λ (r : Bool). at_connective op r m n) h.0)
  fits_stands (at_selection v n) p a h = (v.1, h.0, h.1, n, fits_stands n p (instance_of h.0 (free v.0 v.1)) h.2, refl)
  fits_stands (at_expansion q ns) p a h = (h.1, h.2, h.3, ns, branches_fit_stand ns p h.1 h.2 h.4, ap (λ (r : Bool). at_expansion r ns) h.0)

  pub branches_fit_stand : (ns : StandingBranches) (p : Bool) (ty : SimpleType) (b : Term) → BranchesFit p ty b ns → BranchesStand p ty b (branches_of ns) ns
  branches_fit_stand none_standing p ty b h = refl
  branches_fit_stand (branch_standing u n ns) p ty b h =
      (h.0, h.1, h.2, n, fits_stands n p h.1 h.3, ns, branches_fit_stand ns p ty b h.4, refl)
