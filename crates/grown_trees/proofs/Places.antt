-- The place at which two namesakes have grown: both new trees stand at one formula there, and the selected variables are those before and the new ones.
use Rattle.std.proofs.Common.{◌≡◌, ◌+◌, List, [], Bool, not, sym, ap, subst, ◌∙◌, arith, inl, inr}
use Rattle.hol_terms.specs.Terms.{SimpleType, Term, free, truth_type, Variable}
use Rattle.hol_terms.specs.Indices.{instance_of}
use Rattle.hol_conv.proofs.Normals.{one_normal_form}
use Rattle.expansion_tree.specs.Standing.{Standing, at_leaf, at_constant, at_negation, at_connective, at_selection, at_expansion, StandingBranches, none_standing, branch_standing, IsNormalFormula, left_polarity, selected_variables, branch_selected_variables}
use Rattle.grown_trees.specs.Growths.{AreGrown, AreBranchesGrown}
use Rattle.grown_trees.proofs.Counted.{times, times-append}
use Rattle.grown_trees.proofs.Fitting.{Fits, BranchesFit}

-- the trees stand at one formula
pub record StandTogether (b b' : Standing) : Type 0 where
  pub polarity : Bool
  pub first : Term
  pub second : Term
  pub same : first ≡ second
  pub fits : Fits polarity first b
  pub other : Fits polarity second b'

mutual
  pub grown_together : (s r x : Standing) (u : Term) (b b' : Standing) (p : Bool) (a c : Term) → a ≡ c → AreGrown u b b' s r x → Fits p a r → Fits p c x → StandTogether b b'
  grown_together (at_leaf q y) r x u b b' p a c e h f g = absurd h
  grown_together (at_constant q v) r x u b b' p a c e h f g = absurd h
  grown_together (at_negation n) r x u b b' p a c e h f g =
      let f : Fits p a (at_negation h.0) = subst (Fits p a) h.3 f in
      let g : Fits p c (at_negation h.1) = subst (Fits p c) h.4 g in
      grown_together n h.0 h.1 u b b' (not p) f.0 g.0 (cc (f.1, e, g.1)) h.2 f.2 g.2
  grown_together (at_connective op q m n) r x u b b' p a c e (inl h) f g =
      let f : Fits p a (at_connective op q h.0 n) = subst (Fits p a) h.3 f in
      let g : Fits p c (at_connective op q h.1 n) = subst (Fits p c) h.4 g in
      grown_together m h.0 h.1 u b b' (left_polarity op p) f.1 g.1 (cc (f.3, e, g.3)) h.2 f.4 g.4
  grown_together (at_connective op q m n) r x u b b' p a c e (inr h) f g =
      let f : Fits p a (at_connective op q m h.0) = subst (Fits p a) h.3 f in
      let g : Fits p c (at_connective op q m h.1) = subst (Fits p c) h.4 g in
      grown_together n h.0 h.1 u b b' p f.2 g.2 (cc (f.3, e, g.3)) h.2 f.5 g.5
  grown_together (at_selection v n) r x u b b' p a c e h f g =
      let f : Fits p a (at_selection v h.0) = subst (Fits p a) h.3 f in
      let g : Fits p c (at_selection v h.1) = subst (Fits p c) h.4 g in
      let body : f.0 ≡ g.0 = cc (f.1, e, g.1) in
      grown_together n h.0 h.1 u b b' p (instance_of f.0 (free v.0 v.1)) (instance_of g.0 (free v.0 v.1)) (ap (λ (y : Term). instance_of y (free v.0 v.1)) body) h.2 f.2 g.2
  grown_together (at_expansion q ns) r x u b b' p a c e h f g =
      let f : Fits p a (at_expansion q h.0) = subst (Fits p a) h.3 f in
      let g : Fits p c (at_expansion q h.1) = subst (Fits p c) h.4 g in
      let body : f.2 ≡ g.2 = cc (f.3, e, g.3) in
      branches_together ns h.0 h.1 u b b' p f.1 g.1 f.2 g.2 body h.2 f.4 g.4

  branches_together : (ns ms xs : StandingBranches) (u : Term) (b b' : Standing) (p : Bool) (ty other : SimpleType) (y z : Term) → y ≡ z → AreBranchesGrown u b b' ns ms xs
      → BranchesFit p ty y ms → BranchesFit p other z xs → StandTogether b b'
  branches_together none_standing ms xs u b b' p ty other y z e h f g =
      let f : BranchesFit p ty y (branch_standing u b none_standing) = subst (BranchesFit p ty y) h.0 f in
      let g : BranchesFit p other z (branch_standing u b' none_standing) = subst (BranchesFit p other z) h.1 g in
      record {
        polarity = p;
        first = f.1;
        second = g.1;
        same = one_normal_form [] (instance_of y u) f.1 g.1 truth_type f.2 (subst (λ (x : Term). IsNormalFormula g.1 (instance_of x u)) (sym e) g.2);
        fits = f.3;
        other = g.3;
      }
  branches_together (branch_standing w n ns) ms xs u b b' p ty other y z e (inl h) f g =
      let f : BranchesFit p ty y (branch_standing w h.0 ns) = subst (BranchesFit p ty y) h.3 f in
      let g : BranchesFit p other z (branch_standing w h.1 ns) = subst (BranchesFit p other z) h.4 g in
      let same : f.1 ≡ g.1 = one_normal_form [] (instance_of y w) f.1 g.1 truth_type f.2 (subst (λ (x : Term). IsNormalFormula g.1 (instance_of x w)) (sym e) g.2) in
      grown_together n h.0 h.1 u b b' p f.1 g.1 same h.2 f.3 g.3
  branches_together (branch_standing w n ns) ms xs u b b' p ty other y z e (inr h) f g =
      let f : BranchesFit p ty y (branch_standing w n h.0) = subst (BranchesFit p ty y) h.3 f in
      let g : BranchesFit p other z (branch_standing w n h.1) = subst (BranchesFit p other z) h.4 g in
      branches_together ns h.0 h.1 u b b' p ty other y z e h.2 f.4 g.4

-- how often a variable is selected in both

abbrev pub AddUp : Variable → List Variable → List Variable → List Variable → Type 0
AddUp v old new all = times v all ≡ times v old + times v new

mutual
  pub grown_times : (v : Variable) (s r x : Standing) (u : Term) (b b' : Standing) → AreGrown u b b' s r x
      → AddUp v (selected_variables s) (selected_variables b) (selected_variables r) × AddUp v (selected_variables s) (selected_variables b') (selected_variables x)
  grown_times v (at_leaf p a) r x u b b' h = absurd h
  grown_times v (at_constant p w) r x u b b' h = absurd h
  grown_times v (at_negation n) r x u b b' h =
      let below = grown_times v n h.0 h.1 u b b' h.2 in
      (ap (λ (s : Standing). times v (selected_variables s)) h.3 ∙ below.0, ap (λ (s : Standing). times v (selected_variables s)) h.4 ∙ below.1)
  grown_times v (at_connective op p m n) r x u b b' (inl h) =
      let below = grown_times v m h.0 h.1 u b b' h.2 in
      let old = times-append v (selected_variables m) (selected_variables n) in
      let one = ap (λ (s : Standing). times v (selected_variables s)) h.3 ∙ times-append v (selected_variables h.0) (selected_variables n) in
      let other = ap (λ (s : Standing). times v (selected_variables s)) h.4 ∙ times-append v (selected_variables h.1) (selected_variables n) in
      (omega (arith, below.0, old, one), omega (arith, below.1, old, other))
  grown_times v (at_connective op p m n) r x u b b' (inr h) =
      let below = grown_times v n h.0 h.1 u b b' h.2 in
      let old = times-append v (selected_variables m) (selected_variables n) in
      let one = ap (λ (s : Standing). times v (selected_variables s)) h.3 ∙ times-append v (selected_variables m) (selected_variables h.0) in
      let other = ap (λ (s : Standing). times v (selected_variables s)) h.4 ∙ times-append v (selected_variables m) (selected_variables h.1) in
      (omega (arith, below.0, old, one), omega (arith, below.1, old, other))
  grown_times v (at_selection w n) r x u b b' h =
      let below = grown_times v n h.0 h.1 u b b' h.2 in
      let one = ap (λ (s : Standing). times v (selected_variables s)) h.3 in
      let other = ap (λ (s : Standing). times v (selected_variables s)) h.4 in
      (omega (arith, below.0, one), omega (arith, below.1, other))
  grown_times v (at_expansion p ns) r x u b b' h =
      let below = grown_branch_times v ns h.0 h.1 u b b' h.2 in
      (ap (λ (s : Standing). times v (selected_variables s)) h.3 ∙ below.0, ap (λ (s : Standing). times v (selected_variables s)) h.4 ∙ below.1)

  grown_branch_times : (v : Variable) (ns ms xs : StandingBranches) (u : Term) (b b' : Standing) → AreBranchesGrown u b b' ns ms xs
      → AddUp v (branch_selected_variables ns) (selected_variables b) (branch_selected_variables ms) × AddUp v (branch_selected_variables ns) (selected_variables b') (branch_selected_variables xs)
  grown_branch_times v none_standing ms xs u b b' h =
      let one = ap (λ (l : StandingBranches). times v (branch_selected_variables l)) h.0 ∙ times-append v (selected_variables b) [] in
      let other = ap (λ (l : StandingBranches). times v (branch_selected_variables l)) h.1 ∙ times-append v (selected_variables b') [] in
      (omega (arith, one), omega (arith, other))
  grown_branch_times v (branch_standing w n ns) ms xs u b b' (inl h) =
      let below = grown_times v n h.0 h.1 u b b' h.2 in
      let old = times-append v (selected_variables n) (branch_selected_variables ns) in
      let one = ap (λ (l : StandingBranches). times v (branch_selected_variables l)) h.3 ∙ times-append v (selected_variables h.0) (branch_selected_variables ns) in
      let other = ap (λ (l : StandingBranches). times v (branch_selected_variables l)) h.4 ∙ times-append v (selected_variables h.1) (branch_selected_variables ns) in
      (omega (arith, below.0, old, one), omega (arith, below.1, old, other))
  grown_branch_times v (branch_standing w n ns) ms xs u b b' (inr h) =
      let below = grown_branch_times v ns h.0 h.1 u b b' h.2 in
      let old = times-append v (selected_variables n) (branch_selected_variables ns) in
      let one = ap (λ (l : StandingBranches). times v (branch_selected_variables l)) h.3 ∙ times-append v (selected_variables n) (branch_selected_variables h.0) in
      let other = ap (λ (l : StandingBranches). times v (branch_selected_variables l)) h.4 ∙ times-append v (selected_variables n) (branch_selected_variables h.1) in
      (omega (arith, below.0, old, one), omega (arith, below.1, old, other))
