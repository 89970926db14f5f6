-- The extensions of a tree, from those of the trees below its root.
use Rattle.std.proofs.Common.{ℕ, List, [], ◌++◌, ◌≡◌, Bool, not, refl, sym, ap, ap₂, ◌∙◌, subst, inl, inr, All, Contains, map}
use Rattle.std.proofs.lemmas.List.{map-append}
use Rattle.std.proofs.lemmas.List.Elements.{All-append, All-map, All-nil, All-weaker, Contains-append_left, Contains-append_right}
use Rattle.hol_terms.specs.Terms.{SimpleType, Term, free, truth_type}
use Rattle.hol_terms.specs.Indices.{instance_of}
use Rattle.hol_conv.specs.Conversion.{Long}
use Rattle.hol_conv.proofs.Normals.{one_normal_form}
use Rattle.expansion_tree.specs.Standing.{Standing, at_negation, at_connective, at_selection, at_expansion, StandingBranches, branch_standing, Stands, BranchesStand, IsNormalFormula, compound_of, negation_of, quantified, selecting, expanding, left_polarity}
use Rattle.expansion_tree.specs.Trees.{ExpansionTree, leaf_node, constant_node, negation_node, connective_node, selection_node, expansion_node, ExpansionBranches, branch}
use Rattle.expansion_tree.specs.declared.trees.Op.{Op}
use Rattle.grown_trees.specs.Growths.{AreGrown, AreBranchesGrown, IsBare, IsGrown}
use Rattle.term_lists.proofs.Members.{mapped-contains}
use Rattle.tree_growth.specs.Growths.{Allowance, AreBranchExtensions, AreExtensions, GrownBranches, GrownTree, IsAllowed, IsBranchExtension, IsBranchNamesake, IsExtension, IsNamesake}
use Rattle.tree_growth.specs.Extending.{Extend, ExtendBranches}
use Rattle.tree_growth.specs.Wrapped.{behind_branch, in_first_branch, left_of, right_of, under_expansion, under_negation, under_selection}
use Rattle.tree_growth.proofs.Inverting.{below_negation, below_connective, below_selection, below_expansion, stands_negation, stands_connective, stands_selection, stands_expansion, stands_branch, stands_at_normal}

-- no node to expand

no_extension : (d : Allowance) (p : Bool) (a : Term) (s : Standing) (gs : List GrownTree) → gs ≡ []
    → ((u : Term) (b t : Standing) → IsGrown u b s t → ⊥) → AreExtensions d p a s gs
no_extension d p a s gs e none = record { each = subst (All (IsExtension d p a s)) (sym e) (All-nil (IsExtension d p a s)); all = λ u b t tree allowed grown bare stands. absurd (none u b t grown) }

pub extend_leaf : (d : Allowance) (p : Bool) (a : Term) (gs : List GrownTree) → gs ≡ [] → Extend d p a leaf_node gs
extend_leaf d p a gs e s h = no_extension d p a s gs e (λ u b t grown. subst (λ (x : Standing). IsGrown u b x t) h grown)

pub extend_constant : (d : Allowance) (p : Bool) (a : Term) (gs : List GrownTree) → gs ≡ [] → Extend d p a constant_node gs
extend_constant d p a gs e s h = no_extension d p a s gs e (λ u b t grown. subst (λ (x : Standing). IsGrown u b x t) h.2 grown)

-- below a negation

negation_extensions : (d : Allowance) (p : Bool) (a b : Term) (n : Standing) (gs : List GrownTree) → a ≡ negation_of b → AreExtensions d (not p) b n gs
    → AreExtensions d p a (at_negation n) (map under_negation gs)
negation_extensions d p a b n gs e below = record { each = All-map (IsExtension d p a (at_negation n)) under_negation gs (All-weaker (IsExtension d (not p) b n) (λ g. IsExtension d p a (at_negation n) (under_negation g)) one gs below.each); all = all }
  where
    one : (g : GrownTree) → IsExtension d (not p) b n g → IsExtension d p a (at_negation n) (under_negation g)
    one g x = record {
      term = x.term;
      allowed = x.allowed;
      inner = x.inner;
      standing = at_negation x.standing;
      grown = (x.standing, x.standing, x.grown, refl, refl);
      stands = (b, e, x.standing, x.stands, refl);
      new = x.new;
    }

    all : (u : Term) (c t : Standing) (tree : ExpansionTree) → IsAllowed d u → IsGrown u c (at_negation n) t → IsBare c → Stands p a tree t
        → (g : GrownTree) × Contains (map under_negation gs) g × IsNamesake d p a (at_negation n) u c t g
    all u c t tree allowed grown bare stands =
        let whole : at_negation grown.1 ≡ at_negation grown.0 = sym grown.4 ∙ grown.3 in
        let same : grown.1 ≡ grown.0 = cc in
        let inner : IsGrown u c n grown.0 = subst (λ (x : Standing). AreGrown u c c n grown.0 x) same grown.2 in
        let found = stands_negation p a b tree grown.0 t e grown.3 stands in
        let x = below.all u c grown.0 found.0 allowed inner bare found.1 in (
          under_negation x.0,
          mapped-contains under_negation gs x.0 x.1,
          record {
            inner = x.2.inner;
            standing = at_negation x.2.standing;
            grown = (x.2.standing, grown.0, x.2.grown, refl, grown.3);
            stands = (b, e, x.2.standing, x.2.stands, refl);
            new = x.2.new;
          },
        )

pub extend_negation : (d : Allowance) (p : Bool) (a b : Term) (t : ExpansionTree) (gs hs : List GrownTree) → a ≡ negation_of b → Extend d (not p) b t gs
    → hs ≡ map under_negation gs → Extend d p a (negation_node t) hs
extend_negation d p a b t gs hs e below f s h =
    let x = below_negation p a b t s e h in
    let here = negation_extensions d p a b x.0 gs e (below x.0 x.1) in
    subst (λ (r : Standing). AreExtensions d p a r hs) (sym x.2) (subst (AreExtensions d p a (at_negation x.0)) (sym f) here)

-- beside a tree

compound_extensions : (d : Allowance) (op : Op) (p : Bool) (a b c : Term) (t u : ExpansionTree) (m n : Standing) (gs hs : List GrownTree) → a ≡ compound_of op b c
    → Stands (left_polarity op p) b t m → Stands p c u n → AreExtensions d (left_polarity op p) b m gs → AreExtensions d p c n hs
    → AreExtensions d p a (at_connective op p m n) (map (left_of op u) gs ++ map (right_of op t) hs)
compound_extensions d op p a b c t u m n gs hs e left_stands right_stands left right = record { each = each; all = all }
  where
    one_left : (g : GrownTree) → IsExtension d (left_polarity op p) b m g → IsExtension d p a (at_connective op p m n) (left_of op u g)
    one_left g x = record {
      term = x.term;
      allowed = x.allowed;
      inner = x.inner;
      standing = at_connective op p x.standing n;
      grown = inl (x.standing, x.standing, x.grown, refl, refl);
      stands = (b, c, e, x.standing, x.stands, n, right_stands, refl);
      new = x.new;
    }

    one_right : (g : GrownTree) → IsExtension d p c n g → IsExtension d p a (at_connective op p m n) (right_of op t g)
    one_right g x = record {
      term = x.term;
      allowed = x.allowed;
      inner = x.inner;
      standing = at_connective op p m x.standing;
      grown = inr (x.standing, x.standing, x.grown, refl, refl);
      stands = (b, c, e, m, left_stands, x.standing, x.stands, refl);
      new = x.new;
    }

    each : All (IsExtension d p a (at_connective op p m n)) (map (left_of op u) gs ++ map (right_of op t) hs)
    each =
        All-append (IsExtension d p a (at_connective op p m n)) (map (left_of op u) gs) (map (right_of op t) hs)
        (All-map (IsExtension d p a (at_connective op p m n)) (left_of op u) gs (All-weaker (IsExtension d (left_polarity op p) b m) (λ g. IsExtension d p a (at_connective op p m n) (left_of op u g)) one_left gs left.each))
        (All-map (IsExtension d p a (at_connective op p m n)) (right_of op t) hs (All-weaker (IsExtension d p c n) (λ g. IsExtension d p a (at_connective op p m n) (right_of op t g)) one_right hs right.each))

    all : (w : Term) (k r : Standing) (tree : ExpansionTree) → IsAllowed d w → IsGrown w k (at_connective op p m n) r → IsBare k → Stands p a tree r
        → (g : GrownTree) × Contains (map (left_of op u) gs ++ map (right_of op t) hs) g × IsNamesake d p a (at_connective op p m n) w k r g
    all w k r tree allowed (inl grown) bare stands =
        let whole : at_connective op p grown.1 n ≡ at_connective op p grown.0 n = sym grown.4 ∙ grown.3 in
        let same : grown.1 ≡ grown.0 = cc in
        let inner : IsGrown w k m grown.0 = subst (λ (x : Standing). AreGrown w k k m grown.0 x) same grown.2 in
        let found = stands_connective op p a b c tree grown.0 n r e grown.3 stands in
        let x = left.all w k grown.0 found.0 allowed inner bare found.1 in (
          left_of op u x.0,
          Contains-append_left (map (left_of op u) gs) (map (right_of op t) hs) (left_of op u x.0) (mapped-contains (left_of op u) gs x.0 x.1),
          record {
            inner = x.2.inner;
            standing = at_connective op p x.2.standing n;
            grown = inl (x.2.standing, grown.0, x.2.grown, refl, grown.3);
            stands = (b, c, e, x.2.standing, x.2.stands, n, right_stands, refl);
            new = x.2.new;
          },
        )
    all w k r tree allowed (inr grown) bare stands =
        let whole : at_connective op p m grown.1 ≡ at_connective op p m grown.0 = sym grown.4 ∙ grown.3 in
        let same : grown.1 ≡ grown.0 = cc in
        let inner : IsGrown w k n grown.0 = subst (λ (x : Standing). AreGrown w k k n grown.0 x) same grown.2 in
        let found = stands_connective op p a b c tree m grown.0 r e grown.3 stands in
        let x = right.all w k grown.0 found.2 allowed inner bare found.3 in (
          right_of op t x.0,
          Contains-append_right (map (left_of op u) gs) (map (right_of op t) hs) (right_of op t x.0) (mapped-contains (right_of op t) hs x.0 x.1),
          record {
            inner = x.2.inner;
            standing = at_connective op p m x.2.standing;
            grown = inr (x.2.standing, grown.0, x.2.grown, refl, grown.3);
            stands = (b, c, e, m, left_stands, x.2.standing, x.2.stands, refl);
            new = x.2.new;
          },
        )

pub extend_compound : (d : Allowance) (op : Op) (p : Bool) (a b c : Term) (t u : ExpansionTree) (gs hs all : List GrownTree) → a ≡ compound_of op b c
    → Extend d (left_polarity op p) b t gs → Extend d p c u hs → all ≡ map (left_of op u) gs ++ map (right_of op t) hs → Extend d p a (connective_node op t u) all
extend_compound d op p a b c t u gs hs all e left right f s h =
    let x = below_connective op p a b c t u s e h in
    let here = compound_extensions d op p a b c t u x.0 x.2 gs hs e x.1 x.3 (left x.0 x.1) (right x.2 x.3) in
    subst (λ (r : Standing). AreExtensions d p a r all) (sym x.4) (subst (AreExtensions d p a (at_connective op p x.0 x.2)) (sym f) here)

-- below a selection

selection_extensions : (d : Allowance) (name : List ℕ) (p : Bool) (a b : Term) (ty : SimpleType) (n : Standing) (gs : List GrownTree) → a ≡ quantified (selecting p ty) ty b
    → AreExtensions d p (instance_of b (free name ty)) n gs → AreExtensions d p a (at_selection (name, ty) n) (map (under_selection name) gs)
selection_extensions d name p a b ty n gs e below = record { each = All-map (IsExtension d p a (at_selection (name, ty) n)) (under_selection name) gs (All-weaker (IsExtension d p (instance_of b (free name ty)) n) (λ g. IsExtension d p a (at_selection (name, ty) n) (under_selection name g)) one gs below.each); all = all }
  where
    one : (g : GrownTree) → IsExtension d p (instance_of b (free name ty)) n g → IsExtension d p a (at_selection (name, ty) n) (under_selection name g)
    one g x = record {
      term = x.term;
      allowed = x.allowed;
      inner = x.inner;
      standing = at_selection (name, ty) x.standing;
      grown = (x.standing, x.standing, x.grown, refl, refl);
      stands = (ty, b, e, x.standing, x.stands, refl);
      new = x.new;
    }

    all : (u : Term) (c t : Standing) (tree : ExpansionTree) → IsAllowed d u → IsGrown u c (at_selection (name, ty) n) t → IsBare c → Stands p a tree t
        → (g : GrownTree) × Contains (map (under_selection name) gs) g × IsNamesake d p a (at_selection (name, ty) n) u c t g
    all u c t tree allowed grown bare stands =
        let whole : at_selection (name, ty) grown.1 ≡ at_selection (name, ty) grown.0 = sym grown.4 ∙ grown.3 in
        let same : grown.1 ≡ grown.0 = cc in
        let inner : IsGrown u c n grown.0 = subst (λ (x : Standing). AreGrown u c c n grown.0 x) same grown.2 in
        let found = stands_selection name p a b ty tree grown.0 t e grown.3 stands in
        let x = below.all u c grown.0 found.0 allowed inner bare found.1 in (
          under_selection name x.0,
          mapped-contains (under_selection name) gs x.0 x.1,
          record {
            inner = x.2.inner;
            standing = at_selection (name, ty) x.2.standing;
            grown = (x.2.standing, grown.0, x.2.grown, refl, grown.3);
            stands = (ty, b, e, x.2.standing, x.2.stands, refl);
            new = x.2.new;
          },
        )

pub extend_selection : (d : Allowance) (name : List ℕ) (p : Bool) (a b : Term) (ty : SimpleType) (t : ExpansionTree) (gs hs : List GrownTree)
    → a ≡ quantified (selecting p ty) ty b → Extend d p (instance_of b (free name ty)) t gs → hs ≡ map (under_selection name) gs → Extend d p a (selection_node name t) hs
extend_selection d name p a b ty t gs hs e below f s h =
    let x = below_selection name p a b ty t s e h in
    let here = selection_extensions d name p a b ty x.0 gs e (below x.0 x.1) in
    subst (λ (r : Standing). AreExtensions d p a r hs) (sym x.2) (subst (AreExtensions d p a (at_selection (name, ty) x.0)) (sym f) here)

-- below an expansion

expansion_extensions : (d : Allowance) (p : Bool) (a b : Term) (ty : SimpleType) (ns : StandingBranches) (gs : List GrownBranches) → a ≡ quantified (expanding p ty) ty b
    → AreBranchExtensions d p ty b ns gs → AreExtensions d p a (at_expansion p ns) (map under_expansion gs)
expansion_extensions d p a b ty ns gs e below = record { each = All-map (IsExtension d p a (at_expansion p ns)) under_expansion gs (All-weaker (IsBranchExtension d p ty b ns) (λ g. IsExtension d p a (at_expansion p ns) (under_expansion g)) one gs below.each); all = all }
  where
    one : (g : GrownBranches) → IsBranchExtension d p ty b ns g → IsExtension d p a (at_expansion p ns) (under_expansion g)
    one g x = record {
      term = x.term;
      allowed = x.allowed;
      inner = x.inner;
      standing = at_expansion p x.standing;
      grown = (x.standing, x.standing, x.grown, refl, refl);
      stands = (ty, b, e, x.standing, x.stands, refl);
      new = x.new;
    }

    all : (u : Term) (c t : Standing) (tree : ExpansionTree) → IsAllowed d u → IsGrown u c (at_expansion p ns) t → IsBare c → Stands p a tree t
        → (g : GrownTree) × Contains (map under_expansion gs) g × IsNamesake d p a (at_expansion p ns) u c t g
    all u c t tree allowed grown bare stands =
        let whole : at_expansion p grown.1 ≡ at_expansion p grown.0 = sym grown.4 ∙ grown.3 in
        let same : grown.1 ≡ grown.0 = cc in
        let inner : AreBranchesGrown u c c ns grown.0 grown.0 = subst (λ (x : StandingBranches). AreBranchesGrown u c c ns grown.0 x) same grown.2 in
        let found = stands_expansion p a b ty tree grown.0 t e grown.3 stands in
        let x = below.all u c grown.0 found.0 allowed inner bare found.1 in (
          under_expansion x.0,
          mapped-contains under_expansion gs x.0 x.1,
          record {
            inner = x.2.inner;
            standing = at_expansion p x.2.standing;
            grown = (x.2.standing, grown.0, x.2.grown, refl, grown.3);
            stands = (ty, b, e, x.2.standing, x.2.stands, refl);
            new = x.2.new;
          },
        )

pub extend_expansion : (d : Allowance) (p : Bool) (a b : Term) (ty : SimpleType) (bs : ExpansionBranches) (gs : List GrownBranches) (hs : List GrownTree)
    → a ≡ quantified (expanding p ty) ty b → ExtendBranches d p ty b bs gs → hs ≡ map under_expansion gs → Extend d p a (expansion_node bs) hs
extend_expansion d p a b ty bs gs hs e below f s h =
    let x = below_expansion p a b ty bs s e h in
    let here = expansion_extensions d p a b ty x.0 gs e (below x.0 x.1) in
    subst (λ (r : Standing). AreExtensions d p a r hs) (sym x.2) (subst (AreExtensions d p a (at_expansion p x.0)) (sym f) here)

-- in the first branch, and after it

branch_extensions : (d : Allowance) (p : Bool) (ty : SimpleType) (b w a : Term) (t : ExpansionTree) (bs : ExpansionBranches) (n : Standing) (ns : StandingBranches)
    (gs : List GrownTree) (hs : List GrownBranches) → Long [] w ty → IsNormalFormula a (instance_of b w) → Stands p a t n → BranchesStand p ty b bs ns
    → AreExtensions d p a n gs → AreBranchExtensions d p ty b ns hs
    → AreBranchExtensions d p ty b (branch_standing w n ns) (map (in_first_branch w bs) gs ++ map (behind_branch w t) hs)
branch_extensions d p ty b w a t bs n ns gs hs long normal tree_stands rest_stands first rest = record { each = each; all = all }
  where
    one_first : (g : GrownTree) → IsExtension d p a n g → IsBranchExtension d p ty b (branch_standing w n ns) (in_first_branch w bs g)
    one_first g x = record {
      term = x.term;
      allowed = x.allowed;
      inner = x.inner;
      standing = branch_standing w x.standing ns;
      grown = inl (x.standing, x.standing, x.grown, refl, refl);
      stands = (long, a, normal, x.standing, x.stands, ns, rest_stands, refl);
      new = x.new;
    }

    one_behind : (g : GrownBranches) → IsBranchExtension d p ty b ns g → IsBranchExtension d p ty b (branch_standing w n ns) (behind_branch w t g)
    one_behind g x = record {
      term = x.term;
      allowed = x.allowed;
      inner = x.inner;
      standing = branch_standing w n x.standing;
      grown = inr (x.standing, x.standing, x.grown, refl, refl);
      stands = (long, a, normal, n, tree_stands, x.standing, x.stands, refl);
      new = x.new;
    }

    each : All (IsBranchExtension d p ty b (branch_standing w n ns)) (map (in_first_branch w bs) gs ++ map (behind_branch w t) hs)
    each =
        All-append (IsBranchExtension d p ty b (branch_standing w n ns)) (map (in_first_branch w bs) gs) (map (behind_branch w t) hs)
        (All-map (IsBranchExtension d p ty b (branch_standing w n ns)) (in_first_branch w bs) gs (All-weaker (IsExtension d p a n) (λ g. IsBranchExtension d p ty b (branch_standing w n ns) (in_first_branch w bs g)) one_first gs first.each))
        (All-map (IsBranchExtension d p ty b (branch_standing w n ns)) (behind_branch w t) hs (All-weaker (IsBranchExtension d p ty b ns) (λ g. IsBranchExtension d p ty b (branch_standing w n ns) (behind_branch w t g)) one_behind hs rest.each))

    all : (u : Term) (c : Standing) (ms : StandingBranches) (others : ExpansionBranches) → IsAllowed d u → AreBranchesGrown u c c (branch_standing w n ns) ms ms → IsBare c
        → BranchesStand p ty b others ms
        → (g : GrownBranches) × Contains (map (in_first_branch w bs) gs ++ map (behind_branch w t) hs) g × IsBranchNamesake d p ty b (branch_standing w n ns) u c ms g
    all u c ms others allowed (inl grown) bare stands =
        let whole : branch_standing w grown.1 ns ≡ branch_standing w grown.0 ns = sym grown.4 ∙ grown.3 in
        let same : grown.1 ≡ grown.0 = cc in
        let inner : IsGrown u c n grown.0 = subst (λ (x : Standing). AreGrown u c c n grown.0 x) same grown.2 in
        let found = stands_branch p b ty others w grown.0 ns ms grown.3 stands in
        let here = stands_at_normal p found.3 grown.0 found.1 a (instance_of b w) found.2 normal found.4 in
        let x = first.all u c grown.0 found.3 allowed inner bare here in (
          in_first_branch w bs x.0,
          Contains-append_left (map (in_first_branch w bs) gs) (map (behind_branch w t) hs) (in_first_branch w bs x.0) (mapped-contains (in_first_branch w bs) gs x.0 x.1),
          record {
            inner = x.2.inner;
            standing = branch_standing w x.2.standing ns;
            grown = inl (x.2.standing, grown.0, x.2.grown, refl, grown.3);
            stands = (long, a, normal, x.2.standing, x.2.stands, ns, rest_stands, refl);
            new = x.2.new;
          },
        )
    all u c ms others allowed (inr grown) bare stands =
        let whole : branch_standing w n grown.1 ≡ branch_standing w n grown.0 = sym grown.4 ∙ grown.3 in
        let same : grown.1 ≡ grown.0 = cc in
        let inner : AreBranchesGrown u c c ns grown.0 grown.0 = subst (λ (x : StandingBranches). AreBranchesGrown u c c ns grown.0 x) same grown.2 in
        let found = stands_branch p b ty others w n grown.0 ms grown.3 stands in
        let x = rest.all u c grown.0 found.5 allowed inner bare found.6 in (
          behind_branch w t x.0,
          Contains-append_right (map (in_first_branch w bs) gs) (map (behind_branch w t) hs) (behind_branch w t x.0) (mapped-contains (behind_branch w t) hs x.0 x.1),
          record {
            inner = x.2.inner;
            standing = branch_standing w n x.2.standing;
            grown = inr (x.2.standing, grown.0, x.2.grown, refl, grown.3);
            stands = (long, a, normal, n, tree_stands, x.2.standing, x.2.stands, refl);
            new = x.2.new;
          },
        )

pub extend_branch : (d : Allowance) (p : Bool) (ty : SimpleType) (b w : Term) (t : ExpansionTree) (bs : ExpansionBranches) (gs : List GrownTree) (hs all : List GrownBranches)
    → ((a : Term) → IsNormalFormula a (instance_of b w) → Extend d p a t gs) → ExtendBranches d p ty b bs hs
    → all ≡ map (in_first_branch w bs) gs ++ map (behind_branch w t) hs → ExtendBranches d p ty b (branch w t bs) all
extend_branch d p ty b w t bs gs hs all first rest f ns h =
    let here = branch_extensions d p ty b w h.1 t bs h.3 h.5 gs hs h.0 h.2 h.4 h.6 (first h.1 h.2 h.3 h.4) (rest h.5 h.6) in
    subst (λ (r : StandingBranches). AreBranchExtensions d p ty b r all) (sym h.7) (subst (AreBranchExtensions d p ty b (branch_standing w h.3 h.5)) (sym f) here)

-- two lists put together, as they are listed
pub mapped_append : {A B : Type 0} (f : A → B) (all xs ys : List A) (us vs : List B) → all ≡ xs ++ ys → map f xs ≡ us → map f ys ≡ vs → map f all ≡ us ++ vs
mapped_append f all xs ys us vs e left right = ap (map f) e ∙ map-append f xs ys ∙ ap₂ (λ us vs. us ++ vs) left right

-- a formula has one long normal form
pub extend_at_normal : (d : Allowance) (p : Bool) (a c instance : Term) (t : ExpansionTree) (gs : List GrownTree) → IsNormalFormula a instance → IsNormalFormula c instance
    → Extend d p a t gs → Extend d p c t gs
extend_at_normal d p a c instance t gs h g extended =
    let same : a ≡ c = one_normal_form [] instance a c truth_type h g in subst (λ (x : Term). Extend d p x t gs) same extended
