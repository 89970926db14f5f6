-- What a tree is that stands in a given way, and what stands below it.
use Rattle.std.proofs.Common.{ℕ, List, [], ◌≡◌, Bool, not, sym, ap, ◌∙◌, subst}
use Rattle.hol_terms.specs.Terms.{SimpleType, Term, free, Variable, truth_type}
use Rattle.hol_terms.specs.Indices.{instance_of}
use Rattle.hol_conv.specs.Conversion.{Long}
use Rattle.hol_conv.proofs.Normals.{one_normal_form}
use Rattle.expansion_tree.specs.Standing.{Standing, at_leaf, at_constant, at_negation, at_connective, at_selection, at_expansion, StandingBranches, none_standing, branch_standing, Stands, BranchesStand, IsNormalFormula, compound_of, negation_of, quantified, selecting, expanding, left_polarity}
use Rattle.expansion_tree.specs.Trees.{ExpansionTree, leaf_node, constant_node, negation_node, connective_node, selection_node, expansion_node, ExpansionBranches, no_branch, branch}
use Rattle.expansion_tree.specs.declared.trees.Op.{Op}

-- the tree below a node, where the parts of the formula are given

pub below_negation : (p : Bool) (a b : Term) (t : ExpansionTree) (s : Standing) → a ≡ negation_of b → Stands p a (negation_node t) s
    → (n : Standing) × Stands (not p) b t n × (s ≡ at_negation n)
below_negation p a b t s e h =
    let same : h.0 ≡ b = cc (h.1, e) in
    (h.2, subst (λ (x : Term). Stands (not p) x t h.2) same h.3, h.4)

pub below_connective : (op : Op) (p : Bool) (a b c : Term) (t u : ExpansionTree) (s : Standing) → a ≡ compound_of op b c → Stands p a (connective_node op t u) s
    → (m : Standing) × Stands (left_polarity op p) b t m × (n : Standing) × Stands p c u n × (s ≡ at_connective op p m n)
below_connective op p a b c t u s e h =
    let left : h.0 ≡ b = cc (h.2, e) in
    let right : h.1 ≡ c = cc (h.2, e) in
    (h.3, subst (λ (x : Term). Stands (left_polarity op p) x t h.3) left h.4, h.5, subst (λ (x : Term). Stands p x u h.5) right h.6, h.7)

pub below_selection : (name : List ℕ) (p : Bool) (a b : Term) (ty : SimpleType) (t : ExpansionTree) (s : Standing) → a ≡ quantified (selecting p ty) ty b
    → Stands p a (selection_node name t) s → (n : Standing) × Stands p (instance_of b (free name ty)) t n × (s ≡ at_selection (name, ty) n)
below_selection name p a b ty t s e h =
    let type : h.0 ≡ ty = cc (h.2, e) in
    let body : h.1 ≡ b = cc (h.2, e) in
    let at_type : Stands p (instance_of h.1 (free name ty)) t h.3 = subst (λ (q : SimpleType). Stands p (instance_of h.1 (free name q)) t h.3) type h.4 in
    (h.3, subst (λ (x : Term). Stands p (instance_of x (free name ty)) t h.3) body at_type, subst (λ (q : SimpleType). s ≡ at_selection (name, q) h.3) type h.5)

pub below_expansion : (p : Bool) (a b : Term) (ty : SimpleType) (bs : ExpansionBranches) (s : Standing) → a ≡ quantified (expanding p ty) ty b
    → Stands p a (expansion_node bs) s → (ns : StandingBranches) × BranchesStand p ty b bs ns × (s ≡ at_expansion p ns)
below_expansion p a b ty bs s e h =
    let type : h.0 ≡ ty = cc (h.2, e) in
    let body : h.1 ≡ b = cc (h.2, e) in
    let at_type : BranchesStand p ty h.1 bs h.3 = subst (λ (q : SimpleType). BranchesStand p q h.1 bs h.3) type h.4 in
    (h.3, subst (λ (x : Term). BranchesStand p ty x bs h.3) body at_type, h.5)

-- a tree that stands as a negation, and so on

pub stands_negation : (p : Bool) (a b : Term) (tree : ExpansionTree) (m s : Standing) → a ≡ negation_of b → s ≡ at_negation m → Stands p a tree s
    → (t : ExpansionTree) × Stands (not p) b t m
stands_negation p a b leaf_node m s e is h = let bad : at_negation m ≡ at_leaf p a = sym is ∙ h in absurd (cc)
stands_negation p a b constant_node m s e is h = let bad : at_negation m ≡ at_constant p h.0 = sym is ∙ h.2 in absurd (cc)
stands_negation p a b (negation_node t) m s e is h =
    let below = below_negation p a b t s e h in
    let whole : at_negation below.0 ≡ at_negation m = sym below.2 ∙ is in
    let same : below.0 ≡ m = cc in
    (t, subst (Stands (not p) b t) same below.1)
stands_negation p a b (connective_node op t u) m s e is h = let bad : at_negation m ≡ at_connective op p h.3 h.5 = sym is ∙ h.7 in absurd (cc)
stands_negation p a b (selection_node name t) m s e is h = let bad : at_negation m ≡ at_selection (name, h.0) h.3 = sym is ∙ h.5 in absurd (cc)
stands_negation p a b (expansion_node bs) m s e is h = let bad : at_negation m ≡ at_expansion p h.3 = sym is ∙ h.5 in absurd (cc)

pub stands_connective : (op : Op) (p : Bool) (a b c : Term) (tree : ExpansionTree) (m n s : Standing) → a ≡ compound_of op b c → s ≡ at_connective op p m n → Stands p a tree s
    → (t : ExpansionTree) × Stands (left_polarity op p) b t m × (u : ExpansionTree) × Stands p c u n
stands_connective op p a b c leaf_node m n s e is h = let bad : at_connective op p m n ≡ at_leaf p a = sym is ∙ h in absurd (cc)
stands_connective op p a b c constant_node m n s e is h = let bad : at_connective op p m n ≡ at_constant p h.0 = sym is ∙ h.2 in absurd (cc)
stands_connective op p a b c (negation_node t) m n s e is h = let bad : at_connective op p m n ≡ at_negation h.2 = sym is ∙ h.4 in absurd (cc)
stands_connective op p a b c (connective_node o t u) m n s e is h =
    let whole : at_connective o p h.3 h.5 ≡ at_connective op p m n = sym h.7 ∙ is in
    let same : o ≡ op = cc in
    let below = below_connective op p a b c t u s e (subst (λ (x : Op). Stands p a (connective_node x t u) s) same h) in
    let parts : at_connective op p below.0 below.2 ≡ at_connective op p m n = sym below.4 ∙ is in
    let left : below.0 ≡ m = cc in
    let right : below.2 ≡ n = cc in
    (t, subst (Stands (left_polarity op p) b t) left below.1, u, subst (Stands p c u) right below.3)
stands_connective op p a b c (selection_node name t) m n s e is h = let bad : at_connective op p m n ≡ at_selection (name, h.0) h.3 = sym is ∙ h.5 in absurd (cc)
stands_connective op p a b c (expansion_node bs) m n s e is h = let bad : at_connective op p m n ≡ at_expansion p h.3 = sym is ∙ h.5 in absurd (cc)

pub stands_selection : (name : List ℕ) (p : Bool) (a b : Term) (ty : SimpleType) (tree : ExpansionTree) (m s : Standing) → a ≡ quantified (selecting p ty) ty b
    → s ≡ at_selection (name, ty) m → Stands p a tree s → (t : ExpansionTree) × Stands p (instance_of b (free name ty)) t m
stands_selection name p a b ty leaf_node m s e is h = let bad : at_selection (name, ty) m ≡ at_leaf p a = sym is ∙ h in absurd (cc)
stands_selection name p a b ty constant_node m s e is h = let bad : at_selection (name, ty) m ≡ at_constant p h.0 = sym is ∙ h.2 in absurd (cc)
stands_selection name p a b ty (negation_node t) m s e is h = let bad : at_selection (name, ty) m ≡ at_negation h.2 = sym is ∙ h.4 in absurd (cc)
stands_selection name p a b ty (connective_node op t u) m s e is h = let bad : at_selection (name, ty) m ≡ at_connective op p h.3 h.5 = sym is ∙ h.7 in absurd (cc)
stands_selection name p a b ty (selection_node other t) m s e is h =
    let below = below_selection other p a b ty t s e h in
    let whole : at_selection (other, ty) below.0 ≡ at_selection (name, ty) m = sym below.2 ∙ is in
    let of_type : List ℕ → Variable = λ n. (n, ty) in
    let variable : of_type other ≡ of_type name = cc in
    let inner : below.0 ≡ m = cc in
    let same : other ≡ name = ap (λ (v : Variable). v.0) variable in
    (t, subst (λ (x : List ℕ). Stands p (instance_of b (free x ty)) t m) same (subst (Stands p (instance_of b (free other ty)) t) inner below.1))
stands_selection name p a b ty (expansion_node bs) m s e is h = let bad : at_selection (name, ty) m ≡ at_expansion p h.3 = sym is ∙ h.5 in absurd (cc)

pub stands_expansion : (p : Bool) (a b : Term) (ty : SimpleType) (tree : ExpansionTree) (ms : StandingBranches) (s : Standing) → a ≡ quantified (expanding p ty) ty b
    → s ≡ at_expansion p ms → Stands p a tree s → (bs : ExpansionBranches) × BranchesStand p ty b bs ms
stands_expansion p a b ty leaf_node ms s e is h = let bad : at_expansion p ms ≡ at_leaf p a = sym is ∙ h in absurd (cc)
stands_expansion p a b ty constant_node ms s e is h = let bad : at_expansion p ms ≡ at_constant p h.0 = sym is ∙ h.2 in absurd (cc)
stands_expansion p a b ty (negation_node t) ms s e is h = let bad : at_expansion p ms ≡ at_negation h.2 = sym is ∙ h.4 in absurd (cc)
stands_expansion p a b ty (connective_node op t u) ms s e is h = let bad : at_expansion p ms ≡ at_connective op p h.3 h.5 = sym is ∙ h.7 in absurd (cc)
stands_expansion p a b ty (selection_node name t) ms s e is h = let bad : at_expansion p ms ≡ at_selection (name, h.0) h.3 = sym is ∙ h.5 in absurd (cc)
stands_expansion p a b ty (expansion_node bs) ms s e is h =
    let below = below_expansion p a b ty bs s e h in
    let whole : at_expansion p below.0 ≡ at_expansion p ms = sym below.2 ∙ is in
    let same : below.0 ≡ ms = cc in
    (bs, subst (BranchesStand p ty b bs) same below.1)

-- and branches that stand as a first one and others

pub stands_branch : (p : Bool) (b : Term) (ty : SimpleType) (bs : ExpansionBranches) (w : Term) (m : Standing) (ms ns : StandingBranches) → ns ≡ branch_standing w m ms
    → BranchesStand p ty b bs ns
    → Long [] w ty × (a : Term) × IsNormalFormula a (instance_of b w) × (t : ExpansionTree) × Stands p a t m × (more : ExpansionBranches) × BranchesStand p ty b more ms
stands_branch p b ty no_branch w m ms ns is h = let bad : branch_standing w m ms ≡ none_standing = sym is ∙ h in absurd (cc)
stands_branch p b ty (branch u t bs) w m ms ns is h =
    let whole : branch_standing u h.3 h.5 ≡ branch_standing w m ms = sym h.7 ∙ is in
    let term : u ≡ w = cc in
    let tree : h.3 ≡ m = cc in
    let more : h.5 ≡ ms = cc in
    (subst (λ (x : Term). Long [] x ty) term h.0, h.1, subst (λ (x : Term). IsNormalFormula h.1 (instance_of b x)) term h.2, t, subst (Stands p h.1 t) tree h.4, bs, subst (BranchesStand p ty b bs) more h.6)

-- the tree of a branch stands at the one long normal form
pub stands_at_normal : (p : Bool) (t : ExpansionTree) (m : Standing) (a c instance : Term) → IsNormalFormula a instance → IsNormalFormula c instance → Stands p a t m → Stands p c t m
stands_at_normal p t m a c instance h g stands =
    let same : a ≡ c = one_normal_form [] instance a c truth_type h g in subst (λ (x : Term). Stands p x t m) same stands
