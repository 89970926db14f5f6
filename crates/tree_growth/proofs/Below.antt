-- Where a tree stands at a formula, the trees below its root stand at the formula's parts.
use Rattle.std.proofs.Common.{ℕ, ◌≤◌, List, ◌≡◌, Bool, not, refl, sym, ap, ◌∙◌, subst}
use Rattle.hol_terms.specs.Terms.{SimpleType, Constant, Term, free}
use Rattle.hol_terms.specs.Indices.{instance_of}
use Rattle.expansion_tree.specs.Standing.{Standing, StandingBranches, none_standing, branch_standing, Stands, BranchesStand, IsNormalFormula, compound_of, negation_of, quantified, selecting, expanding, left_polarity}
use Rattle.expansion_tree.specs.Trees.{ExpansionTree, connective_node, expansion_node, negation_node, selection_node, ExpansionBranches, no_branch, branch, node_count}
use Rattle.expansion_tree.specs.declared.trees.Op.{Op}
use Rattle.expansion_tree.proofs.Counting.{node_count-positive}
use Rattle.expansion_tree.proofs.Formulas.{expanding_is}
use Rattle.tree_growth.proofs.Inverting.{below_negation, below_connective, below_selection, below_expansion, stands_at_normal}

pub some_below_negation : (p : Bool) (a b : Term) (t : ExpansionTree) → a ≡ negation_of b → (s : Standing) × Stands p a (negation_node t) s
    → (n : Standing) × Stands (not p) b t n
some_below_negation p a b t e h = let x = below_negation p a b t h.0 e h.1 in (x.0, x.1)

pub some_at_left : (op : Op) (p : Bool) (a b c : Term) (t u : ExpansionTree) → a ≡ compound_of op b c → (s : Standing) × Stands p a (connective_node op t u) s
    → (n : Standing) × Stands (left_polarity op p) b t n
some_at_left op p a b c t u e h = let x = below_connective op p a b c t u h.0 e h.1 in (x.0, x.1)

pub some_at_right : (op : Op) (p : Bool) (a b c : Term) (t u : ExpansionTree) → a ≡ compound_of op b c → (s : Standing) × Stands p a (connective_node op t u) s
    → (n : Standing) × Stands p c u n
some_at_right op p a b c t u e h = let x = below_connective op p a b c t u h.0 e h.1 in (x.2, x.3)

pub some_below_selection : (name : List ℕ) (p : Bool) (a b c : Term) (ty : SimpleType) (t : ExpansionTree) → a ≡ quantified (selecting p ty) ty b
    → c ≡ instance_of b (free name ty) → (s : Standing) × Stands p a (selection_node name t) s → (n : Standing) × Stands p c t n
some_below_selection name p a b c ty t e f h =
    let x = below_selection name p a b ty t h.0 e h.1 in
    (x.0, subst (λ (y : Term). Stands p y t x.0) (sym f) x.1)

-- an expansion's quantifier, as the code tests it
pub expanding_from : (p : Bool) (a b : Term) (ty : SimpleType) → a ≡ quantified (selecting (not p) ty) ty b → a ≡ quantified (expanding p ty) ty b
expanding_from p a b ty e = e ∙ ap (λ (k : Constant). quantified k ty b) (sym (expanding_is p ty))

pub some_branches : (p : Bool) (a b : Term) (ty : SimpleType) (bs : ExpansionBranches) → a ≡ quantified (selecting (not p) ty) ty b
    → (s : Standing) × Stands p a (expansion_node bs) s → (ns : StandingBranches) × BranchesStand p ty b bs ns
some_branches p a b ty bs e h = let x = below_expansion p a b ty bs h.0 (expanding_from p a b ty e) h.1 in (x.0, x.1)

pub no_expansion : (p : Bool) (a : Term) (bs : ExpansionBranches) → (s : Standing) × Stands p a (expansion_node bs) s
    → ((ty : SimpleType) (b : Term) → a ≡ quantified (selecting (not p) ty) ty b → ⊥) → ⊥
no_expansion p a bs h none = none h.1.0 h.1.1 (h.1.2 ∙ ap (λ (k : Constant). quantified k h.1.0 h.1.1) (expanding_is p h.1.0))

pub some_first_branch : (p : Bool) (ty : SimpleType) (b u : Term) (t : ExpansionTree) (bs : ExpansionBranches) → (ns : StandingBranches) × BranchesStand p ty b (branch u t bs) ns
    → (ms : StandingBranches) × BranchesStand p ty b (branch u t no_branch) ms
some_first_branch p ty b u t bs h = (branch_standing u h.1.3 none_standing, (h.1.0, h.1.1, h.1.2, h.1.3, h.1.4, none_standing, refl, refl))

pub some_further_branches : (p : Bool) (ty : SimpleType) (b u : Term) (t : ExpansionTree) (bs : ExpansionBranches) → (ns : StandingBranches) × BranchesStand p ty b (branch u t bs) ns
    → (ms : StandingBranches) × BranchesStand p ty b bs ms
some_further_branches p ty b u t bs h = (h.1.5, h.1.6)

pub some_at_instance : (p : Bool) (ty : SimpleType) (a b u : Term) (t : ExpansionTree) → IsNormalFormula a (instance_of b u)
    → (ns : StandingBranches) × BranchesStand p ty b (branch u t no_branch) ns → (s : Standing) × Stands p a t s
some_at_instance p ty a b u t normal h = (h.1.3, stands_at_normal p t h.1.3 h.1.1 a (instance_of b u) h.1.2 normal h.1.4)

pub positive_count : (t : ExpansionTree) → 1 ≤ node_count t
positive_count t = node_count-positive t
