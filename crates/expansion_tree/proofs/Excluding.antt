-- A tree stands at a formula in one way at most, and in none where it has a first fault.
use Rattle.std.proofs.Common.{◌≡◌, ℕ, ◌+◌, List, [], ◌∷◌, ◌++◌, Bool, true, false, not, refl, sym, ◌∙◌, ap, ap₂, subst, inl, inr}
use Rattle.std.specs.Prelude.{Contains}
use Rattle.hol_terms.specs.Terms.{SimpleType, Term, free, Variable, truth_type}
use Rattle.hol_terms.specs.Indices.{instance_of}
use Rattle.hol_terms.specs.FreeVariables.{free_variables_of}
use Rattle.hol_conv.specs.Conversion.{Long}
use Rattle.hol_conv.proofs.Normals.{one_normal_form}
use Rattle.expansion_tree.specs.declared.faults.FitFault.{FitFault}
use Rattle.expansion_tree.specs.Trees.{ExpansionTree, leaf_node, constant_node, negation_node, connective_node, selection_node, expansion_node, ExpansionBranches, no_branch, branch, node_count}
use Rattle.expansion_tree.specs.Standing.{Standing, StandingBranches, at_leaf, at_constant, at_negation, at_connective, at_selection, at_expansion, branch_standing, Stands, BranchesStand, IsNormalFormula, truth_value, left_polarity, selected_variables, branch_selected_variables}
use Rattle.expansion_tree.specs.Faults.{AreNew, IsTree, FirstFault, FirstBranchFault, IsFirstFault}
use Rattle.expansion_tree.proofs.Walks.{are_new-left, are_new-right}

values : (v w : Bool) → truth_value v ≡ truth_value w → v ≡ w
values true true x = refl
values false false x = refl
values true false x = cc
values false true x = cc

mutual
  -- a tree stands at a formula in one way at most
  pub stands-unique : (t : ExpansionTree) (p : Bool) (a c : Term) (s r : Standing) → a ≡ c → Stands p a t s → Stands p c t r → s ≡ r
  stands-unique leaf_node p a c s r e h g = h ∙ ap (at_leaf p) e ∙ sym g
  stands-unique constant_node p a c s r e h g =
      let same : truth_value h.0 ≡ truth_value g.0 = sym h.1 ∙ e ∙ g.1 in h.2 ∙ ap (at_constant p) (values h.0 g.0 same) ∙ sym g.2
  stands-unique (negation_node t) p a c s r e h g =
      let same : h.0 ≡ g.0 = cc (h.1, e, g.1) in
      h.4 ∙ ap at_negation (stands-unique t (not p) h.0 g.0 h.2 g.2 same h.3 g.3) ∙ sym g.4
  stands-unique (connective_node op t u) p a c s r e h g =
      let one : h.0 ≡ g.0 = cc (h.2, e, g.2) in
      let other : h.1 ≡ g.1 = cc (h.2, e, g.2) in
      let left : h.3 ≡ g.3 = stands-unique t (left_polarity op p) h.0 g.0 h.3 g.3 one h.4 g.4 in
      let right : h.5 ≡ g.5 = stands-unique u p h.1 g.1 h.5 g.5 other h.6 g.6 in
      h.7 ∙ ap (λ m. at_connective op p m h.5) left ∙ ap (λ n. at_connective op p g.3 n) right ∙ sym g.7
  stands-unique (selection_node name t) p a c s r e h g =
      let ty : h.0 ≡ g.0 = cc (h.2, e, g.2) in
      let body : h.1 ≡ g.1 = cc (h.2, e, g.2) in
      let instance : instance_of h.1 (free name h.0) ≡ instance_of g.1 (free name g.0) = ap₂ (λ (b : Term) (s : SimpleType). instance_of b (free name s)) body ty in
      let below : h.3 ≡ g.3 = stands-unique t p (instance_of h.1 (free name h.0)) (instance_of g.1 (free name g.0)) h.3 g.3 instance h.4 g.4 in
      h.5 ∙ ap₂ (λ (s : SimpleType) (n : Standing). at_selection (name, s) n) ty below ∙ sym g.5
  stands-unique (expansion_node bs) p a c s r e h g =
      let ty : h.0 ≡ g.0 = cc (h.2, e, g.2) in
      let body : h.1 ≡ g.1 = cc (h.2, e, g.2) in
      h.5 ∙ ap (at_expansion p) (branches_stand-unique bs p h.0 g.0 h.1 g.1 h.3 g.3 body h.4 g.4) ∙ sym g.5

  pub branches_stand-unique : (bs : ExpansionBranches) (p : Bool) (s r : SimpleType) (b d : Term) (ms ns : StandingBranches) → b ≡ d → BranchesStand p s b bs ms → BranchesStand p r d bs ns → ms ≡ ns
  branches_stand-unique no_branch p s r b d ms ns e h g = h ∙ sym g
  branches_stand-unique (branch u t bs) p s r b d ms ns e h g =
      let here : h.1 ≡ g.1 = one_normal_form [] (instance_of b u) h.1 g.1 truth_type h.2 (subst (λ (x : Term). IsNormalFormula g.1 (instance_of x u)) (sym e) g.2) in
      let first : h.3 ≡ g.3 = stands-unique t p h.1 g.1 h.3 g.3 here h.4 g.4 in
      let rest : h.5 ≡ g.5 = branches_stand-unique bs p s r b d h.5 g.5 e h.6 g.6 in
      h.7 ∙ ap₂ (λ (n : Standing) (more : StandingBranches). branch_standing u n more) first rest ∙ sym g.7

mutual
  -- a tree with a first fault doesn't stand with new variables
  pub fault_excludes : (t : ExpansionTree) (taken : List Variable) (p : Bool) (a c : Term) (s : Standing) (at : ℕ) (fault : FitFault)
      → a ≡ c → Stands p a t s → AreNew taken (selected_variables s) → FirstFault taken p c t at fault → ⊥
  fault_excludes leaf_node taken p a c s at fault e h new f = f
  fault_excludes constant_node taken p a c s at fault e h new f = f.1 h.0 (sym e ∙ h.1)
  fault_excludes (negation_node t) taken p a c s at fault e h new f =
      let fresh : AreNew taken (selected_variables (at_negation h.2)) = subst (λ (x : Standing). AreNew taken (selected_variables x)) h.4 new in
      elim f [
        | inl x ↦ x.1 h.0 (sym e ∙ h.1)
        | inr x ↦ fault_excludes t taken (not p) h.0 x.0 h.2 (at + 1) fault (cc (h.1, e, x.1)) h.3 fresh x.2
      ]
  fault_excludes (connective_node op t u) taken p a c s at fault e h new f =
      let fresh : AreNew taken (selected_variables h.3 ++ selected_variables h.5) = subst (λ (x : Standing). AreNew taken (selected_variables x)) h.7 new in
      elim f [
        | inl x ↦ x.1 h.0 h.1 (sym e ∙ h.2)
        | inr x ↦
            let one : h.0 ≡ x.0 = cc (h.2, e, x.2) in
            let other : h.1 ≡ x.1 = cc (h.2, e, x.2) in
            elim x.3 [
              | inl y ↦ fault_excludes t taken (left_polarity op p) h.0 x.0 h.3 (at + 1) fault one h.4 (are_new-left taken (selected_variables h.3) (selected_variables h.5) fresh) y
              | inr y ↦
                  let same : h.3 ≡ y.0 = stands-unique t (left_polarity op p) h.0 x.0 h.3 y.0 one h.4 y.1.0 in
                  let behind = are_new-right taken (selected_variables h.3) (selected_variables h.5) fresh in
                  fault_excludes u (taken ++ selected_variables y.0) p h.1 x.1 h.5 (at + 1 + node_count t) fault other h.6
                  (subst (λ (m : Standing). AreNew (taken ++ selected_variables m) (selected_variables h.5)) same behind) y.2
            ]
      ]
  fault_excludes (selection_node name t) taken p a c s at fault e h new f =
      let fresh : AreNew taken ((name, h.0) ∷ selected_variables h.3) = subst (λ (x : Standing). AreNew taken (selected_variables x)) h.5 new in
      elim f [
        | inl x ↦ x.1 h.0 h.1 (sym e ∙ h.2)
        | inr x ↦
            let ty : h.0 ≡ x.0 = cc (h.2, e, x.2) in
            let body : h.1 ≡ x.1 = cc (h.2, e, x.2) in
            elim x.3 [
              | inl y ↦ fresh.0 (subst (λ (r : SimpleType). Contains taken (name, r)) (sym ty) y.1)
              | inr y ↦
                  fault_excludes t (taken ++ (name, x.0) ∷ []) p (instance_of h.1 (free name h.0)) (instance_of x.1 (free name x.0)) h.3 (at + 1) fault
                  (ap₂ (λ (b : Term) (r : SimpleType). instance_of b (free name r)) body ty) h.4
                  (subst (λ (r : SimpleType). AreNew (taken ++ (name, r) ∷ []) (selected_variables h.3)) ty fresh.1) y.1
            ]
      ]
  fault_excludes (expansion_node bs) taken p a c s at fault e h new f =
      let fresh : AreNew taken (branch_selected_variables h.3) = subst (λ (x : Standing). AreNew taken (selected_variables x)) h.5 new in
      elim f [
        | inl x ↦ x.1 h.0 h.1 (sym e ∙ h.2)
        | inr x ↦
            let ty : h.0 ≡ x.0 = cc (h.2, e, x.2) in
            let body : h.1 ≡ x.1 = cc (h.2, e, x.2) in
            branch_fault_excludes bs taken p h.0 x.0 h.1 x.1 h.3 (at + 1) fault ty body h.4 fresh x.3
      ]

  pub branch_fault_excludes : (bs : ExpansionBranches) (taken : List Variable) (p : Bool) (s r : SimpleType) (b d : Term) (ns : StandingBranches) (at : ℕ) (fault : FitFault)
      → s ≡ r → b ≡ d → BranchesStand p s b bs ns → AreNew taken (branch_selected_variables ns) → FirstBranchFault taken p r d bs at fault → ⊥
  branch_fault_excludes no_branch taken p s r b d ns at fault same e h new f = f
  branch_fault_excludes (branch u t bs) taken p s r b d ns at fault same e h new f =
      let fresh : AreNew taken (selected_variables h.3 ++ branch_selected_variables h.5) = subst (λ (x : StandingBranches). AreNew taken (branch_selected_variables x)) h.7 new in
      elim f [
        | inl x ↦ x.1 (subst (λ (q : SimpleType). Long [] u q) same h.0)
        | inr x ↦
            let here : h.1 ≡ x.1 = one_normal_form [] (instance_of b u) h.1 x.1 truth_type h.2 (subst (λ (y : Term). IsNormalFormula x.1 (instance_of y u)) (sym e) x.2) in
            elim x.3 [
              | inl y ↦ fault_excludes t taken p h.1 x.1 h.3 at fault here h.4 (are_new-left taken (selected_variables h.3) (branch_selected_variables h.5) fresh) y
              | inr y ↦
                  let first : h.3 ≡ y.0 = stands-unique t p h.1 x.1 h.3 y.0 here h.4 y.1.0 in
                  let behind = are_new-right taken (selected_variables h.3) (branch_selected_variables h.5) fresh in
                  branch_fault_excludes bs (taken ++ selected_variables y.0) p s r b d h.5 (at + node_count t) fault same e h.6
                  (subst (λ (m : Standing). AreNew (taken ++ selected_variables m) (branch_selected_variables h.5)) first behind) y.2
            ]
      ]

-- an expansion tree of a formula stands in one way
pub tree-unique : (formula : Term) (tree : ExpansionTree) (s r : Standing) → IsTree formula tree s → IsTree formula tree r → s ≡ r
tree-unique formula tree s r h g =
    stands-unique tree true h.normal g.normal s r (one_normal_form [] formula h.normal g.normal truth_type h.is_normal g.is_normal) h.stands g.stands

-- a tree with a first fault is no expansion tree of the formula
pub first_fault_excludes : (formula : Term) (tree : ExpansionTree) (s : Standing) (fault : FitFault) → IsFirstFault formula tree fault → IsTree formula tree s → ⊥
first_fault_excludes formula tree s fault f h =
    fault_excludes tree (free_variables_of formula) true h.normal f.0 s 1 fault (one_normal_form [] formula h.normal f.0 truth_type h.is_normal f.1) h.stands h.selected f.2

mutual
  -- a tree has at most one first fault
  pub fault-unique : (t : ExpansionTree) (taken : List Variable) (p : Bool) (a c : Term) (at : ℕ) (e d : FitFault)
      → a ≡ c → FirstFault taken p a t at e → FirstFault taken p c t at d → e ≡ d
  fault-unique leaf_node taken p a c at e d same f g = absurd f
  fault-unique constant_node taken p a c at e d same f g = f.0 ∙ sym g.0
  fault-unique (negation_node t) taken p a c at e d same f g =
      elim f [
        | inl x ↦ elim g [ inl y ↦ x.0 ∙ sym y.0 | inr y ↦ absurd (x.1 y.0 (same ∙ y.1)) ]
        | inr x ↦ elim g [
          | inl y ↦ absurd (y.1 x.0 (sym same ∙ x.1))
          | inr y ↦ fault-unique t taken (not p) x.0 y.0 (at + 1) e d (cc (x.1, same, y.1)) x.2 y.2
        ]
      ]
  fault-unique (connective_node op t u) taken p a c at e d same f g =
      elim f [
        | inl x ↦ elim g [ inl y ↦ x.0 ∙ sym y.0 | inr y ↦ absurd (x.1 y.0 y.1 (same ∙ y.2)) ]
        | inr x ↦ elim g [
          | inl y ↦ absurd (y.1 x.0 x.1 (sym same ∙ x.2))
          | inr y ↦
              let one : x.0 ≡ y.0 = cc (x.2, same, y.2) in
              let other : x.1 ≡ y.1 = cc (x.2, same, y.2) in
              elim x.3 [
                | inl h ↦ elim y.3 [
                  | inl k ↦ fault-unique t taken (left_polarity op p) x.0 y.0 (at + 1) e d one h k
                  | inr k ↦ absurd (fault_excludes t taken (left_polarity op p) y.0 x.0 k.0 (at + 1) e (sym one) k.1.0 k.1.1 h)
                ]
                | inr h ↦ elim y.3 [
                  | inl k ↦ absurd (fault_excludes t taken (left_polarity op p) x.0 y.0 h.0 (at + 1) d one h.1.0 h.1.1 k)
                  | inr k ↦
                      let left : k.0 ≡ h.0 = stands-unique t (left_polarity op p) y.0 x.0 k.0 h.0 (sym one) k.1.0 h.1.0 in
                      fault-unique u (taken ++ selected_variables h.0) p x.1 y.1 (at + 1 + node_count t) e d other h.2
                      (subst (λ (m : Standing). FirstFault (taken ++ selected_variables m) p y.1 u (at + 1 + node_count t) d) left k.2)
                ]
              ]
        ]
      ]
  fault-unique (selection_node name t) taken p a c at e d same f g =
      elim f [
        | inl x ↦ elim g [ inl y ↦ x.0 ∙ sym y.0 | inr y ↦ absurd (x.1 y.0 y.1 (same ∙ y.2)) ]
        | inr x ↦ elim g [
          | inl y ↦ absurd (y.1 x.0 x.1 (sym same ∙ x.2))
          | inr y ↦
              let ty : x.0 ≡ y.0 = cc (x.2, same, y.2) in
              let body : x.1 ≡ y.1 = cc (x.2, same, y.2) in
              elim x.3 [
                | inl h ↦ elim y.3 [
                  | inl k ↦ h.0 ∙ sym k.0
                  | inr k ↦ absurd (k.0 (subst (λ (r : SimpleType). Contains taken (name, r)) ty h.1))
                ]
                | inr h ↦ elim y.3 [
                  | inl k ↦ absurd (h.0 (subst (λ (r : SimpleType). Contains taken (name, r)) (sym ty) k.1))
                  | inr k ↦
                      fault-unique t (taken ++ (name, x.0) ∷ []) p (instance_of x.1 (free name x.0)) (instance_of y.1 (free name y.0)) (at + 1) e d
                      (ap₂ (λ (b : Term) (r : SimpleType). instance_of b (free name r)) body ty) h.1
                      (subst (λ (r : SimpleType). FirstFault (taken ++ (name, r) ∷ []) p (instance_of y.1 (free name y.0)) t (at + 1) d) (sym ty) k.1)
                ]
              ]
        ]
      ]
  fault-unique (expansion_node bs) taken p a c at e d same f g =
      elim f [
        | inl x ↦ elim g [ inl y ↦ x.0 ∙ sym y.0 | inr y ↦ absurd (x.1 y.0 y.1 (same ∙ y.2)) ]
        | inr x ↦ elim g [
          | inl y ↦ absurd (y.1 x.0 x.1 (sym same ∙ x.2))
          | inr y ↦ branch_fault-unique bs taken p x.0 y.0 x.1 y.1 (at + 1) e d (cc (x.2, same, y.2)) (cc (x.2, same, y.2)) x.3 y.3
        ]
      ]

  pub branch_fault-unique : (bs : ExpansionBranches) (taken : List Variable) (p : Bool) (s r : SimpleType) (b c : Term) (at : ℕ) (e d : FitFault)
      → s ≡ r → b ≡ c → FirstBranchFault taken p s b bs at e → FirstBranchFault taken p r c bs at d → e ≡ d
  branch_fault-unique no_branch taken p s r b c at e d ty same f g = absurd f
  branch_fault-unique (branch u t bs) taken p s r b c at e d ty same f g =
      elim f [
        | inl x ↦ elim g [ inl y ↦ x.0 ∙ sym y.0 | inr y ↦ absurd (x.1 (subst (λ (q : SimpleType). Long [] u q) (sym ty) y.0)) ]
        | inr x ↦ elim g [
          | inl y ↦ absurd (y.1 (subst (λ (q : SimpleType). Long [] u q) ty x.0))
          | inr y ↦
              let here : x.1 ≡ y.1 = one_normal_form [] (instance_of b u) x.1 y.1 truth_type x.2 (subst (λ (z : Term). IsNormalFormula y.1 (instance_of z u)) (sym same) y.2) in
              elim x.3 [
                | inl h ↦ elim y.3 [
                  | inl k ↦ fault-unique t taken p x.1 y.1 at e d here h k
                  | inr k ↦ absurd (fault_excludes t taken p y.1 x.1 k.0 at e (sym here) k.1.0 k.1.1 h)
                ]
                | inr h ↦ elim y.3 [
                  | inl k ↦ absurd (fault_excludes t taken p x.1 y.1 h.0 at d here h.1.0 h.1.1 k)
                  | inr k ↦
                      let first : k.0 ≡ h.0 = stands-unique t p y.1 x.1 k.0 h.0 (sym here) k.1.0 h.1.0 in
                      branch_fault-unique bs (taken ++ selected_variables h.0) p s r b c (at + node_count t) e d ty same h.2
                      (subst (λ (m : Standing). FirstBranchFault (taken ++ selected_variables m) p r c bs (at + node_count t) d) first k.2)
                ]
              ]
        ]
      ]

-- there is at most one first fault
pub first_fault-unique : (formula : Term) (tree : ExpansionTree) (e d : FitFault) → IsFirstFault formula tree e → IsFirstFault formula tree d → e ≡ d
first_fault-unique formula tree e d f g =
    fault-unique tree (free_variables_of formula) true f.0 g.0 1 e d (one_normal_form [] formula f.0 g.0 truth_type f.1 g.1) f.2 g.2
