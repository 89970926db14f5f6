-- What an accepted proof says of its tree.
use Rattle.std.proofs.Common.{◌≡◌, ℕ, zero, suc, ◌+◌, List, [], ◌∷◌, ◌++◌, map, true, refl, sym, ◌∙◌, subst, ap, ap₂, arith}
use Rattle.std.specs.Prelude.{All, Contains}
use Rattle.std.proofs.lemmas.List.{map-append}
use Rattle.std.proofs.lemmas.List.Elements.{Contains-append_left, All-contains_itself}
use Rattle.hol_terms.specs.Terms.{Term, Variable, truth_type}
use Rattle.hol_terms.specs.FreeVariables.{IsFree, free_variables_of}
use Rattle.hol_terms.proofs.FreeLaws.{free_variables-contains}
use Rattle.hol_conv.proofs.Normals.{one_normal_form}
use Rattle.expansion_tree.specs.Standing.{Standing, at_leaf, at_constant, at_negation, at_connective, at_selection, at_expansion, StandingBranches, none_standing, branch_standing, Stands, Selection, selections, selections_from, branch_selections_from, selected_variables, branch_selected_variables, node_total, paths, IsNormalFormula}
use Rattle.expansion_tree.specs.Faults.{AreNew}
use Rattle.expansion_tree.proofs.Excluding.{tree-unique, stands-unique}
use Rattle.vertical_paths.specs.Matings.{is_closed, Spans}
use Rattle.exp_check.specs.Accepted.{AcceptedProof, IsAccepted}
use Rattle.refutations.specs.Covering.{Covers}
use Rattle.refutations.proofs.NormalVariables.{not_free_in_normal}
use Rattle.refutations.proofs.Paths.{path_found, covering_closed}

mutual
  -- the variables of the selections are the selected ones
  selection_variables : (at : ℕ) (s : Standing) → map (λ (x : Selection). x.variable) (selections_from at s) ≡ selected_variables s
  selection_variables at (at_leaf p a) = refl
  selection_variables at (at_constant p v) = refl
  selection_variables at (at_negation n) = selection_variables (at + 1) n
  selection_variables at (at_connective op p m n) =
      map-append (λ (x : Selection). x.variable) (selections_from (at + 1) m) (selections_from (at + 1 + node_total m) n)
      ∙ ap₂ (λ (x y : List Variable). x ++ y) (selection_variables (at + 1) m) (selection_variables (at + 1 + node_total m) n)
  selection_variables at (at_selection v n) = ap (λ (l : List Variable). v ∷ l) (selection_variables (at + 1) n)
  selection_variables at (at_expansion p ns) = branches_variables (at + 1) ns

  branches_variables : (at : ℕ) (ns : StandingBranches) → map (λ (x : Selection). x.variable) (branch_selections_from at ns) ≡ branch_selected_variables ns
  branches_variables at none_standing = refl
  branches_variables at (branch_standing u n ns) =
      map-append (λ (x : Selection). x.variable) (selections_from at n) (branch_selections_from (at + node_total n) ns)
      ∙ ap₂ (λ (x y : List Variable). x ++ y) (selection_variables at n) (branches_variables (at + node_total n) ns)

-- a variable that is selected isn't taken
untaken : (taken : List Variable) (xs : List Selection) (x : Selection) → AreNew taken (map (λ (x : Selection). x.variable) xs) → Contains xs x → Contains taken x.variable → ⊥
untaken taken [] x new (k, within, e) there = absurd (omega (arith, within))
untaken taken (y ∷ xs) x new (zero, within, e) there = new.0 (subst (λ (z : Selection). Contains taken z.variable) (sym e) there)
untaken taken (y ∷ xs) x new (suc k, within, e) there = untaken (taken ++ y.variable ∷ []) xs x new.1 (k, omega (arith, within), e) (Contains-append_left taken (y.variable ∷ []) x.variable there)

module _ (g : AcceptedProof) (accepted : IsAccepted g) where
  abbrev pub accepted_standing : Standing
  accepted_standing = accepted.fits.0

  -- the tree stands at the long normal form
  pub accepted_stands : (normal : Term) → IsNormalFormula normal g.fitted.formula → Stands true normal g.fitted.tree accepted_standing
  accepted_stands normal is_normal =
      let tree = accepted.fits.1.is_tree in
      let same : tree.normal ≡ normal = one_normal_form [] g.fitted.formula tree.normal normal truth_type tree.is_normal is_normal in
      subst (λ (a : Term). Stands true a g.fitted.tree accepted_standing) same tree.stands

  pub accepted_selections : All (Contains g.fitted.selection_list) (selections_from 1 accepted_standing)
  accepted_selections = subst (λ (l : List Selection). All (Contains l) (selections accepted_standing)) (sym accepted.fits.1.selection_list) (All-contains_itself (selections accepted_standing))

  -- a selected variable isn't free in the formula, nor in its long normal form
  pub accepted_new : (normal : Term) (x : Selection) → IsNormalFormula normal g.fitted.formula → Contains g.fitted.selection_list x → IsFree x.variable.0 x.variable.1 normal → ⊥
  accepted_new normal x is_normal there =
      not_free_in_normal x.variable.0 x.variable.1 g.fitted.formula normal accepted.proof.1.formula is_normal
      (λ used. untaken (free_variables_of g.fitted.formula) (selections accepted_standing) x new (subst (λ (l : List Selection). Contains l x) accepted.fits.1.selection_list there) ((free_variables-contains x.variable.0 x.variable.1 g.fitted.formula).1 used))
    where
      new : AreNew (free_variables_of g.fitted.formula) (map (λ (x : Selection). x.variable) (selections accepted_standing))
      new = subst (AreNew (free_variables_of g.fitted.formula)) (sym (selection_variables 1 accepted_standing)) accepted.fits.1.is_tree.selected

  pub accepted_spans : Spans g.mating (paths accepted_standing)
  accepted_spans =
      let same : accepted.proof.0 ≡ accepted_standing = tree-unique g.fitted.formula g.fitted.tree accepted.proof.0 accepted_standing accepted.proof.1.is_tree accepted.fits.1.is_tree in
      subst (λ (s : Standing). Spans g.mating (paths s)) same accepted.proof.1.spans

  -- leaves that cover the tree hold a pair
  pub accepted_covered : (normal : Term) (s : Standing) (found : List ℕ) → IsNormalFormula normal g.fitted.formula → Stands true normal g.fitted.tree s → Covers found 0 s → is_closed g.mating found ≡ true
  accepted_covered normal s found is_normal stands covers =
      let same : s ≡ accepted_standing = stands-unique g.fitted.tree true normal normal s accepted_standing refl stands (accepted_stands normal is_normal) in
      covering_closed g.mating found (paths accepted_standing) accepted_spans (path_found found 0 1 accepted_standing (omega arith) (subst (Covers found 0) same covers))
