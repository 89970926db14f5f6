-- What a fitted tree is, from what the walk found.
use Rattle.std.proofs.Common.{◌≡◌, ℕ, List, [], true, ap, subst}
use Rattle.hol_terms.specs.Terms.{Term, Variable}
use Rattle.hol_terms.specs.FreeVariables.{free_variables_of}
use Rattle.expansion_tree.specs.declared.faults.FitFault.{FitFault}
use Rattle.expansion_tree.specs.declared.faults.FitFault.TheVariants.{Memory, Misfit, BadTerm, BadVariable}
use Rattle.expansion_tree.specs.declared.found.Found.{Found}
use Rattle.expansion_tree.specs.declared.matrices.Matrix.{Matrix}
use Rattle.expansion_tree.specs.Trees.{ExpansionTree}
use Rattle.expansion_tree.specs.Standing.{Standing, IsNormalFormula}
use Rattle.expansion_tree.specs.Faults.{IsTree, FirstFault, IsFirstFault}
use Rattle.expansion_tree.specs.Stood.{Findings, Stood, UnlessMemory, findings_of}
use Rattle.expansion_tree.specs.Fitted.{IsFitted}
use Rattle.expansion_tree.specs.Kept.{fitted_with}
use Rattle.expansion_tree.proofs.Excluding.{first_fault_excludes}

-- where there is a first fault, the tree is no expansion tree of the formula
pub no_tree : (formula : Term) (tree : ExpansionTree) (e : FitFault) → UnlessMemory e (IsFirstFault formula tree e) → UnlessMemory e ((s : Standing) → IsTree formula tree s → ⊥)
no_tree formula tree Memory h = tt
no_tree formula tree (Misfit k) h = λ s. first_fault_excludes formula tree s (Misfit k) h
no_tree formula tree (BadTerm k) h = λ s. first_fault_excludes formula tree s (BadTerm k) h
no_tree formula tree (BadVariable k) h = λ s. first_fault_excludes formula tree s (BadVariable k) h

-- what was stood from nothing is fitted
pub root_fitted : (formula normal : Term) (tree : ExpansionTree) (old : Findings) (found : Found) (m : Matrix) (end : ℕ)
    → IsNormalFormula normal formula → old ≡ record { leaf_list = []; selection_list = []; taken = free_variables_of formula }
    → Stood true normal tree 1 old (findings_of found) m end → IsFitted (fitted_with formula tree found m)
root_fitted formula normal tree old found m end is_normal none x =
    let from_none = subst (λ (f : Findings). Stood true normal tree 1 f (findings_of found) m end) none x in (
      from_none.standing,
      record {
        is_tree = record { normal = normal; is_normal = is_normal; stands = from_none.stands; selected = from_none.fresh };
        leaf_list = ap (λ (f : Findings). f.leaf_list) from_none.added;
        selection_list = ap (λ (f : Findings). f.selection_list) from_none.added;
        path_list = from_none.path_list;
      },
    )

pub root_fault : (formula normal : Term) (tree : ExpansionTree) (taken : List Variable) (e : FitFault)
    → IsNormalFormula normal formula → taken ≡ free_variables_of formula
    → UnlessMemory e (FirstFault taken true normal tree 1 e) → UnlessMemory e (IsFirstFault formula tree e)
root_fault formula normal tree taken Memory n f h = tt
root_fault formula normal tree taken (Misfit k) n f h = (normal, n, subst (λ (l : List Variable). FirstFault l true normal tree 1 (Misfit k)) f h)
root_fault formula normal tree taken (BadTerm k) n f h = (normal, n, subst (λ (l : List Variable). FirstFault l true normal tree 1 (BadTerm k)) f h)
root_fault formula normal tree taken (BadVariable k) n f h = (normal, n, subst (λ (l : List Variable). FirstFault l true normal tree 1 (BadVariable k)) f h)
