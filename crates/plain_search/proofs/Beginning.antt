-- The tree without a branch is a candidate.
use Rattle.std.proofs.Common.{◌≡◌, ◌≤◌, ◌+◌, ◌^◌, ◌↔◌, ℕ, List, [], Bool, true, All, Contains, sym, ap, subst, ◌∙◌, arith}
use Rattle.std.proofs.lemmas.List.Elements.{All-from_recursion}
use Rattle.hol_terms.specs.Terms.{Term, Variable}
use Rattle.hol_terms.specs.FreeVariables.{free_variables_of}
use Rattle.expansion_tree.specs.Budgets.{Head, HasVariableHead, IsSelected}
use Rattle.expansion_tree.specs.Faults.{AreNew, IsTree}
use Rattle.expansion_tree.specs.Standing.{IsNormalFormula, Standing, Stands, leaves, selected_variables}
use Rattle.expansion_tree.proofs.Excluding.{tree-unique}
use Rattle.dependency.specs.Stages.{Stage, stages, standing_of}
use Rattle.dependency.proofs.Elements.{none_there}
use Rattle.dependency.proofs.Weighing.{stages_weigh}
use Rattle.grown_trees.specs.Growths.{IsBare}
use Rattle.grown_trees.specs.Targets.{IsOverHeads}
use Rattle.grown_trees.proofs.Every.{every_contained}
use Rattle.grown_trees.proofs.Counted.{times}
use Rattle.tree_growth.specs.Growths.{GrownTree, HasNew, IsBareGrowth}
use Rattle.plain_search.specs.Levels.{IsBareCandidate, IsCandidate, IsNumberedBelow}
use Rattle.plain_search.specs.Tasks.{names_of}
use Rattle.plain_search.proofs.Keeping.{all_named, all_new, bare_atoms, selected_list}
use Rattle.plain_search.proofs.Staged.{bare_staged, bare_stages, bare_standing, weigh}

module _ (formula : Term) (level : ℕ) (normal : Term) (is_normal : IsNormalFormula normal formula) (from : ℕ) (c : GrownTree) (small : c.1.next ≤ 2 ^ 64) (s : Standing) (stands : Stands true normal c.0 s)
    (new : HasNew (names_of (free_variables_of formula)) from s c.1) where
  none_numbered : All (IsNumberedBelow from) []
  none_numbered = All-from_recursion (IsNumberedBelow from) [] tt

  sums : (v : Variable) → times v (selected_variables s) ≡ times v [] + times v (selected_variables s)
  sums v = omega arith

  fresh : AreNew (free_variables_of formula) (selected_variables s)
  fresh = all_new (free_variables_of formula) [] (selected_variables s) (selected_variables s) from c.1.next small tt none_numbered new.named sums

  named : All (IsNumberedBelow c.1.next) (selected_variables s)
  named = all_named (free_variables_of formula) [] (selected_variables s) (selected_variables s) from c.1.next small tt none_numbered new.named sums

  is_tree : IsTree formula c.0 s
  is_tree = record { normal = normal; is_normal = is_normal; stands = stands; selected = fresh }

  no_stage : (x : Stage) → Contains (stages 0 (bare_staged s)) x → ⊥
  no_stage x there = none_there x (subst (λ (l : List Stage). Contains l x) (bare_stages s 0) there)

  candidate : IsCandidate formula level 0 c
  candidate =
      let same : standing_of (bare_staged s) ≡ s = bare_standing s new.bare in record {
        staged = bare_staged s;
        is_tree = subst (IsTree formula c.0) (sym same) is_tree;
        in_order = record { inside = λ x there. absurd (no_stage x there); used = λ x v step there chosen is_free. absurd (no_stage x there) };
        atoms = subst (λ (s : Standing). All (λ (leaf : Bool × Term). HasVariableHead leaf.1) (leaves s)) (sym same)
            (All-from_recursion (λ (leaf : Bool × Term). HasVariableHead leaf.1) (leaves s) (every_contained (λ (leaf : Bool × Term). HasVariableHead leaf.1) (leaves s) (λ leaf there. bare_atoms s leaf new.bare there)));
        heads = All-from_recursion (λ (x : Stage). IsOverHeads formula level (selected_variables (standing_of (bare_staged s))) x.term) (stages 0 (bare_staged s))
            (every_contained (λ (x : Stage). IsOverHeads formula level (selected_variables (standing_of (bare_staged s))) x.term) (stages 0 (bare_staged s)) (λ x there. absurd (no_stage x there)));
        weighs = sym (stages_weigh true normal c.0 s (bare_staged s) stands same) ∙ ap weigh (bare_stages s 0);
        selected = λ h. subst (λ (s : Standing). Contains c.1.selected h ↔ IsSelected (selected_variables s) h) (sym same)
            (subst (λ (l : List Head). Contains l h ↔ IsSelected (selected_variables s) h) (sym new.selected) (selected_list (selected_variables s) h));
        named = subst (λ (s : Standing). All (IsNumberedBelow c.1.next) (selected_variables s)) (sym same) named;
      }

  pub bare_candidate : IsBareCandidate formula level c
  bare_candidate = (candidate, λ r other. subst IsBare (tree-unique formula c.0 s r is_tree other) new.bare)

pub bare_growth_candidate : (formula : Term) (level : ℕ) (normal : Term) (taken : List (List ℕ)) (from : ℕ) (c : GrownTree) → IsNormalFormula normal formula → taken ≡ names_of (free_variables_of formula) → c.1.next ≤ 2 ^ 64
    → IsBareGrowth taken from true normal c → IsBareCandidate formula level c
bare_growth_candidate formula level normal taken from c is_normal e small h =
    bare_candidate formula level normal is_normal from c small h.0 h.1 (subst (λ (taken : List (List ℕ)). HasNew taken from h.0 c.1) e h.2)
