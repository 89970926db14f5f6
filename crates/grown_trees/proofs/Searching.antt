-- A search that goes through all trees within a weight comes to a proof where there is one.
use Rattle.std.proofs.Common.{◌≡◌, ◌≤◌, ◌+◌, ℕ, zero, suc, length, subst, arith}
use Rattle.hol_terms.specs.Terms.{Term}
use Rattle.hol_terms.specs.Typing.{IsFormula}
use Rattle.hol_terms.specs.Truth.{IsTautology}
use Rattle.expansion_tree.specs.Budgets.{IsInBudget}
use Rattle.expansion_tree.specs.Faults.{IsTree}
use Rattle.expansion_tree.specs.Occurrences.{occurrences_of, tree_weight}
use Rattle.expansion_tree.specs.Standing.{Standing, deep_formula, selections}
use Rattle.expansion_tree.specs.Trees.{ExpansionTree}
use Rattle.dependency.specs.Dependencies.{IsAcyclic}
use Rattle.dependency.specs.Stages.{StagedTree, staged_weight}
use Rattle.grown_trees.specs.Searches.{IsSearched}
use Rattle.grown_trees.specs.Targets.{IsTarget, Matches}
use Rattle.grown_trees.proofs.Ending.{each_step_weighs, last_step_is_proof}
use Rattle.grown_trees.proofs.Namesakes.{namesake_comes}
use Rattle.grown_trees.proofs.Next.{next_step}
use Rattle.grown_trees.proofs.Sending.{bare_comes}
use Rattle.grown_trees.proofs.Starting.{has_target}

abbrev IsFound : Term → ℕ → (Standing → Type 0) → Type 0
IsFound formula weight Searched = (r : Standing) × (w : ExpansionTree) × Searched r × IsTree formula w r × IsTautology (deep_formula r) × (tree_weight w ≤ weight)

module _ (formula : Term) (weight level n : ℕ) (Searched : Standing → Type 0) (is_formula : IsFormula formula) (searched : IsSearched formula weight level Searched) where
  -- from step k on, with so many steps left
  found_from : (left k : ℕ) (g : StagedTree) (s : Standing) (t : ExpansionTree) → k + left ≡ n → IsTarget formula level n g → staged_weight g ≤ weight → Searched s → IsTree formula t s → Matches k g s
      → IsFound formula weight Searched
  found_from zero k g s t e target small there tree h =
      let last : k ≡ n = omega (arith, e) in
      let h : Matches n g s = subst (λ (k : ℕ). Matches k g s) last h in
      let less = each_step_weighs formula level n n g t s target tree h in
      (s, t, there, tree, last_step_is_proof formula level n g t s is_formula target tree h, omega (arith, less, small))
  found_from (suc left) k g s t e target small there tree h =
      let x = next_step formula level n k g t s is_formula target tree h (omega (arith, e)) in
      let less = each_step_weighs formula level n (k + 1) g x.3 x.2 target x.6 x.7 in
      let y = searched.grows s t x.0 x.1 x.2 x.3 there tree x.4 x.5 x.6 x.8 (omega (arith, less, small)) in
      let z = namesake_comes formula level n k g x.0 y.1 x.1 s y.0 x.2 y.2 x.3 is_formula target x.7 y.4 y.6 x.6 y.7 y.5 x.5 h in
      let same = z.2 in
      found_from left (k + 1) z.0 y.0 y.2 (omega (arith, e)) z.1 (omega (arith, same, small)) y.3 y.6 z.3

  target_found : (g : StagedTree) → IsTarget formula level n g → staged_weight g ≤ weight → IsFound formula weight Searched
  target_found g target small =
      let s = searched.start in
      let x = bare_comes formula level n g s.1 s.0 is_formula target s.3 s.4 s.5 in
      let same = x.2 in
      found_from n 0 x.0 s.0 s.1 (omega arith) x.1 (omega (arith, same, small)) s.2 s.3 x.3

pub search_finds : (formula : Term) (weight level : ℕ) (t : ExpansionTree) (s : Standing) (Searched : Standing → Type 0) → IsFormula formula → IsSearched formula weight level Searched
    → IsTree formula t s → IsAcyclic (occurrences_of t) (selections s) → IsTautology (deep_formula s) → IsInBudget formula weight level t s
    → (r : Standing) × (w : ExpansionTree) × Searched r × IsTree formula w r × IsTautology (deep_formula r) × (tree_weight w ≤ weight)
search_finds formula weight level t s Searched is_formula searched tree acyclic tautology budget =
    let x = has_target formula weight level t s tree acyclic tautology budget in
    let same = x.2 in
    let light = budget.light in
    target_found formula weight level (length (occurrences_of t)) Searched is_formula searched x.0 x.1 (omega (arith, same, light))
