-- The next step of a target.
use Rattle.std.proofs.Common.{◌≡◌, ◌≤◌, ◌<◌, ◌+◌, ℕ, List, [], true, Contains, arith, inl, inr, ◌⊎◌}
use Rattle.std.specs.List.{AllByRecursion}
use Rattle.std.proofs.lemmas.List.Elements.{All-contains, All-from_recursion, recursion_from_All}
use Rattle.hol_terms.specs.Terms.{Term, Variable, truth_type}
use Rattle.hol_terms.specs.Typing.{IsFormula}
use Rattle.hol_terms.specs.FreeVariables.{free_variables_of}
use Rattle.hol_conv.proofs.Normals.{one_normal_form}
use Rattle.expansion_tree.specs.Trees.{ExpansionTree}
use Rattle.expansion_tree.specs.Budgets.{Head, variable_head, constant_head, heads_of, IsInSignature, IsSelected}
use Rattle.expansion_tree.specs.Faults.{IsTree, AreNew}
use Rattle.expansion_tree.specs.Standing.{Standing, leaves, selected_variables}
use Rattle.dependency.specs.Stages.{StagedTree, standing_of, Stage, stages}
use Rattle.grown_trees.specs.Growths.{IsGrown, IsBare}
use Rattle.grown_trees.specs.Targets.{IsOverHeads, IsTarget, Matches}
use Rattle.grown_trees.proofs.Every.{every_contained}
use Rattle.grown_trees.proofs.Counted.{times_contains, new_counted, counted_new}
use Rattle.grown_trees.proofs.Fitting.{stands_fits, tree_of, fits_stands}
use Rattle.grown_trees.proofs.Selecting.{IsInside, matched_times, selected_staged, staged_selected, head_free}
use Rattle.grown_trees.proofs.Bareness.{IsAtomic}
use Rattle.grown_trees.proofs.Growing.{IsKnown, OnceAt, distinct_once, grow}

pub target_inside : (formula : Term) (level n : ℕ) (g : StagedTree) → IsTarget formula level n g → AllByRecursion IsInside (stages 0 g)
target_inside formula level n g h = every_contained IsInside (stages 0 g) h.in_order.inside

pub target_atomic : (formula : Term) (level n : ℕ) (g : StagedTree) → IsTarget formula level n g → AllByRecursion IsAtomic (leaves (standing_of g))
target_atomic formula level n g h = recursion_from_All IsAtomic (leaves (standing_of g)) h.atoms

-- what has come to a step selects new variables as the target does
pub matched_new : (formula : Term) (level n k : ℕ) (g : StagedTree) (s : Standing) → IsTarget formula level n g → Matches k g s → AreNew (free_variables_of formula) (selected_variables s)
matched_new formula level n k g s target h =
    let taken = free_variables_of formula in
    counted_new taken (selected_variables s) (λ v.
    let all = new_counted taken (selected_variables (standing_of g)) target.is_tree.selected v in
    let less = matched_times g k v s h in
    (omega (arith, all.0, less), λ there. let none = all.1 there in omega (arith, none, less)))

-- a variable of a target that is free in a term of a step is selected before it
pub selected_before : (formula : Term) (level n k : ℕ) (g : StagedTree) (s : Standing) (x : Stage) (v : Variable) → IsTarget formula level n g → Matches k g s → Contains (stages 0 g) x → x.step ≤ k + 1
    → Contains (heads_of x.term) (variable_head v) → Contains (selected_variables (standing_of g)) v → Contains (selected_variables s) v
selected_before formula level n k g s x v target h there early used among =
    let q = selected_staged g 0 v among in
    let less : q.0 < x.step = target.in_order.used x v q.0 there q.1 (head_free x.term v used) in
    times_contains v (selected_variables s) (staged_selected g 0 k s v q.0 (target_inside formula level n g target) h q.1 (omega (arith, less, early)))

next_over : (formula : Term) (level n k : ℕ) (g : StagedTree) (s : Standing) (x : Stage) → IsTarget formula level n g → Matches k g s → Contains (stages 0 g) x → x.step ≡ k + 1
    → IsOverHeads formula level (selected_variables s) x.term
next_over formula level n k g s x target h there at =
    let all : List Variable = selected_variables (standing_of g) in
    let Q : Head → Type 0 = λ head. IsInSignature formula level head ⊎ IsSelected all head in
    let R : Head → Type 0 = λ head. IsInSignature formula level head ⊎ IsSelected (selected_variables s) head in
    let own : IsOverHeads formula level all x.term = All-contains (λ (x : Stage). IsOverHeads formula level all x.term) (stages 0 g) x target.heads there in
    All-from_recursion R (heads_of x.term) (every_contained R (heads_of x.term) (λ head used. elim (All-contains Q (heads_of x.term) head own used) [
      | inl known ↦ inl known
      | inr among ↦ inr (go head used among)
    ]))
  where
    go : (head : Head) → Contains (heads_of x.term) head → IsSelected (selected_variables (standing_of g)) head → IsSelected (selected_variables s) head
    go (variable_head v) used among = selected_before formula level n k g s x v target h there (omega (arith, at)) used among
    go (constant_head c) used among = among

pub next_step : (formula : Term) (level n k : ℕ) (g : StagedTree) (t : ExpansionTree) (s : Standing) → IsFormula formula → IsTarget formula level n g → IsTree formula t s → Matches k g s → k < n
    → (u : Term) × (b' : Standing) × (s' : Standing) × (t' : ExpansionTree)
    × IsGrown u b' s s' × IsBare b' × IsTree formula t' s' × Matches (k + 1) g s' × IsOverHeads formula level (selected_variables s) u
next_step formula level n k g t s is_formula target tree h less =
    let P : Term → Type 0 = IsOverHeads formula level (selected_variables s) in
    let same = one_normal_form [] formula target.is_tree.normal tree.normal truth_type target.is_tree.is_normal tree.is_normal in
    let once : OnceAt (k + 1) (stages 0 g) = distinct_once (k + 1) (stages 0 g) target.steps.once (target.steps.all (k + 1) (omega arith) (omega (arith, less))) in
    let growth = grow g P 0 k true target.is_tree.normal tree.normal s same once
    (every_contained (IsKnown P k) (stages 0 g) (λ x there. (target.in_order.inside x there, λ at. next_over formula level n k g s x target h there at)))
    (target_atomic formula level n g target) (stands_fits target.tree true target.is_tree.normal (standing_of g) target.is_tree.stands) (stands_fits t true tree.normal s tree.stands) h in (
      growth.term,
      growth.tree,
      growth.grown,
      tree_of growth.grown,
      growth.is_grown,
      growth.is_bare,
      record {
        normal = tree.normal;
        is_normal = tree.is_normal;
        stands = fits_stands growth.grown true tree.normal growth.fits;
        selected = matched_new formula level n (k + 1) g growth.grown target growth.matches;
      },
      growth.matches,
      growth.wanted,
    )
