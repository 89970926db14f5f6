-- The lists of a search have a tree that is a proof, where there is one of that weight.
use Rattle.std.proofs.Common.{◌≡◌, ◌<◌, ◌≤◌, ◌+◌, ℕ, List, Bool, true, Contains, length, refl, sym, subst, arith}
use Rattle.std.proofs.lemmas.List.Elements.{All-contains, All-from_recursion}
use Rattle.hol_terms.specs.Terms.{Term, Variable, free, bound, constant, application, abstraction}
use Rattle.hol_terms.specs.Typing.{IsFormula}
use Rattle.hol_terms.specs.Truth.{IsAtom, IsTautology}
use Rattle.expansion_tree.specs.Budgets.{HasVariableHead, IsFill, IsInBudget}
use Rattle.expansion_tree.specs.Faults.{IsTree}
use Rattle.expansion_tree.specs.Fitted.{FittedTree, FitsAs}
use Rattle.expansion_tree.specs.Occurrences.{term_weight, tree_weight}
use Rattle.expansion_tree.specs.Standing.{Standing, deep_formula, leaves, paths, selected_variables, selections}
use Rattle.expansion_tree.specs.Trees.{ExpansionTree}
use Rattle.expansion_tree.proofs.Excluding.{tree-unique}
use Rattle.dependency.specs.Stages.{StagedTree, staged_variables, stages, standing_of}
use Rattle.dependency.proofs.Climbs.{staged_acyclic}
use Rattle.dependency.proofs.Weighing.{stages_weigh}
use Rattle.vertical_paths.proofs.Spanning.{spanned_tautology}
use Rattle.proof_text.specs.Texts.{Proof}
use Rattle.grown_trees.specs.Growths.{IsBare, IsGrown}
use Rattle.grown_trees.specs.Searches.{IsSearched}
use Rattle.grown_trees.specs.Targets.{AreNoFill}
use Rattle.grown_trees.proofs.Every.{every_contained}
use Rattle.grown_trees.proofs.Searching.{search_finds}
use Rattle.term_lists.proofs.SpineLaws.{weight_positive}
use Rattle.tree_growth.specs.Growths.{GrownTree}
use Rattle.plain_search.specs.Levels.{AreLevels, IsNumberedBelow, trees_at}
use Rattle.plain_search.specs.Proofs.{IsProofInBudget}
use Rattle.plain_search.specs.Trials.{CanBeMated}
use Rattle.plain_search.proofs.Keeping.{after_all, numbered_no_fill}
use Rattle.plain_search.proofs.Staged.{grow_staged}

-- a formula whose head is a variable is an atom
pub variable_atom : (t : Term) → HasVariableHead t → IsAtom t
variable_atom (free n s) h = tt
variable_atom (bound i) h = absurd h
variable_atom (constant c) h = absurd h
variable_atom (abstraction s b) h = absurd h
variable_atom (application (free n s) a) h = tt
variable_atom (application (bound i) a) h = absurd h
variable_atom (application (constant c) a) h = absurd h
variable_atom (application (abstraction s b) a) h = absurd h
variable_atom (application (application (free n s) a) b) h = tt
variable_atom (application (application (bound i) a) b) h = absurd h
variable_atom (application (application (constant c) a) b) h = absurd h
variable_atom (application (application (abstraction s d) a) b) h = absurd h
variable_atom (application (application (application f d) a) b) h = tt

-- what a bare branch adds to a tree's weight
grown_weighs : (formula : Term) (t t' : ExpansionTree) (g : StagedTree) (u : Term) (b s' : Standing) → IsTree formula t (standing_of g) → IsTree formula t' s' → IsGrown u b (standing_of g) s' → IsBare b
    → tree_weight t' ≡ tree_weight t + term_weight u
grown_weighs formula t t' g u b s' before after grown bare =
    let late = after_all (stages 0 g) (staged_variables 0 g) in
    let more = grow_staged g 0 late.0 u b b s' s' late.1 bare late.2 grown in
    let old = stages_weigh true before.normal t (standing_of g) g before.stands refl in
    let new = stages_weigh true after.normal t' s' more.0 after.stands more.1 in
    let sum = more.2.weighs in
    omega (arith, old, new, sum)

-- a tree of the lists, of at most the weight, stands so
abbrev IsListed : Term → List (List GrownTree) → ℕ → Standing → Type 0
IsListed formula levels weight s = (c : GrownTree) × Contains (trees_at levels (tree_weight c.0)) c × IsTree formula c.0 s × (tree_weight c.0 ≤ weight)

-- the lists have a tree of at most the weight that some mating makes a proof
abbrev pub IsReached : Term → List (List GrownTree) → ℕ → Type 0
IsReached formula levels weight = (c : GrownTree) × Contains (trees_at levels (tree_weight c.0)) c × (tree_weight c.0 ≤ weight) × CanBeMated formula c.0

module _ (formula : Term) (level weight : ℕ) (levels : List (List GrownTree)) (are : AreLevels formula level levels) where
  in_list : (w : ℕ) (c : GrownTree) → Contains (trees_at levels w) c → Contains (trees_at levels (tree_weight c.0)) c
  in_list w c there = subst (λ (w : ℕ). Contains (trees_at levels w) c) (sym (are.candidates w c there).weighs) there

  listed : weight < length levels → IsSearched formula weight level (IsListed formula levels weight)
  listed enough = record {
    start = (
        let c = are.first.0 in
        let candidate = are.candidates 0 c are.first.1 in
        let s : Standing = standing_of candidate.staged in
        let no_fill : AreNoFill (selected_variables s) =
        All-from_recursion (λ (v : Variable). IsFill v → ⊥) (selected_variables s) (every_contained (λ (v : Variable). IsFill v → ⊥) (selected_variables s) (λ v there.
        let one = All-contains (IsNumberedBelow c.1.next) (selected_variables s) v candidate.named there in numbered_no_fill one.0 v one.2)) in
        let light = candidate.weighs in (
          s,
          c.0,
          (c, in_list 0 c are.first.1, candidate.is_tree, omega (arith, light)),
          candidate.is_tree,
          are.first.2 s candidate.is_tree,
          no_fill,
        )
        );
    grows = λ s t u b' s' t' there tree grown bare after over light.
        let c = there.0 in
        let candidate = are.candidates (tree_weight c.0) c there.1 in
        let same : standing_of candidate.staged ≡ s = tree-unique formula c.0 (standing_of candidate.staged) s candidate.is_tree there.2 in
        let sum : tree_weight t' ≡ tree_weight c.0 + term_weight u =
        grown_weighs formula c.0 t' candidate.staged u b' s' candidate.is_tree after (subst (λ (s : Standing). IsGrown u b' s s') (sym same) grown) bare in
        let namesake = are.grown (tree_weight c.0) (term_weight u) c there.1 (weight_positive u) (omega (arith, sum, light, enough)) s u b' s' t' there.2 grown bare after over refl in
        let e : GrownTree = namesake.0 in
        let heavier = (are.candidates (tree_weight c.0 + term_weight u) e namesake.1).weighs in (
          namesake.3,
          namesake.2,
          e.0,
          (e, in_list (tree_weight c.0 + term_weight u) e namesake.1, namesake.5, omega (arith, heavier, sum, light)),
          namesake.4,
          namesake.6,
          namesake.5,
          namesake.7,
        );
  }

  mated : (r : Standing) → IsListed formula levels weight r → IsTautology (deep_formula r) → IsReached formula levels weight
  mated r there tautology =
      let c = there.0 in
      let candidate = are.candidates (tree_weight c.0) c there.1 in
      let same : standing_of candidate.staged ≡ r = tree-unique formula c.0 (standing_of candidate.staged) r candidate.is_tree there.2 in (
        c,
        there.1,
        there.3,
        record {
          standing = standing_of candidate.staged;
          is_tree = candidate.is_tree;
          atoms = All-from_recursion (λ (leaf : Bool × Term). IsAtom leaf.1) (leaves (standing_of candidate.staged)) (every_contained (λ (leaf : Bool × Term). IsAtom leaf.1) (leaves (standing_of candidate.staged)) (λ leaf there.
              variable_atom leaf.1 (All-contains (λ (leaf : Bool × Term). HasVariableHead leaf.1) (leaves (standing_of candidate.staged)) leaf candidate.atoms there)));
          acyclic = staged_acyclic true candidate.is_tree.normal c.0 (standing_of candidate.staged) candidate.staged candidate.is_tree.stands refl candidate.in_order;
          tautology = subst (λ (s : Standing). IsTautology (deep_formula s)) (sym same) tautology;
        },
      )

-- for each proof within the budget they have one that weighs no more
pub proof_reached : (formula : Term) (level weight : ℕ) (levels : List (List GrownTree)) (p : Proof) → IsFormula formula → AreLevels formula level levels → IsProofInBudget formula weight level p → tree_weight p.tree < length levels
    → IsReached formula levels (tree_weight p.tree)
proof_reached formula level weight levels p is_formula are proof enough =
    let s : Standing = proof.standing in
    let most : ℕ = tree_weight p.tree in
    let is_tree : IsTree formula p.tree s = subst (λ (a : Term). IsTree a p.tree s) proof.of proof.proof.is_tree in
    let f : FittedTree = record { formula = formula; tree = p.tree; leaf_list = leaves s; selection_list = selections s; path_list = paths s } in
    let fits : FitsAs f s = record { is_tree = is_tree; leaf_list = refl; selection_list = refl; path_list = refl } in
    let tautology : IsTautology (deep_formula s) = spanned_tautology f p.mating s fits proof.proof.good proof.proof.spans in
    let budget : IsInBudget formula most level p.tree s = record { light = omega arith; atoms = proof.budget.atoms; heads = proof.budget.heads } in
    let found =
    search_finds formula most level p.tree s (IsListed formula levels most) is_formula (listed formula level most levels are enough) is_tree proof.proof.acyclic tautology budget in
    mated formula level most levels are found.0 found.2 found.4
