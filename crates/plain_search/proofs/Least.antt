-- A candidate that is a proof lies within the budget, and where no lighter tree is one it is a proof of least weight.
use Rattle.std.proofs.Common.{◌≡◌, ◌<◌, ◌≤◌, ◌+◌, ℕ, List, true, All, Contains, length, map, sym, ap, subst, ◌∙◌, arith, inl, inr}
use Rattle.std.proofs.lemmas.List.Elements.{All-contains, All-from_recursion}
use Rattle.std.proofs.lemmas.Bool.{cases_lt}
use Rattle.hol_terms.specs.Terms.{Term}
use Rattle.hol_terms.specs.Typing.{IsFormula}
use Rattle.expansion_tree.specs.Budgets.{IsInBudget}
use Rattle.expansion_tree.specs.Faults.{IsTree}
use Rattle.expansion_tree.specs.Occurrences.{Occurrence, occurrences_of, tree_weight}
use Rattle.expansion_tree.specs.Standing.{Standing, selected_variables}
use Rattle.expansion_tree.specs.Trees.{ExpansionTree}
use Rattle.expansion_tree.proofs.Excluding.{tree-unique}
use Rattle.dependency.specs.Stages.{Stage, stages, standing_of}
use Rattle.dependency.proofs.Elements.{Contains-image, image_of}
use Rattle.dependency.proofs.Placed.{occurrence_there, occurrences_standing, places, places-occurrences, places-stages, stage_there}
use Rattle.exp_check.specs.Proofs.{IsProof}
use Rattle.proof_text.specs.Texts.{Proof}
use Rattle.grown_trees.specs.Targets.{IsOverHeads}
use Rattle.grown_trees.proofs.Every.{every_contained}
use Rattle.tree_growth.specs.Growths.{GrownTree}
use Rattle.plain_search.specs.Levels.{AreLevels, IsCandidate, trees_at}
use Rattle.plain_search.specs.Proofs.{IsLeastProof, IsProofInBudget}
use Rattle.plain_search.specs.Trials.{CanBeMated}
use Rattle.plain_search.proofs.Reaching.{proof_reached}

-- what holds of the terms of the stages holds of those of the occurrences
occurrences_over : (formula : Term) (level weight : ℕ) (c : GrownTree) (candidate : IsCandidate formula level weight c)
    → All (λ (o : Occurrence). IsOverHeads formula level (selected_variables (standing_of candidate.staged)) o.term) (occurrences_of c.0)
occurrences_over formula level weight c candidate =
    let s : Standing = standing_of candidate.staged in
    let R : Occurrence → Type 0 = λ o. IsOverHeads formula level (selected_variables s) o.term in
    let listed : occurrences_of c.0 ≡ map occurrence_there (places 1 0 candidate.staged) =
    occurrences_standing c.0 true candidate.is_tree.normal s candidate.is_tree.stands ∙ sym (places-occurrences 1 0 candidate.staged) in
    All-from_recursion R (occurrences_of c.0) (every_contained R (occurrences_of c.0) (λ o there.
    let q = image_of occurrence_there (places 1 0 candidate.staged) o (subst (λ (l : List Occurrence). Contains l o) listed there) in
    let among : Contains (stages 0 candidate.staged) (stage_there q.0) =
    subst (λ (l : List Stage). Contains l (stage_there q.0)) (places-stages 1 0 candidate.staged) (Contains-image stage_there (places 1 0 candidate.staged) q.0 q.1) in
    let own = All-contains (λ (x : Stage). IsOverHeads formula level (selected_variables s) x.term) (stages 0 candidate.staged) (stage_there q.0) candidate.heads among in
    subst R q.2 own))

candidate_in_budget : (formula : Term) (level weight most : ℕ) (c : GrownTree) (candidate : IsCandidate formula level weight c) → weight ≤ most → IsInBudget formula most level c.0 (standing_of candidate.staged)
candidate_in_budget formula level weight most c candidate light = record {
  light = let own = candidate.weighs in omega (arith, own, light);
  atoms = candidate.atoms;
  heads = occurrences_over formula level weight c candidate;
}

-- no tree of a weight below that one can be mated
abbrev pub AreTried : Term → List (List GrownTree) → ℕ → Type 0
AreTried formula levels weight = (w : ℕ) (c : GrownTree) → w < weight → Contains (trees_at levels w) c → CanBeMated formula c.0 → ⊥

proof_in_budget : (formula : Term) (level weight most : ℕ) (c : GrownTree) (p : Proof) → IsCandidate formula level weight c → weight ≤ most → IsProof p → p.formula ≡ formula → p.tree ≡ c.0
    → IsProofInBudget formula most level p
proof_in_budget formula level weight most c p candidate light proof same tree =
    let s : Standing = proof.0 in
    let is_tree : IsTree formula c.0 s = subst (λ (t : ExpansionTree). IsTree formula t s) tree (subst (λ (a : Term). IsTree a p.tree s) same proof.1.is_tree) in
    let one : standing_of candidate.staged ≡ s = tree-unique formula c.0 (standing_of candidate.staged) s candidate.is_tree is_tree in record {
      of = same;
      standing = s;
      proof = proof.1;
      budget = subst (λ (t : ExpansionTree). IsInBudget formula most level t s) (sym tree) (subst (IsInBudget formula most level c.0) one (candidate_in_budget formula level weight most c candidate light));
    }

pub least_proof : (formula : Term) (level weight most : ℕ) (levels : List (List GrownTree)) (c : GrownTree) (p : Proof) → IsFormula formula → AreLevels formula level levels → AreTried formula levels weight
    → Contains (trees_at levels weight) c → weight < length levels → weight ≤ most → IsProof p → p.formula ≡ formula → p.tree ≡ c.0 → IsLeastProof formula most level p
least_proof formula level weight most levels c p is_formula are tried there within light proof same tree =
    let candidate = are.candidates weight c there in
    let own : tree_weight p.tree ≡ weight = ap tree_weight tree ∙ candidate.weighs in record {
      in_budget = proof_in_budget formula level weight most c p candidate light proof same tree;
      least = λ q in_budget. by_order (tree_weight q.tree) weight (tree_weight p.tree) own (λ less.
          let reached = proof_reached formula level most levels q is_formula are in_budget (omega (arith, less, within)) in
          let light = reached.2 in
          tried (tree_weight reached.0.0) reached.0 (omega (arith, less, light)) reached.1 reached.3);
    }
  where
    by_order : (other weight mine : ℕ) → mine ≡ weight → (other < weight → ⊥) → mine ≤ other
    by_order other weight mine e none = elim (cases_lt other weight) [ inl less ↦ absurd (none less) | inr more ↦ omega (arith, e, more) ]

pub no_proof : (formula : Term) (level most : ℕ) (levels : List (List GrownTree)) (p : Proof) → IsFormula formula → AreLevels formula level levels → length levels ≡ most + 1 → AreTried formula levels (most + 1)
    → IsProofInBudget formula most level p → ⊥
no_proof formula level most levels p is_formula are many tried in_budget =
    let light = in_budget.budget.light in
    let reached = proof_reached formula level most levels p is_formula are in_budget (omega (arith, light, many)) in
    let lighter = reached.2 in tried (tree_weight reached.0.0) reached.0 (omega (arith, light, lighter)) reached.1 reached.3
