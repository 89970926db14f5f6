-- The terms of a tree have types exactly where the judgement finds no fault.
use Rattle.std.proofs.Common.{◌≡◌, ℕ, true, false, Bool, if◌then◌else◌, Ok, Err, refl, sym, ◌∙◌, ap, subst, [], codes}
use Rattle.std.proofs.lemmas.Bool.{false_from_ne_true}
use Rattle.hol_terms.specs.Terms.{SimpleType, truth_type}
use Rattle.hol_terms.specs.Typing.{Typed}
use Rattle.hol_terms.specs.Computed.{same_type}
use Rattle.hol_terms.proofs.Same.{same_type_only}
use Rattle.core_text.specs.CoreForms.{term_form}
use Rattle.core_text.specs.Forms.{word_form}
use Rattle.core_text.specs.Placed.{Placed, word_at, number_at, list_at, PlacedAll, none_at, more_at, first_of, form, forms, place_of, second_of, third_of}
use Rattle.core_text.specs.Reading.{◌>>=◌}
use Rattle.core_text.specs.Judged.{judged_at}
use Rattle.core_text.specs.declared.faults.TextFault.TheVariants.{IllTyped}
use Rattle.core_text.proofs.Table.{bind_ok}
use Rattle.core_text.proofs.Judgements.{judged_typed, typed_judged}
use Rattle.core_text.proofs.Shapes.{pair_shape, triple_shape}
use Rattle.expansion_tree.specs.Trees.{ExpansionTree, leaf_node, constant_node, negation_node, connective_node, selection_node, expansion_node, ExpansionBranches, no_branch, branch}
use Rattle.proof_text.specs.Forms.{branch_forms, op_word, tree_form}
use Rattle.proof_text.specs.Texts.{BranchesAreTyped, IsTyped, Proof, TreeIsTyped}
use Rattle.proof_text.specs.Reading.{Parts, branches_judged, proof_judged, tree_judged, truth_at}
use Rattle.proof_text.proofs.Lists.{list_shape}

pub truth_other : (s : SimpleType) (k : ℕ) → (s ≡ truth_type → ⊥) → truth_at s k ≡ Err (IllTyped k)
truth_other s k h = rw (false_from_ne_true (same_type s truth_type) (λ e. h (same_type_only s truth_type e))) refl

truth_only : (s : SimpleType) (k : ℕ) (u : Unit {0}) → truth_at s k ≡ Ok u → s ≡ truth_type
truth_only s k u e = go (same_type s truth_type) refl e
  where
    go : (b : Bool) → same_type s truth_type ≡ b → (if b then Ok tt else Err (IllTyped k)) ≡ Ok u → s ≡ truth_type
    go true h e = same_type_only s truth_type h
    go false h e = cc

mutual
  typed_tree_judged : (t : ExpansionTree) (p : Placed) → TreeIsTyped t → tree_judged t p ≡ Ok tt
  typed_tree_judged leaf_node p h = refl
  typed_tree_judged constant_node p h = refl
  typed_tree_judged (negation_node t) p h = typed_tree_judged t (second_of p) h
  typed_tree_judged (connective_node op t u) p h = rw (typed_tree_judged t (second_of p) h.0) (typed_tree_judged u (third_of p) h.1)
  typed_tree_judged (selection_node name t) p h = typed_tree_judged t (third_of p) h
  typed_tree_judged (expansion_node bs) (word_at w k) h = refl
  typed_tree_judged (expansion_node bs) (number_at n k) h = refl
  typed_tree_judged (expansion_node bs) (list_at none_at k) h = refl
  typed_tree_judged (expansion_node bs) (list_at (more_at w ps) k) h = typed_branches_judged bs ps h

  typed_branches_judged : (bs : ExpansionBranches) (ps : PlacedAll) → BranchesAreTyped bs → branches_judged bs ps ≡ Ok tt
  typed_branches_judged no_branch ps h = refl
  typed_branches_judged (branch u t bs) none_at h = refl
  typed_branches_judged (branch u t bs) (more_at b ps) h =
      rw (typed_judged u (first_of b) h.0.0 h.0.1, typed_tree_judged t (second_of b) h.1) (typed_branches_judged bs ps h.2)

mutual
  tree_judged_typed : (t : ExpansionTree) (p : Placed) (done : Unit {0}) → form p ≡ tree_form t → tree_judged t p ≡ Ok done → TreeIsTyped t
  tree_judged_typed leaf_node p done e h = tt
  tree_judged_typed constant_node p done e h = tt
  tree_judged_typed (negation_node t) p done e h =
      let shape = pair_shape p (word_form (codes "NOT")) (tree_form t) e in
      tree_judged_typed t shape.second done shape.is_second (sym (ap (λ q. tree_judged t (second_of q)) shape.is) ∙ h)
  tree_judged_typed (connective_node op t u) p done e h =
      let shape = triple_shape p (word_form (op_word op)) (tree_form t) (tree_form u) e in
      let one = bind_ok (tree_judged t (second_of p)) (λ d. tree_judged u (third_of p)) done h in (
        tree_judged_typed t shape.second one.0 shape.is_second (sym (ap (λ q. tree_judged t (second_of q)) shape.is) ∙ one.1),
        tree_judged_typed u shape.third done shape.is_third (sym (ap (λ q. tree_judged u (third_of q)) shape.is) ∙ one.2),
      )
  tree_judged_typed (selection_node name t) p done e h =
      let shape = triple_shape p _ _ (tree_form t) e in
      tree_judged_typed t shape.third done shape.is_third (sym (ap (λ q. tree_judged t (third_of q)) shape.is) ∙ h)
  tree_judged_typed (expansion_node bs) p done e h =
      let shape = list_shape p (word_form (codes "EXP")) (branch_forms bs) e in
      branches_judged_typed bs shape.rest done shape.is_rest (sym (ap (λ q. tree_judged (expansion_node bs) q) shape.is) ∙ h)

  branches_judged_typed : (bs : ExpansionBranches) (ps : PlacedAll) (done : Unit {0}) → forms ps ≡ branch_forms bs → branches_judged bs ps ≡ Ok done → BranchesAreTyped bs
  branches_judged_typed no_branch ps done e h = tt
  branches_judged_typed (branch u t bs) none_at done e h = cc
  branches_judged_typed (branch u t bs) (more_at b ps) done e h =
      let shape = pair_shape b (term_form u) (tree_form t) cc in
      let one = bind_ok (judged_at u (first_of b)) (λ s. tree_judged t (second_of b) >>= λ d. branches_judged bs ps) done h in
      let two = bind_ok (tree_judged t (second_of b)) (λ d. branches_judged bs ps) done one.2 in
      let rest : forms ps ≡ branch_forms bs = cc in (
        (one.0, judged_typed u (first_of b) one.0 one.1),
        tree_judged_typed t shape.second two.0 shape.is_second (sym (ap (λ q. tree_judged t (second_of q)) shape.is) ∙ two.1),
        branches_judged_typed bs ps done rest two.2,
      )

-- a proof has no fault exactly where it is typed
pub typed_proof_judged : (p : Proof) (q : Parts) → IsTyped p → proof_judged p q ≡ Ok tt
typed_proof_judged p q h =
    rw (typed_judged p.formula q.formula truth_type h.formula, typed_tree_judged p.tree q.tree h.terms) refl

pub proof_judged_typed : (p : Proof) (q : Parts) (done : Unit {0}) → form q.tree ≡ tree_form p.tree → proof_judged p q ≡ Ok done → IsTyped p
proof_judged_typed p q done e h =
    let one = bind_ok (judged_at p.formula q.formula) (λ s. tree_judged p.tree q.tree >>= λ d. truth_at s (place_of q.formula)) done h in
    let two = bind_ok (tree_judged p.tree q.tree) (λ d. truth_at one.0 (place_of q.formula)) done one.2 in
    let formula = subst (Typed [] p.formula) (truth_only one.0 (place_of q.formula) done two.2) (judged_typed p.formula q.formula one.0 one.1) in
    record { formula = formula; terms = tree_judged_typed p.tree q.tree two.0 e two.1 }
