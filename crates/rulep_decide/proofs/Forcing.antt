-- What the value of a node forces at its parts, and the values of the parts at the node.
use Rattle.std.proofs.Common.{ℕ, ◌<◌, List, [], ◌∷◌, length, Bool, true, false, not, ◌&&◌, cond, eqb, ◌≡◌, ◌≢◌, refl, sym, ap, subst, ◌∙◌, Some, arith, inl, inr}
use Rattle.std.proofs.lemmas.Bool.Decides.{nat_tests}
use Rattle.rulep_decide.specs.declared.trails.Step.{Step}
use Rattle.rulep_decide.specs.Circuits.{Node, always, opposite, both, demand, node_at, Fits, IsValuation}
use Rattle.rulep_decide.specs.Trails.{Has, Agrees, Equates, Forces, Refutes}
use Rattle.rulep_decide.proofs.Nodes.{at_newest, at_older}

same_node : (n m : Node) → Some n ≡ Some m → n ≡ m
same_node n m e = cc

pub fits_at : (w : ℕ → Bool) (nodes : List Node) (i : ℕ) (n : Node) → IsValuation w nodes → node_at nodes i ≡ Some n → Fits w i n
fits_at w [] i n h e = cc
fits_at w (m ∷ rest) i n h e = by_test (eqb i (length rest)) refl e (fits_at w rest i n h.1)
  where
    by_test : (b : Bool) → eqb i (length rest) ≡ b → cond b (Some m) (node_at rest i) ≡ Some n → (node_at rest i ≡ Some n → Fits w i n) → Fits w i n
    by_test true t e below =
        let same : i ≡ length rest = grind (arith, nat_tests) in
        subst (λ (n : Node). Fits w i n) (same_node m n e) (subst (λ i. Fits w i m) (sym same) h.0)
    by_test false t e below = below e

pub valuation_of : (w : ℕ → Bool) (nodes : List Node) → ((i : ℕ) (n : Node) → i < length nodes → node_at nodes i ≡ Some n → Fits w i n) → IsValuation w nodes
valuation_of w [] all = tt
valuation_of w (n ∷ rest) all = (
  all (length rest) n (omega arith) (at_newest n rest (length rest) refl),
  valuation_of w rest (λ i m h e. all i m (omega arith) (at_older n rest i h ∙ e)),
)

pub has_agrees : (w : ℕ → Bool) (steps : List Step) (i : ℕ) (b : Bool) → Has steps i b → Agrees w steps → w i ≡ b
has_agrees w [] i b h agrees = absurd h
has_agrees w (s ∷ rest) i b (inl h) agrees = ap w (sym h.0) ∙ agrees.0 ∙ h.1
has_agrees w (s ∷ rest) i b (inr h) agrees = has_agrees w rest i b h agrees.1

not_not : (b : Bool) → not (not b) ≡ b
not_not true = refl
not_not false = refl

both_false_left : (x y : Bool) → x ≡ false → (x && y) ≡ false
both_false_left x y e = ap (λ (x : Bool). x && y) e

both_false_right : (x y : Bool) → y ≡ false → (x && y) ≡ false
both_false_right true y e = e
both_false_right false y e = refl

both_true_left : (x y : Bool) → x ≡ true → (x && y) ≡ y
both_true_left x y e = ap (λ (x : Bool). x && y) e

both_true_right : (x y : Bool) → y ≡ true → (x && y) ≡ x
both_true_right true y e = e
both_true_right false y e = refl

left_of_both : (x y : Bool) → (x && y) ≡ true → x ≡ true
left_of_both true y e = refl
left_of_both false y e = cc

pub forced_always : (nodes : List Node) (steps : List Step) (i : ℕ) → node_at nodes i ≡ Some always → Forces nodes steps i true
forced_always nodes steps i e = record {
  forced = λ w fits agrees. fits_at w nodes i always fits e;
}

pub forced_demand : (nodes : List Node) (steps : List Step) (i j : ℕ) (b : Bool) → node_at nodes i ≡ Some (demand j b) → Forces nodes steps j b
forced_demand nodes steps i j b e = record {
  forced = λ w fits agrees. let both : (w i ≡ true) × (w j ≡ b) = fits_at w nodes i (demand j b) fits e in both.1;
}

pub forced_negation : (nodes : List Node) (steps : List Step) (i j : ℕ) (b : Bool) → node_at nodes i ≡ Some (opposite j) → Has steps j b → Forces nodes steps i (not b)
forced_negation nodes steps i j b e h = record {
  forced = λ w fits agrees. fits_at w nodes i (opposite j) fits e ∙ ap not (has_agrees w steps j b h agrees);
}

pub forced_negated : (nodes : List Node) (steps : List Step) (i j : ℕ) (b : Bool) → node_at nodes i ≡ Some (opposite j) → Has steps i b → Forces nodes steps j (not b)
forced_negated nodes steps i j b e h = record {
  forced = λ w fits agrees. sym (not_not (w j)) ∙ ap not (sym (fits_at w nodes i (opposite j) fits e) ∙ has_agrees w steps i b h agrees);
}

pub forced_false_by_first : (nodes : List Node) (steps : List Step) (i j k : ℕ) → node_at nodes i ≡ Some (both j k) → Has steps j false → Forces nodes steps i false
forced_false_by_first nodes steps i j k e h = record {
  forced = λ w fits agrees. fits_at w nodes i (both j k) fits e ∙ both_false_left (w j) (w k) (has_agrees w steps j false h agrees);
}

pub forced_false_by_second : (nodes : List Node) (steps : List Step) (i j k : ℕ) → node_at nodes i ≡ Some (both j k) → Has steps k false → Forces nodes steps i false
forced_false_by_second nodes steps i j k e h = record {
  forced = λ w fits agrees. fits_at w nodes i (both j k) fits e ∙ both_false_right (w j) (w k) (has_agrees w steps k false h agrees);
}

pub equal_to_second : (nodes : List Node) (steps : List Step) (i j k : ℕ) → node_at nodes i ≡ Some (both j k) → Has steps j true → Equates nodes steps i k
equal_to_second nodes steps i j k e h = record {
  equal = λ w fits agrees. fits_at w nodes i (both j k) fits e ∙ both_true_left (w j) (w k) (has_agrees w steps j true h agrees);
}

pub equal_to_first : (nodes : List Node) (steps : List Step) (i j k : ℕ) → node_at nodes i ≡ Some (both j k) → Has steps k true → Equates nodes steps i j
equal_to_first nodes steps i j k e h = record {
  equal = λ w fits agrees. fits_at w nodes i (both j k) fits e ∙ both_true_right (w j) (w k) (has_agrees w steps k true h agrees);
}

pub forced_equal : (nodes : List Node) (steps : List Step) (i j : ℕ) (b : Bool) → Equates nodes steps i j → Has steps j b → Forces nodes steps i b
forced_equal nodes steps i j b equates h = record {
  forced = λ w fits agrees. equates.equal w fits agrees ∙ has_agrees w steps j b h agrees;
}

pub forced_equal_back : (nodes : List Node) (steps : List Step) (i j : ℕ) (b : Bool) → Equates nodes steps i j → Has steps i b → Forces nodes steps j b
forced_equal_back nodes steps i j b equates h = record {
  forced = λ w fits agrees. sym (equates.equal w fits agrees) ∙ has_agrees w steps i b h agrees;
}

pub forced_part : (nodes : List Node) (steps : List Step) (i j k : ℕ) → node_at nodes i ≡ Some (both j k) → Has steps i true → Forces nodes steps j true
forced_part nodes steps i j k e h = record {
  forced = λ w fits agrees. left_of_both (w j) (w k) (sym (fits_at w nodes i (both j k) fits e) ∙ has_agrees w steps i true h agrees);
}

pub conflict_refutes : (nodes : List Node) (steps : List Step) (i : ℕ) (b : Bool) → Forces nodes steps i b → Has steps i (not b) → Refutes nodes steps
conflict_refutes nodes steps i b forces h = record { refuted = λ w fits agrees. other b (sym (forces.forced w fits agrees) ∙ has_agrees w steps i (not b) h agrees) }
  where
    other : (b : Bool) → b ≢ not b
    other true e = cc
    other false e = cc
