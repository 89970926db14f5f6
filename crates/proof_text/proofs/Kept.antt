-- What is written is read again.
use Rattle.std.proofs.Common.{◌≡◌, ℕ, ◌^◌, ◌≤◌, Bool, true, not, List, [], ◌∷◌, ◌++◌, codes, length, Result, Ok, refl, sym, ◌∙◌, ap, subst, arith, length-append}
use Rattle.hol_terms.specs.Terms.{SimpleType, Term, free, truth_type}
use Rattle.hol_terms.specs.Indices.{instance_of}
use Rattle.core_text.specs.Forms.{AreWellSpelled, IsWellSpelled, nesting, nesting_of_all}
use Rattle.core_text.specs.Tokens.{depth_of}
use Rattle.core_text.specs.Words.{is_word}
use Rattle.core_text.specs.Written.{written}
use Rattle.core_text.specs.declared.faults.TextFault.{TextFault}
use Rattle.core_text.proofs.Depths.{nesting_short, written_depth}
use Rattle.core_text.proofs.Kept.{keyword, term_spelled_well, written_text}
use Rattle.core_text.proofs.NameLaws.{is_word-encoded}
use Rattle.core_text.proofs.Table.{somewhere}
use Rattle.core_text.proofs.Texts.{one_form}
use Rattle.expansion_tree.specs.declared.trees.Op.{Op}
use Rattle.expansion_tree.specs.declared.trees.Op.TheVariants.{And, Or, Imp}
use Rattle.expansion_tree.specs.Standing.{BranchesStand, Standing, StandingBranches, Stands, left_polarity}
use Rattle.expansion_tree.proofs.Deepening.{long_typed}
use Rattle.expansion_tree.specs.Trees.{ExpansionTree, leaf_node, constant_node, negation_node, connective_node, selection_node, expansion_node, ExpansionBranches, no_branch, branch}
use Rattle.proof_text.specs.Forms.{branch_forms, mating_form, op_word, tree_form}
use Rattle.proof_text.specs.Texts.{BranchesAreTyped, BranchesHaveNames, HasProofNames, IsProofText, IsTyped, IsWithinLimits, IsWrittenProof, Proof, TreeHasNames, TreeIsTyped, proof_form}
use Rattle.proof_text.proofs.Table.{proof_spelled}

op_spelled_well : (op : Op) → is_word (op_word op) ≡ true
op_spelled_well And = keyword 65 (codes "ND") refl refl
op_spelled_well Or = keyword 79 (codes "R") refl refl
op_spelled_well Imp = keyword 73 (codes "MPLIES") refl refl

mutual
  tree_spelled_well : (k : ℕ) (t : ExpansionTree) → k ≤ 2 ^ 64 → TreeHasNames t → TreeIsTyped t → nesting (tree_form t) ≤ k → IsWellSpelled (tree_form t)
  tree_spelled_well k leaf_node most names typed low = keyword 76 (codes "EAF") refl refl
  tree_spelled_well k constant_node most names typed low = keyword 67 (codes "ONST") refl refl
  tree_spelled_well k (negation_node t) most names typed low = (keyword 78 (codes "OT") refl refl, (tree_spelled_well k t most names typed (omega arith), tt))
  tree_spelled_well k (connective_node op t u) most names typed low =
      (op_spelled_well op, (tree_spelled_well k t most names.0 typed.0 (omega arith), (tree_spelled_well k u most names.1 typed.1 (omega arith), tt)))
  tree_spelled_well k (selection_node name t) most names typed low =
      (keyword 83 (codes "EL") refl refl, (is_word-encoded name names.0.0, (tree_spelled_well k t most names.1 typed (omega arith), tt)))
  tree_spelled_well k (expansion_node bs) most names typed low = (keyword 69 (codes "XP") refl refl, branches_spelled_well k bs most names typed (omega arith))

  branches_spelled_well : (k : ℕ) (bs : ExpansionBranches) → k ≤ 2 ^ 64 → BranchesHaveNames bs → BranchesAreTyped bs → nesting_of_all (branch_forms bs) ≤ k → AreWellSpelled (branch_forms bs)
  branches_spelled_well k no_branch most names typed low = tt
  branches_spelled_well k (branch u t bs) most names typed low = (
    (term_spelled_well k [] u typed.0.0 most names.0 typed.0.1 (omega arith), (tree_spelled_well k t most names.1 typed.1 (omega arith), tt)),
    branches_spelled_well k bs most names.2 typed.2 (omega arith),
  )

-- the form of a proof is well spelled where its nesting, and so each index, has 64 bits
proof_spelled_well : (k : ℕ) (p : Proof) → k ≤ 2 ^ 64 → HasProofNames p → IsWellSpelled (mating_form p.mating) → IsTyped p → nesting (proof_form p) ≤ k → IsWellSpelled (proof_form p)
proof_spelled_well k p most names numbers typed low =
    let formula = term_spelled_well k [] p.formula truth_type most names.formula typed.formula (omega arith) in
    let tree = tree_spelled_well k p.tree most names.tree typed.terms (omega arith) in
    (keyword 80 (codes "ROOF") refl refl, (omega arith, (formula, (tree, (numbers, tt)))))

pub written_is_text : (p : Proof) → HasProofNames p → IsWellSpelled (mating_form p.mating) → IsTyped p → nesting (proof_form p) ≤ 5000 → IsProofText (written (proof_form p) ++ 10 ∷ []) p
written_is_text p names numbers typed low =
    let words = proof_spelled_well 5000 p (omega arith) names numbers typed low in
    record { text = (written_text (proof_form p) words low).1; names = names; typed = typed }

pub one_proof : (bytes : List ℕ) (p q : Proof) → IsProofText bytes p → IsProofText bytes q → p ≡ q
one_proof bytes p q h i =
    let place = somewhere (proof_form p) in
    let one = proof_spelled p place.0 place.1 h.names h.typed in
    let two = proof_spelled q place.0 (place.1 ∙ one_form bytes (proof_form p) (proof_form q) h.text i.text) i.names i.typed in
    let both : ◌≡◌ {A = Result Proof TextFault} (Ok p) (Ok q) = sym one ∙ two in cc

-- what is written for a proof is a text of it alone
pub written_is_read : (bytes : List ℕ) (p : Proof) → IsWrittenProof bytes p → IsTyped p → IsWithinLimits bytes
    → IsProofText bytes p × ((q : Proof) → IsProofText bytes q → q ≡ p)
written_is_read bytes p h typed limits =
    let f = proof_form p in
    let within : nesting f ≤ 1048576 = omega (arith, limits.short, nesting_short f, length-append (written f) (10 ∷ []), ap length h.same) in
    let words = proof_spelled_well 1048576 p (omega arith) h.names h.numbers typed within in
    let low : nesting f ≤ 5000 = omega (arith, limits.shallow, (written_depth f words).1, ap depth_of h.same) in
    let text = subst (λ (l : List ℕ). IsProofText l p) (sym h.same) (written_is_text p h.names h.numbers typed low) in
    (text, λ q other. one_proof bytes q p other text)

mutual
  pub standing_is_typed : (p : Bool) (a : Term) (t : ExpansionTree) (s : Standing) → Stands p a t s → TreeIsTyped t
  standing_is_typed p a leaf_node s h = tt
  standing_is_typed p a constant_node s h = tt
  standing_is_typed p a (negation_node t) s (b, e, n, below, f) = standing_is_typed (not p) b t n below
  standing_is_typed p a (connective_node op t u) s (b, c, e, m, left, n, right, f) = (standing_is_typed (left_polarity op p) b t m left, standing_is_typed p c u n right)
  standing_is_typed p a (selection_node name t) s (ty, b, e, n, below, f) = standing_is_typed p (instance_of b (free name ty)) t n below
  standing_is_typed p a (expansion_node bs) s (ty, b, e, ns, all, f) = branches_are_typed p ty b bs ns all

  branches_are_typed : (p : Bool) (ty : SimpleType) (b : Term) (bs : ExpansionBranches) (ns : StandingBranches) → BranchesStand p ty b bs ns → BranchesAreTyped bs
  branches_are_typed p ty b no_branch ns h = tt
  branches_are_typed p ty b (branch u t bs) ns (is_long, a, normal, n, stands, rest, more, e) =
      ((ty, long_typed u ty is_long), standing_is_typed p a t n stands, branches_are_typed p ty b bs rest more)
