-- What reading a tree answers, by the word and the number of members.
use Rattle.std.proofs.Common.{◌≡◌, ℕ, true, false, List, Result, Ok, codes, refl}
use Rattle.core_text.specs.Placed.{Placed, word_at, list_at, PlacedAll, none_at, more_at}
use Rattle.core_text.specs.Reading.{Fails, Gives, name_at, term_at}
use Rattle.core_text.specs.Words.{same_bytes}
use Rattle.core_text.specs.declared.faults.TextFault.{TextFault}
use Rattle.hol_terms.specs.Terms.{Term}
use Rattle.expansion_tree.specs.Trees.{ExpansionTree, plain_tree}
use Rattle.expansion_tree.specs.declared.trees.Tree.{Tree}
use Rattle.proof_text.specs.Reading.{branch_at, branches_at, connective_at, expansion_at, negation_at, node_at, op_in, selection_at, tree_at}
use Rattle.proof_text.proofs.Steps.{fails_first}

-- the program's answer at the parts is its answer at the whole
module _ (r : Result Tree TextFault) (w : List ℕ) (k : ℕ) where
  pub gives_expansion : (p : Placed) (j : ℕ) (ps : PlacedAll) → p ≡ list_at (more_at (word_at w j) ps) k → same_bytes w (codes "EXP") ≡ true → Gives plain_tree r (expansion_at (branches_at ps)) → Gives plain_tree r (tree_at p)
  gives_expansion p j ps e h g = rw (e, h) g

  pub gives_node : (p : Placed) (j : ℕ) (ps : PlacedAll) → p ≡ list_at (more_at (word_at w j) ps) k → same_bytes w (codes "EXP") ≡ false → Gives plain_tree r (node_at w ps k) → Gives plain_tree r (tree_at p)
  gives_node p j ps e h g = rw (e, h) g

  pub gives_negation : (ps : PlacedAll) (x : Placed) → ps ≡ more_at x none_at → Gives plain_tree r (negation_at w (tree_at x) k) → Gives plain_tree r (node_at w ps k)
  gives_negation ps x e g = rw e g

  pub gives_selection : (ps : PlacedAll) (x y : Placed) → ps ≡ more_at x (more_at y none_at) → same_bytes w (codes "SEL") ≡ true → Gives plain_tree r (selection_at (name_at x) (tree_at y)) → Gives plain_tree r (node_at w ps k)
  gives_selection ps x y e h g = rw (e, h) g

  pub gives_connective : (ps : PlacedAll) (x y : Placed) → ps ≡ more_at x (more_at y none_at) → same_bytes w (codes "SEL") ≡ false → Gives plain_tree r (connective_at (op_in w k) (tree_at x) (tree_at y)) → Gives plain_tree r (node_at w ps k)
  gives_connective ps x y e h g = rw (e, h) g

-- a branch, by its term and its tree
pub branch_read_at : (p x y : Placed) (k : ℕ) (u : Term) (t : ExpansionTree) → p ≡ list_at (more_at x (more_at y none_at)) k → term_at x ≡ Ok u → tree_at y ≡ Ok t → branch_at p ≡ Ok (u, t)
branch_read_at p x y k u t e f g = rw (e, f, g) refl

pub branch_failed_at : (fault : TextFault) (p x y : Placed) (k : ℕ) (u : Term) → p ≡ list_at (more_at x (more_at y none_at)) k → term_at x ≡ Ok u → Fails fault (tree_at y) → Fails fault (branch_at p)
branch_failed_at fault p x y k u e f h = rw (e, f) (fails_first fault (tree_at y) (λ t. Ok (u, t)) h)
