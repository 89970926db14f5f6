-- Proof texts: which bytes are the text of which formula, tree and mating.
use Rattle.std.specs.Prelude.{◌≡◌, ◌≤◌, ℕ, List, [], ◌∷◌, ◌++◌, codes, length}
use Rattle.hol_terms.specs.Names.{IsName}
use Rattle.hol_terms.specs.Terms.{SimpleType, Term, plain_term}
use Rattle.hol_terms.specs.Typing.{IsFormula, Typed}
use Rattle.core_text.specs.CoreForms.{HasNames, term_form}
use Rattle.core_text.specs.Forms.{Form, word_form, number_form, list_form, no_forms, more_forms, IsTextOf, IsWellSpelled}
use Rattle.core_text.specs.Tokens.{depth_of}
use Rattle.core_text.specs.Written.{written}
use Rattle.expansion_tree.specs.Trees.{ExpansionTree, leaf_node, constant_node, negation_node, connective_node, selection_node, expansion_node, ExpansionBranches, no_branch, branch, plain_tree}
use Rattle.proof_text.specs.declared.texts.ProofText.{ProofText}
use Rattle.proof_text.specs.Forms.{tree_form, mating_form}

-- a formula, an expansion tree and a mating
pub record Proof : Type 0 where
  pub formula : Term
  pub tree : ExpansionTree
  pub mating : List (ℕ × ℕ)

abbrev pub plain_proof : ProofText → Proof
plain_proof p = record { formula = plain_term p.formula; tree = plain_tree p.tree; mating = p.mating }

-- (PROOF 1 formula tree (pair pair ..))
abbrev pub outer_form : Form → Form → Form → Form
outer_form formula tree mating =
    list_form (more_forms (word_form (codes "PROOF")) (more_forms (number_form 1) (more_forms formula (more_forms tree (more_forms mating no_forms)))))

abbrev pub proof_form : Proof → Form
proof_form p = outer_form (term_form p.formula) (tree_form p.tree) (mating_form p.mating)

abbrev mutual
  -- each selected name is a name, and so are the names of the terms
  pub TreeHasNames : ExpansionTree → Type 0
  TreeHasNames leaf_node = Unit {0}
  TreeHasNames constant_node = Unit {0}
  TreeHasNames (negation_node t) = TreeHasNames t
  TreeHasNames (connective_node op t u) = TreeHasNames t × TreeHasNames u
  TreeHasNames (selection_node name t) = IsName name × TreeHasNames t
  TreeHasNames (expansion_node bs) = BranchesHaveNames bs

  pub BranchesHaveNames : ExpansionBranches → Type 0
  BranchesHaveNames no_branch = Unit {0}
  BranchesHaveNames (branch u t bs) = HasNames u × TreeHasNames t × BranchesHaveNames bs

abbrev mutual
  -- each term of the tree has a type and no loose index
  pub TreeIsTyped : ExpansionTree → Type 0
  TreeIsTyped leaf_node = Unit {0}
  TreeIsTyped constant_node = Unit {0}
  TreeIsTyped (negation_node t) = TreeIsTyped t
  TreeIsTyped (connective_node op t u) = TreeIsTyped t × TreeIsTyped u
  TreeIsTyped (selection_node name t) = TreeIsTyped t
  TreeIsTyped (expansion_node bs) = BranchesAreTyped bs

  pub BranchesAreTyped : ExpansionBranches → Type 0
  BranchesAreTyped no_branch = Unit {0}
  BranchesAreTyped (branch u t bs) = ((s : SimpleType) × Typed [] u s) × TreeIsTyped t × BranchesAreTyped bs

-- the formula is a formula and the terms of the tree have types
pub record IsTyped (p : Proof) : Type 0 where
  pub formula : IsFormula p.formula
  pub terms : TreeIsTyped p.tree

-- all names are names, as in each proof that the program holds
pub record HasProofNames (p : Proof) : Type 0 where
  pub formula : HasNames p.formula
  pub tree : TreeHasNames p.tree

-- The bytes are what is written for this formula, tree and mating: their form with one space between members, none after ( and none
-- before ), and LF at the end. All names are names, and the numbers of the mating have 64 bits.
pub record IsWrittenProof (bytes : List ℕ) (p : Proof) : Type 0 where
  pub same : bytes ≡ written (proof_form p) ++ 10 ∷ []
  pub names : HasProofNames p
  pub numbers : IsWellSpelled (mating_form p.mating)

-- the bytes are as many as are read at most, 1,048,576, and nested as deep at most, 5,000
pub record IsWithinLimits (bytes : List ℕ) : Type 0 where
  pub short : length bytes ≤ 1048576
  pub shallow : depth_of bytes ≤ 5000

-- the bytes are the text of this formula, tree and mating
pub record IsProofText (bytes : List ℕ) (p : Proof) : Type 0 where
  pub text : IsTextOf bytes (proof_form p)
  pub names : HasProofNames p
  pub typed : IsTyped p
