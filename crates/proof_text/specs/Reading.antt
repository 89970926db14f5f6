-- What a form stands for as a tree, a mating or a proof text, or the place of the first form, a list before its members, that has no
-- place in the table; and then the first fault of the terms.
use Rattle.std.specs.Prelude.{◌==◌, ℕ, if◌then◌else◌, codes, List, [], ◌∷◌, Result, Ok, Err, ◌⊎◌}
use Rattle.hol_terms.specs.Terms.{SimpleType, Term, truth_type}
use Rattle.hol_terms.specs.Computed.{same_type}
use Rattle.core_text.specs.Faults.{IsFaultUnlessMemory, form_fault}
use Rattle.core_text.specs.Judged.{fault_in, judged_at, with_fault}
use Rattle.core_text.specs.Placed.{IsPlacedText, Placed, word_at, number_at, list_at, PlacedAll, none_at, more_at, first_of, place_of, second_of, third_of}
use Rattle.core_text.specs.Reading.{◌>>=◌, name_at, number_in, term_at}
use Rattle.core_text.specs.Words.{same_bytes}
use Rattle.core_text.specs.declared.faults.TextFault.{TextFault}
use Rattle.core_text.specs.declared.faults.TextFault.TheVariants.{BadForm, IllTyped}
use Rattle.expansion_tree.specs.declared.trees.Op.{Op}
use Rattle.expansion_tree.specs.declared.trees.Op.TheVariants.{And, Or, Imp}
use Rattle.expansion_tree.specs.Trees.{ExpansionTree, leaf_node, constant_node, negation_node, connective_node, selection_node, expansion_node, ExpansionBranches, no_branch, branch}
use Rattle.proof_text.specs.Texts.{Proof}

abbrev pub constant_tree_in : List ℕ → ℕ → Result ExpansionTree ℕ
constant_tree_in w k = if same_bytes w (codes "LEAF") then Ok leaf_node else (if same_bytes w (codes "CONST") then Ok constant_node else Err k)

abbrev pub op_in : List ℕ → ℕ → Result Op ℕ
op_in w k = if same_bytes w (codes "AND") then Ok And else (if same_bytes w (codes "OR") then Ok Or else (if same_bytes w (codes "IMPLIES") then Ok Imp else Err k))

-- the nodes, by what is read of their members
abbrev pub negation_at : List ℕ → Result ExpansionTree ℕ → ℕ → Result ExpansionTree ℕ
negation_at w below k = if same_bytes w (codes "NOT") then (below >>= λ t. Ok (negation_node t)) else Err k

abbrev pub selection_at : Result (List ℕ) ℕ → Result ExpansionTree ℕ → Result ExpansionTree ℕ
selection_at name below = name >>= λ n. below >>= λ t. Ok (selection_node n t)

abbrev pub connective_at : Result Op ℕ → Result ExpansionTree ℕ → Result ExpansionTree ℕ → Result ExpansionTree ℕ
connective_at op left right = op >>= λ o. left >>= λ t. right >>= λ u. Ok (connective_node o t u)

abbrev pub expansion_at : Result ExpansionBranches ℕ → Result ExpansionTree ℕ
expansion_at branches = branches >>= λ bs. Ok (expansion_node bs)

abbrev mutual
  pub tree_at : Placed → Result ExpansionTree ℕ
  tree_at (word_at w k) = constant_tree_in w k
  tree_at (number_at n k) = Err k
  tree_at (list_at (more_at (word_at w j) ps) k) = if same_bytes w (codes "EXP") then expansion_at (branches_at ps) else node_at w ps k
  tree_at (list_at ps k) = Err k

  -- a node but for an expansion, by its word and what follows it
  pub node_at : List ℕ → PlacedAll → ℕ → Result ExpansionTree ℕ
  node_at w (more_at x none_at) k = negation_at w (tree_at x) k
  node_at w (more_at x (more_at y none_at)) k = if same_bytes w (codes "SEL") then selection_at (name_at x) (tree_at y) else connective_at (op_in w k) (tree_at x) (tree_at y)
  node_at w ps k = Err k

  pub branches_at : PlacedAll → Result ExpansionBranches ℕ
  branches_at none_at = Ok no_branch
  branches_at (more_at b ps) = branch_at b >>= λ c. branches_at ps >>= λ bs. Ok (branch c.0 c.1 bs)

  -- (term T)
  pub branch_at : Placed → Result (Term × ExpansionTree) ℕ
  branch_at (list_at (more_at x (more_at y none_at)) k) = term_at x >>= λ u. tree_at y >>= λ t. Ok (u, t)
  branch_at p = Err (place_of p)

-- (i j)
abbrev pub pair_at : Placed → Result (ℕ × ℕ) ℕ
pair_at (list_at (more_at x (more_at y none_at)) k) = number_in x >>= λ i. number_in y >>= λ j. Ok (i, j)
pair_at p = Err (place_of p)

abbrev pub pairs_at : PlacedAll → Result (List (ℕ × ℕ)) ℕ
pairs_at none_at = Ok []
pairs_at (more_at p ps) = pair_at p >>= λ q. pairs_at ps >>= λ qs. Ok (q ∷ qs)

abbrev pub mating_at : Placed → Result (List (ℕ × ℕ)) ℕ
mating_at (list_at ps k) = pairs_at ps
mating_at p = Err (place_of p)

-- the members of the form of a proof text after its first word
pub record Parts : Type 0 where
  pub version : Placed
  pub formula : Placed
  pub tree : Placed
  pub mating : Placed

abbrev pub parts_at : Placed → Result Parts ℕ
parts_at (list_at (more_at (word_at w j) (more_at v (more_at f (more_at t (more_at m none_at))))) k) =
    if same_bytes w (codes "PROOF") then Ok (record { version = v; formula = f; tree = t; mating = m }) else Err k
parts_at p = Err (place_of p)

abbrev pub version_at : Placed → Result (Unit {0}) ℕ
version_at (number_at n k) = if n == 1 then Ok tt else Err k
version_at p = Err (place_of p)

abbrev pub proof_in : Parts → Result Proof ℕ
proof_in q =
    version_at q.version >>= λ one. term_at q.formula >>= λ formula. tree_at q.tree >>= λ tree. mating_at q.mating >>= λ mating. Ok (record { formula = formula; tree = tree; mating = mating })

abbrev mutual
  -- the first fault of the terms of a tree, in the order of its form
  pub tree_judged : ExpansionTree → Placed → Result (Unit {0}) TextFault
  tree_judged leaf_node p = Ok tt
  tree_judged constant_node p = Ok tt
  tree_judged (negation_node t) p = tree_judged t (second_of p)
  tree_judged (connective_node op t u) p = tree_judged t (second_of p) >>= λ done. tree_judged u (third_of p)
  tree_judged (selection_node name t) p = tree_judged t (third_of p)
  tree_judged (expansion_node bs) (list_at (more_at w ps) k) = branches_judged bs ps
  tree_judged (expansion_node bs) p = Ok tt

  pub branches_judged : ExpansionBranches → PlacedAll → Result (Unit {0}) TextFault
  branches_judged (branch u t bs) (more_at b ps) = judged_at u (first_of b) >>= λ s. tree_judged t (second_of b) >>= λ done. branches_judged bs ps
  branches_judged bs ps = Ok tt

-- a formula has type O
abbrev pub truth_at : SimpleType → ℕ → Result (Unit {0}) TextFault
truth_at s k = if same_type s truth_type then Ok tt else Err (IllTyped k)

-- the first fault of the formula and the terms of the tree: of the formula, then of each term, and then a formula of another type
abbrev pub proof_judged : Proof → Parts → Result (Unit {0}) TextFault
proof_judged p q = judged_at p.formula q.formula >>= λ s. tree_judged p.tree q.tree >>= λ done. truth_at s (place_of q.formula)

-- the proof of a form, or its first fault
abbrev pub proof_at : Placed → Result Proof TextFault
proof_at f = with_fault (λ k. BadForm k) (parts_at f) >>= λ q. with_fault (λ k. BadForm k) (proof_in q) >>= λ p. proof_judged p q >>= λ done. Ok p

-- the fault is running out of memory, or the first one of the bytes: what keeps them from being a text of one form, or the first fault of
-- that form
abbrev pub IsFirstFault : List ℕ → TextFault → Type 0
IsFirstFault bytes e = IsFaultUnlessMemory e (form_fault bytes) ⊎ ((f : Placed) × IsPlacedText bytes f × IsFaultUnlessMemory e (fault_in (proof_at f)))
