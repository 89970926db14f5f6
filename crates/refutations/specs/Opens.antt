-- What is open in a case of a refutation: nodes of an expansion tree that have a line, and terms whose expansion node has one. After
-- Miller 1987.
use Rattle.std.specs.Prelude.{◌≡◌, ℕ, ◌+◌, ◌-◌, List, [], ◌∷◌, Bool, true, false, not, Some, All, Contains, slice_get, if◌then◌else◌, nat_lt}
use Rattle.std.specs.Option.{option_map}
use Rattle.hol_terms.specs.Terms.{SimpleType, Term, truth_type, plain_term}
use Rattle.hol_terms.specs.Typing.{Typed, IsFormula}
use Rattle.hol_terms.specs.Indices.{instance_of}
use Rattle.hol_conv.specs.Conversion.{Long}
use Rattle.expansion_tree.specs.Trees.{ExpansionTree, leaf_node, constant_node, negation_node, connective_node, selection_node, expansion_node, ExpansionBranches, no_branch, branch, node_count, branch_node_count, plain_tree}
use Rattle.expansion_tree.specs.declared.trees.Op.{Op}
use Rattle.expansion_tree.specs.declared.trees.Op.TheVariants.{And, Or, Imp}
use Rattle.expansion_tree.specs.Standing.{Standing, Stands, leaves, selections_from, negation_of, quantified, expanding, IsNormalFormula}
use Rattle.expansion_tree.specs.Occurrences.{occurrences_of, occurrences_from}
use Rattle.dependency.specs.Dependencies.{occurrence_at}
use Rattle.exp_check.specs.Accepted.{AcceptedProof}
use Rattle.nd_rules.specs.Lines.{DeductionLine, line_of}
use Rattle.nd_steps.specs.Deductions.{Proves}
use Rattle.refutations.specs.declared.nodes.Place.{Place}
use Rattle.refutations.specs.declared.nodes.Node.{Node}
use Rattle.refutations.specs.declared.nodes.Front.{Front}

-- what the line of a node says of a formula: that it is false where the node is positive, and true where it is negative
abbrev pub said : Bool → Term → Term
said true a = negation_of a
said false a = a

-- the line has that formula
abbrev pub Says : List DeductionLine → ℕ → Term → Type 0
Says lines n a = option_map (λ (l : DeductionLine). l.formula) (line_of lines n) ≡ Some a

-- a node of the tree, with its polarity, a line and its place
pub record OpenNode : Type 0 where
  pub positive : Bool
  pub tree : ExpansionTree
  pub line : ℕ
  pub place : Place

-- A node whose line speaks of the node's own formula, or the node below a term, whose line speaks of the formula of the expansion node
-- above.
pub data Open : Type 0 where
  at_node : OpenNode → Open
  at_term : Term → OpenNode → Open

abbrev pub node_of : Open → OpenNode
node_of (at_node n) = n
node_of (at_term u n) = n

-- the same without pointers
abbrev pub plain_node : Node → OpenNode
plain_node n = record { positive = n.positive; tree = plain_tree n.tree.now; line = n.line; place = n.place }

abbrev pub open_node : Node → Open
open_node n = at_node (plain_node n)

abbrev pub open_term : Front → Open
open_term f = at_term (plain_term f.term.now) (plain_node f.node)

-- whether a number is among so many from the first one on: 1 or 0
abbrev pub within : ℕ → ℕ → ℕ → ℕ
within k first many = if nat_lt k first then 0 else (if nat_lt k (first + many) then 1 else 0)

-- whether a node stands in the tree of an open node, or below an open term
abbrev pub inside : ℕ → Open → ℕ
inside k o = within k (node_of o).place.node (node_count (node_of o).tree)

-- in how many of them
abbrev pub times_inside : ℕ → List Open → ℕ
times_inside k [] = 0
times_inside k (o ∷ os) = inside k o + times_inside k os

-- how many nodes stand below a node
abbrev pub below : ExpansionTree → ℕ
below leaf_node = 0
below constant_node = 0
below (negation_node t) = node_count t
below (connective_node op t u) = node_count t + node_count u
below (selection_node name t) = node_count t
below (expansion_node bs) = branch_node_count bs

-- how many nodes have had no line yet
abbrev pub unwritten : Open → ℕ
unwritten (at_node n) = below n.tree
unwritten (at_term u n) = node_count n.tree

abbrev pub all_unwritten : List Open → ℕ
all_unwritten [] = 0
all_unwritten (o ∷ os) = unwritten o + all_unwritten os

-- whether a compound of this polarity gives two cases, and not both sides
abbrev pub gives_cases : Op → Bool → Bool
gives_cases And p = p
gives_cases Or p = not p
gives_cases Imp p = not p

abbrev mutual
  -- how many leaves a tree has
  pub leaf_total : ExpansionTree → ℕ
  leaf_total leaf_node = 1
  leaf_total constant_node = 0
  leaf_total (negation_node t) = leaf_total t
  leaf_total (connective_node op t u) = leaf_total t + leaf_total u
  leaf_total (selection_node name t) = leaf_total t
  leaf_total (expansion_node bs) = branch_leaf_total bs

  pub branch_leaf_total : ExpansionBranches → ℕ
  branch_leaf_total no_branch = 0
  branch_leaf_total (branch u t bs) = leaf_total t + branch_leaf_total bs

abbrev mutual
  -- how many occurrences a tree has
  pub occurrence_total : ExpansionTree → ℕ
  occurrence_total leaf_node = 0
  occurrence_total constant_node = 0
  occurrence_total (negation_node t) = occurrence_total t
  occurrence_total (connective_node op t u) = occurrence_total t + occurrence_total u
  occurrence_total (selection_node name t) = occurrence_total t
  occurrence_total (expansion_node bs) = branch_occurrence_total bs

  pub branch_occurrence_total : ExpansionBranches → ℕ
  branch_occurrence_total no_branch = 0
  branch_occurrence_total (branch u t bs) = 1 + occurrence_total t + branch_occurrence_total bs

-- the place of the first node below a node
abbrev pub place_below : Place → Place
place_below p = record { node = p.node + 1; leaves = p.leaves; occurrences = p.occurrences }

-- the place after a tree
abbrev pub place_past : ExpansionTree → Place → Place
place_past t p = record { node = p.node + node_count t; leaves = p.leaves + leaf_total t; occurrences = p.occurrences + occurrence_total t }

-- the place of a branch's tree, whose occurrence comes first
abbrev pub place_in_branch : Place → Place
place_in_branch p = record { node = p.node; leaves = p.leaves; occurrences = p.occurrences + 1 }

-- the terms of branches, of which the first one's place is given
abbrev pub terms_below : Bool → ℕ → Place → ExpansionBranches → List Open
terms_below positive line p no_branch = []
terms_below positive line p (branch u t bs) =
    at_term u (record { positive = positive; tree = t; line = line; place = place_in_branch p }) ∷ terms_below positive line (place_past t (place_in_branch p)) bs

-- the part's elements stand in the whole, from the offset on
abbrev pub IsPartAt : {A : Type 0} → List A → ℕ → List A → Type 0
IsPartAt {A} whole offset part = (i : ℕ) (x : A) → slice_get part i ≡ Some x → slice_get whole (offset + i) ≡ Some x

-- The node's tree stands at the formula, and its selected variables, its leaves and its occurrences are among those of the proof, at its
-- place.
pub record StandsAt (g : AcceptedProof) (n : OpenNode) (formula : Term) (s : Standing) : Type 0 where
  pub stands : Stands n.positive formula n.tree s
  pub formed : IsFormula formula
  pub selected : All (Contains g.fitted.selection_list) (selections_from n.place.node s)
  pub leaves_are : IsPartAt g.fitted.leaf_list n.place.leaves (leaves s)
  pub occurrences_are : IsPartAt (occurrences_of g.fitted.tree) n.place.occurrences (occurrences_from n.place.node n.tree)

-- a node, and its line
pub record HasNodeLine (g : AcceptedProof) (lines : List DeductionLine) (hyps : List ℕ) (n : OpenNode) : Type 0 where
  pub formula : Term
  pub standing : Standing
  pub stands_at : StandsAt g n formula standing
  pub proves : Proves lines n.line hyps (said n.positive formula)

-- a term of an expansion, the node below it, and the line of the expansion node
pub record HasTermLine (g : AcceptedProof) (lines : List DeductionLine) (hyps : List ℕ) (u : Term) (n : OpenNode) : Type 0 where
  pub ty : SimpleType
  pub body : Term
  pub lower : Term
  pub standing : Standing
  pub stands_at : StandsAt g n lower standing
  pub normal : IsNormalFormula lower (instance_of body u)
  pub long : Long [] u ty
  pub typed : Typed (ty ∷ []) body truth_type
  pub occurs : occurrence_at (occurrences_of g.fitted.tree) n.place.occurrences ≡ Some (record { first = n.place.node; last = n.place.node + node_count n.tree - 1; term = u })
  pub proves : Proves lines n.line hyps (said n.positive (quantified (expanding n.positive ty) ty body))

abbrev pub HasLine : AcceptedProof → List DeductionLine → List ℕ → Open → Type 0
HasLine g lines hyps (at_node n) = HasNodeLine g lines hyps n
HasLine g lines hyps (at_term u n) = HasTermLine g lines hyps u n
