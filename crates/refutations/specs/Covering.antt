-- Which leaves cover a tree: some path through it has none but these. After Andrews 1981.
use Rattle.std.specs.Prelude.{ℕ, ◌+◌, List, Bool, true, false, Contains, ◌⊎◌}
use Rattle.hol_terms.specs.Terms.{SimpleType, Term}
use Rattle.hol_terms.specs.Indices.{instance_of}
use Rattle.expansion_tree.specs.declared.trees.Op.{Op}
use Rattle.expansion_tree.specs.declared.trees.Op.TheVariants.{And, Or, Imp}
use Rattle.expansion_tree.specs.Standing.{Standing, at_leaf, at_constant, at_negation, at_connective, at_selection, at_expansion, StandingBranches, none_standing, branch_standing, Stands, leaf_count, quantified, expanding, IsNormalFormula}
use Rattle.nd_rules.specs.Lines.{DeductionLine}
use Rattle.refutations.specs.Opens.{said, Says, OpenNode, Open, at_node, at_term}

-- no path has a constant that is as its polarity wants it
abbrev pub ConstantCovered : Bool → Bool → Type 0
ConstantCovered true true = ⊥
ConstantCovered false false = ⊥
ConstantCovered true false = Unit {0}
ConstantCovered false true = Unit {0}

-- one side where a compound gives two cases, and else both
abbrev pub CompoundCovered : Op → Bool → Type 0 → Type 0 → Type 0
CompoundCovered And true left right = left ⊎ right
CompoundCovered And false left right = left × right
CompoundCovered Or true left right = left × right
CompoundCovered Or false left right = left ⊎ right
CompoundCovered Imp true left right = left × right
CompoundCovered Imp false left right = left ⊎ right

abbrev mutual
  -- the leaves cover the tree, before which so many leaves come
  pub Covers : List ℕ → ℕ → Standing → Type 0
  Covers found before (at_leaf p a) = Contains found (before + 1)
  Covers found before (at_constant p v) = ConstantCovered p v
  Covers found before (at_negation n) = Covers found before n
  Covers found before (at_connective op p m n) = CompoundCovered op p (Covers found before m) (Covers found (before + leaf_count m) n)
  Covers found before (at_selection v n) = Covers found before n
  Covers found before (at_expansion p ns) = CoversBranches found before ns

  pub CoversBranches : List ℕ → ℕ → StandingBranches → Type 0
  CoversBranches found before none_standing = Unit {0}
  CoversBranches found before (branch_standing u n ns) = Covers found before n × CoversBranches found (before + leaf_count n) ns

-- the leaves cover the tree of an open node
pub record IsNodeCovered (lines : List DeductionLine) (found : List ℕ) (n : OpenNode) : Type 0 where
  pub formula : Term
  pub standing : Standing
  pub stands : Stands n.positive formula n.tree standing
  pub says : Says lines n.line (said n.positive formula)
  pub covers : Covers found n.place.leaves standing

-- the leaves cover the tree below an open term
pub record IsTermCovered (lines : List DeductionLine) (found : List ℕ) (u : Term) (n : OpenNode) : Type 0 where
  pub ty : SimpleType
  pub body : Term
  pub lower : Term
  pub standing : Standing
  pub normal : IsNormalFormula lower (instance_of body u)
  pub stands : Stands n.positive lower n.tree standing
  pub says : Says lines n.line (said n.positive (quantified (expanding n.positive ty) ty body))
  pub covers : Covers found n.place.leaves standing

abbrev pub IsCovered : List DeductionLine → List ℕ → Open → Type 0
IsCovered lines found (at_node n) = IsNodeCovered lines found n
IsCovered lines found (at_term u n) = IsTermCovered lines found u n
