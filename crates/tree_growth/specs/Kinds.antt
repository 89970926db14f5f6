-- The kinds of long formulas.
use Rattle.std.specs.Prelude.{◌≡◌, ◌⊎◌, Bool}
use Rattle.hol_terms.specs.Terms.{SimpleType, Constant, truth, falsehood, negation, Term, free, bound, constant, application, abstraction}
use Rattle.expansion_tree.specs.Budgets.{HasVariableHead}
use Rattle.expansion_tree.specs.Standing.{compound_of, connective, expanding, negation_of, quantified, selecting, truth_value}
use Rattle.tree_growth.specs.declared.kinds.Kind.{Kind}
use Rattle.tree_growth.specs.declared.kinds.Kind.TheVariants.{Leaf, Const, Not, Bin, Sel, Exp}

-- the kind of a formula of polarity p
abbrev pub IsKind : Bool → Term → Kind → Type 0
IsKind p a Leaf = HasVariableHead a
IsKind p a Const = (v : Bool) × (a ≡ truth_value v)
IsKind p a Not = (b : Term) × (a ≡ negation_of b)
IsKind p a (Bin op) = (b : Term) × (c : Term) × (a ≡ compound_of op b c)
IsKind p a Sel = (ty : SimpleType) × (b : Term) × (a ≡ quantified (selecting p ty) ty b)
IsKind p a Exp = (ty : SimpleType) × (b : Term) × (a ≡ quantified (expanding p ty) ty b)

-- the constant is the term's head
abbrev pub HasConstantHead : Term → Constant → Type 0
HasConstantHead (free n s) c = ⊥
HasConstantHead (bound i) c = ⊥
HasConstantHead (constant d) c = d ≡ c
HasConstantHead (application f a) c = HasConstantHead f c
HasConstantHead (abstraction s b) c = ⊥

-- a formula of polarity p with this constant as its head is of the kind
abbrev pub IsKindOfHead : Bool → Constant → Kind → Type 0
IsKindOfHead p c Leaf = ⊥
IsKindOfHead p c Const = (c ≡ truth) ⊎ (c ≡ falsehood)
IsKindOfHead p c Not = c ≡ negation
IsKindOfHead p c (Bin op) = c ≡ connective op
IsKindOfHead p c Sel = (ty : SimpleType) × (c ≡ selecting p ty)
IsKindOfHead p c Exp = (ty : SimpleType) × (c ≡ expanding p ty)
