-- The heads of long formulas.
use Rattle.std.proofs.Common.{ℕ, ◌≤◌, [], ◌≡◌, ◌⊎◌, Bool, true, false, refl, sym, ap, ◌∙◌, subst, inl, inr, slice_get, Some, arith}
use Rattle.hol_terms.specs.Terms.{SimpleType, function_type, Constant, negation, conjunction, disjunction, implication, truth, falsehood, forall, exists, Term, free, bound, constant, application, abstraction, truth_type}
use Rattle.hol_terms.specs.Typing.{type_of_constant}
use Rattle.hol_conv.specs.Conversion.{Long, Neutral}
use Rattle.hol_conv.specs.LongForms.{missing_arguments}
use Rattle.expansion_tree.specs.Budgets.{HasVariableHead}
use Rattle.expansion_tree.specs.Standing.{connective, expanding, quantified, selecting}
use Rattle.expansion_tree.specs.declared.trees.Op.{Op}
use Rattle.expansion_tree.specs.declared.trees.Op.TheVariants.{And, Or, Imp}
use Rattle.tree_growth.specs.declared.kinds.Kind.{Kind}
use Rattle.tree_growth.specs.declared.kinds.Kind.TheVariants.{Leaf, Const, Not, Bin, Sel, Exp}
use Rattle.tree_growth.specs.Kinds.{HasConstantHead, IsKind, IsKindOfHead}

-- variables as heads

no_index : (i : ℕ) (t : SimpleType) → slice_get [] i ≡ Some t → ⊥
no_index i t e = cc

neutral_variable : (t : Term) (s : SimpleType) → Neutral [] t s → ((c : Constant) → HasConstantHead t c → ⊥) → HasVariableHead t
neutral_variable (free n q) s h none = tt
neutral_variable (bound i) s h none = no_index i s h.1
neutral_variable (constant c) s h none = none c refl
neutral_variable (application f a) s h none = neutral_variable f (function_type s h.1.0) h.1.1 none
neutral_variable (abstraction q b) s h none = h

pub variable_at_head : (a : Term) → Long [] a truth_type → ((c : Constant) → HasConstantHead a c → ⊥) → HasVariableHead a
variable_at_head (free n q) h none = tt
variable_at_head (bound i) h none = no_index i truth_type h.1
variable_at_head (constant c) h none = none c refl
variable_at_head (application f a) h none = neutral_variable f (function_type truth_type h.1.0) h.1.1 none
variable_at_head (abstraction q b) h none = let e : function_type h.0 q ≡ truth_type = h.2 in absurd (cc)

-- constants as heads: alone, or with one argument or two

two_at_most : (c : Constant) → missing_arguments (type_of_constant c) ≤ 2
two_at_most negation = omega arith
two_at_most conjunction = omega arith
two_at_most disjunction = omega arith
two_at_most implication = omega arith
two_at_most truth = omega arith
two_at_most falsehood = omega arith
two_at_most (forall s) = omega arith
two_at_most (exists s) = omega arith

missing_at_most : (t : Term) (s : SimpleType) (c : Constant) → Neutral [] t s → HasConstantHead t c → missing_arguments s ≤ missing_arguments (type_of_constant c)
missing_at_most (free n q) s c h e = absurd e
missing_at_most (bound i) s c h e = absurd e
missing_at_most (constant d) s c h e =
    let same : type_of_constant c ≡ s = ap type_of_constant (sym e) ∙ h.1 in
    let equal : missing_arguments (type_of_constant c) ≡ missing_arguments s = ap missing_arguments same in
    omega arith
missing_at_most (application f a) s c h e = let below = missing_at_most f (function_type s h.1.0) c h.1.1 e in omega (arith, below)
missing_at_most (abstraction q b) s c h e = absurd e

-- the term is this constant alone, of the type of truth values; or it has one argument, or two
abbrev IsAlone : Term → Constant → Type 0
IsAlone a c = (a ≡ constant c) × (type_of_constant c ≡ truth_type)

abbrev HasOneArgument : Term → Constant → Type 0
HasOneArgument a c = (x : Term) × (s : SimpleType) × (a ≡ application (constant c) x) × (type_of_constant c ≡ function_type truth_type s) × Long [] x s

abbrev HasTwoArguments : Term → Constant → Type 0
HasTwoArguments a c =
    (x : Term) × (y : Term) × (s : SimpleType) × (r : SimpleType) × (a ≡ application (application (constant c) x) y)
    × (type_of_constant c ≡ function_type (function_type truth_type s) r)

abbrev HasArguments : Term → Constant → Type 0
HasArguments a c = IsAlone a c ⊎ (HasOneArgument a c ⊎ HasTwoArguments a c)

arguments : (a : Term) (c : Constant) → Long [] a truth_type → HasConstantHead a c → HasArguments a c
arguments (free n q) c h e = absurd e
arguments (bound i) c h e = absurd e
arguments (constant d) c h e = inl (ap constant e, ap type_of_constant (sym e) ∙ h.1)
arguments (application (free n q) x) c h e = absurd e
arguments (application (bound i) x) c h e = absurd e
arguments (application (constant d) x) c h e =
    inr (inl (x, h.1.0, ap (λ (k : Constant). application (constant k) x) e, ap type_of_constant (sym e) ∙ h.1.1.1, h.1.2))
arguments (application (application (free n q) y) x) c h e = absurd e
arguments (application (application (bound i) y) x) c h e = absurd e
arguments (application (application (constant d) y) x) c h e =
    inr (inr (y, x, h.1.0, h.1.1.1.0, ap (λ (k : Constant). application (application (constant k) y) x) e, ap type_of_constant (sym e) ∙ h.1.1.1.1.1))
arguments (application (application (application f z) y) x) c h e =
    let below = missing_at_most f (function_type (function_type (function_type truth_type h.1.0) h.1.1.1.0) h.1.1.1.1.1.0) c h.1.1.1.1.1.1 e in
    let most = two_at_most c in
    absurd (omega (arith, below, most))
arguments (application (application (abstraction q b) y) x) c h e = absurd e
arguments (application (abstraction q b) x) c h e = absurd e
arguments (abstraction q b) c h e = absurd e

long_abstraction : (x : Term) (r s : SimpleType) → Long [] x (function_type r s) → (b : Term) × (x ≡ abstraction s b)
long_abstraction (free n q) r s h = absurd h.0
long_abstraction (bound i) r s h = absurd h.0
long_abstraction (constant c) r s h = absurd h.0
long_abstraction (application f a) r s h = absurd h.0
long_abstraction (abstraction q b) r s h =
    let e : function_type h.0 q ≡ function_type r s = h.2 in
    let same : q ≡ s = cc in
    (b, ap (λ (t : SimpleType). abstraction t b) same)

alone_by : (a : Term) (c : Constant) → type_of_constant c ≡ truth_type → HasArguments a c → a ≡ constant c
alone_by a c e (inl h) = h.0
alone_by a c e (inr (inl h)) = let bad : truth_type ≡ function_type truth_type h.1 = sym e ∙ h.3 in absurd (cc)
alone_by a c e (inr (inr h)) = let bad : truth_type ≡ function_type (function_type truth_type h.2) h.3 = sym e ∙ h.5 in absurd (cc)

one_by : (a : Term) (c : Constant) (s : SimpleType) → type_of_constant c ≡ function_type truth_type s → HasArguments a c
    → (x : Term) × (a ≡ application (constant c) x) × Long [] x s
one_by a c s e (inl h) = let bad : function_type truth_type s ≡ truth_type = sym e ∙ h.1 in absurd (cc)
one_by a c s e (inr (inl h)) =
    let whole : function_type truth_type h.1 ≡ function_type truth_type s = sym h.3 ∙ e in
    let same : h.1 ≡ s = cc in
    (h.0, h.2, subst (Long [] h.0) same h.4)
one_by a c s e (inr (inr h)) =
    let whole : function_type truth_type s ≡ function_type (function_type truth_type h.2) h.3 = sym e ∙ h.5 in
    let bad : truth_type ≡ function_type truth_type h.2 = cc in
    absurd (cc)

two_by : (a : Term) (c : Constant) → type_of_constant c ≡ function_type (function_type truth_type truth_type) truth_type → HasArguments a c
    → (x : Term) × (y : Term) × (a ≡ application (application (constant c) x) y)
two_by a c e (inl h) = let bad : function_type (function_type truth_type truth_type) truth_type ≡ truth_type = sym e ∙ h.1 in absurd (cc)
two_by a c e (inr (inl h)) =
    let whole : function_type (function_type truth_type truth_type) truth_type ≡ function_type truth_type h.1 = sym e ∙ h.3 in
    let bad : function_type truth_type truth_type ≡ truth_type = cc in
    absurd (cc)
two_by a c e (inr (inr h)) = (h.0, h.1, h.4)

connective_type : (op : Op) → type_of_constant (connective op) ≡ function_type (function_type truth_type truth_type) truth_type
connective_type And = refl
connective_type Or = refl
connective_type Imp = refl

selecting_type : (p : Bool) (s : SimpleType) → type_of_constant (selecting p s) ≡ function_type truth_type (function_type truth_type s)
selecting_type true s = refl
selecting_type false s = refl

expanding_type : (p : Bool) (s : SimpleType) → type_of_constant (expanding p s) ≡ function_type truth_type (function_type truth_type s)
expanding_type true s = refl
expanding_type false s = refl

quantified_by : (a : Term) (c q : Constant) (s : SimpleType) → c ≡ q → type_of_constant q ≡ function_type truth_type (function_type truth_type s) → HasArguments a c
    → (ty : SimpleType) × (b : Term) × (a ≡ quantified q ty b) × (ty ≡ s)
quantified_by a c q s same e h =
    let one = one_by a c (function_type truth_type s) (ap type_of_constant same ∙ e) h in
    let argument = long_abstraction one.0 truth_type s one.2 in
    (s, argument.0, one.1 ∙ ap (λ (k : Constant). application (constant k) one.0) same ∙ ap (application (constant q)) argument.1, refl)

-- a long formula has the kind of the constant at its head
pub kind_by_head : (p : Bool) (a : Term) (c : Constant) (k : Kind) → Long [] a truth_type → HasConstantHead a c → IsKindOfHead p c k → IsKind p a k
kind_by_head p a c Leaf l h e = absurd e
kind_by_head p a c Const l h (inl e) = (true, alone_by a c (ap type_of_constant e) (arguments a c l h) ∙ ap constant e)
kind_by_head p a c Const l h (inr e) = (false, alone_by a c (ap type_of_constant e) (arguments a c l h) ∙ ap constant e)
kind_by_head p a c Not l h e =
    let one = one_by a c truth_type (ap type_of_constant e) (arguments a c l h) in
    (one.0, one.1 ∙ ap (λ (k : Constant). application (constant k) one.0) e)
kind_by_head p a c (Bin op) l h e =
    let two = two_by a c (ap type_of_constant e ∙ connective_type op) (arguments a c l h) in
    (two.0, two.1, two.2 ∙ ap (λ (k : Constant). application (application (constant k) two.0) two.1) e)
kind_by_head p a c Sel l h e =
    let q = quantified_by a c (selecting p e.0) e.0 e.1 (selecting_type p e.0) (arguments a c l h) in
    (e.0, q.1, q.2 ∙ ap (λ (ty : SimpleType). quantified (selecting p e.0) ty q.1) q.3)
kind_by_head p a c Exp l h e =
    let q = quantified_by a c (expanding p e.0) e.0 e.1 (expanding_type p e.0) (arguments a c l h) in
    (e.0, q.1, q.2 ∙ ap (λ (ty : SimpleType). quantified (expanding p e.0) ty q.1) q.3)
