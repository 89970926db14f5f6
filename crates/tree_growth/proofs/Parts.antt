-- The parts of long formulas are long, and weigh less.
use Rattle.std.proofs.Common.{ℕ, ◌+◌, ◌-◌, ◌<◌, List, [], ◌∷◌, ◌≡◌, Bool, true, false, refl, sym, ap, ◌∙◌, subst, eqb, nat_lt, cond, arith}
use Rattle.hol_terms.specs.Terms.{SimpleType, function_type, Constant, Term, free, bound, constant, application, abstraction, truth_type}
use Rattle.hol_terms.specs.Typing.{Typed, IsFormula, type_of_constant}
use Rattle.hol_terms.specs.Indices.{instance_of, put, put_index}
use Rattle.hol_conv.specs.Conversion.{Long, long}
use Rattle.hol_conv.specs.NormalForms.{normal_form}
use Rattle.hol_conv.proofs.Model.{form-typed}
use Rattle.hol_conv.proofs.Normals.{has_normal_form, normal_instance_variable, normal_of_long}
use Rattle.expansion_tree.specs.Occurrences.{term_weight}
use Rattle.expansion_tree.specs.Standing.{compound_of, connective, negation_of, quantified, selecting, IsNormalFormula}
use Rattle.expansion_tree.specs.declared.trees.Op.{Op}
use Rattle.expansion_tree.specs.declared.trees.Op.TheVariants.{And, Or, Imp}
use Rattle.expansion_tree.proofs.Formulas.{variable_instance_formula}

-- a long term is typed

pub long_formula : (a : Term) → Long [] a truth_type → IsFormula a
long_formula a h = form-typed long [] a truth_type h

pub long_body_typed : (s : SimpleType) (b : Term) → Long (s ∷ []) b truth_type → Typed (s ∷ []) b truth_type
long_body_typed s b h = form-typed long (s ∷ []) b truth_type h

-- parts

pub long_negated : (a b : Term) → a ≡ negation_of b → Long [] a truth_type → Long [] b truth_type
long_negated a b e h = go (subst (λ (x : Term). Long [] x truth_type) e h)
  where
    go : Long [] (negation_of b) truth_type → Long [] b truth_type
    go h = let whole : function_type truth_type truth_type ≡ function_type truth_type h.1.0 = h.1.1.1 in let same : h.1.0 ≡ truth_type = cc in subst (Long [] b) same h.1.2

connective_type : (op : Op) → type_of_constant (connective op) ≡ function_type (function_type truth_type truth_type) truth_type
connective_type And = refl
connective_type Or = refl
connective_type Imp = refl

both_long : (op : Op) (b c : Term) → Long [] (compound_of op b c) truth_type → Long [] b truth_type × Long [] c truth_type
both_long op b c h =
    let whole : function_type (function_type truth_type truth_type) truth_type ≡ function_type (function_type truth_type h.1.0) h.1.1.1.0 = sym (connective_type op) ∙ h.1.1.1.1.1 in
    let left : h.1.1.1.0 ≡ truth_type = cc in
    let right : h.1.0 ≡ truth_type = cc in
    (subst (Long [] b) left h.1.1.1.2, subst (Long [] c) right h.1.2)

pub long_left : (op : Op) (a b c : Term) → a ≡ compound_of op b c → Long [] a truth_type → Long [] b truth_type
long_left op a b c e h = (both_long op b c (subst (λ (x : Term). Long [] x truth_type) e h)).0

pub long_right : (op : Op) (a b c : Term) → a ≡ compound_of op b c → Long [] a truth_type → Long [] c truth_type
long_right op a b c e h = (both_long op b c (subst (λ (x : Term). Long [] x truth_type) e h)).1

selecting_type : (p : Bool) (s : SimpleType) → type_of_constant (selecting p s) ≡ function_type truth_type (function_type truth_type s)
selecting_type true s = refl
selecting_type false s = refl

pub long_body : (p : Bool) (a b : Term) (s : SimpleType) → a ≡ quantified (selecting p s) s b → Long [] a truth_type → Long (s ∷ []) b truth_type
long_body p a b s e h = go (subst (λ (x : Term). Long [] x truth_type) e h)
  where
    go : Long [] (quantified (selecting p s) s b) truth_type → Long (s ∷ []) b truth_type
    go h =
        let whole : function_type truth_type (function_type truth_type s) ≡ function_type truth_type h.1.0 = sym (selecting_type p s) ∙ h.1.1.1 in
        let predicate : function_type h.1.2.0 s ≡ h.1.0 = h.1.2.2 in
        let result : h.1.2.0 ≡ truth_type = cc in
        subst (Long (s ∷ []) b) result h.1.2.1

-- instances

pub long_instance : (n : List ℕ) (s : SimpleType) (b : Term) → Long (s ∷ []) b truth_type → Long [] (instance_of b (free n s)) truth_type
long_instance n s b h =
    let t : Typed (s ∷ []) b truth_type = long_body_typed s b h in
    let same : normal_form [] (instance_of b (free n s)) ≡ instance_of b (free n s) =
    normal_instance_variable [] n s truth_type b t ∙ ap (λ (x : Term). put 0 (free n s) x) (normal_of_long (s ∷ []) b truth_type h) in
    subst (λ (x : Term). Long [] x truth_type) same (has_normal_form [] (instance_of b (free n s)) truth_type (variable_instance_formula n s b t)).0

pub normal_long : (n a : Term) → IsNormalFormula n a → Long [] n truth_type
normal_long n a h = h.0

-- weights

pub weight_negated : (a b : Term) → a ≡ negation_of b → term_weight a ≡ 1 + term_weight b
weight_negated a b e = ap term_weight e

pub weight_sides : (op : Op) (a b c : Term) → a ≡ compound_of op b c → term_weight a ≡ 1 + term_weight b + term_weight c
weight_sides op a b c e = ap term_weight e

pub weight_body : (k : Constant) (a b : Term) (s : SimpleType) → a ≡ quantified k s b → term_weight a ≡ 1 + term_weight b
weight_body k a b s e = ap term_weight e

weight_index : (k : ℕ) (n : List ℕ) (s : SimpleType) (i : ℕ) → term_weight (put_index k (free n s) i) ≡ 1
weight_index k n s i = go (eqb i k) (nat_lt i k)
  where
    go : (x y : Bool) → term_weight (cond x (free n s) (cond y (bound i) (bound (i - 1)))) ≡ 1
    go true y = refl
    go false true = refl
    go false false = refl

-- the instance with a variable weighs what the body weighs
pub weight_instance : (k : ℕ) (n : List ℕ) (s : SimpleType) (b : Term) → term_weight (put k (free n s) b) ≡ term_weight b
weight_instance k n s (free m q) = refl
weight_instance k n s (bound i) = weight_index k n s i
weight_instance k n s (constant c) = refl
weight_instance k n s (application f a) = let left = weight_instance k n s f in let right = weight_instance k n s a in omega (arith, left, right)
weight_instance k n s (abstraction q b) = weight_instance (k + 1) n s b

pub long_variable_instance : (n : List ℕ) (s q : SimpleType) (a b : Term) → a ≡ instance_of b (free n q) → q ≡ s → Long (s ∷ []) b truth_type → Long [] a truth_type
long_variable_instance n s q a b e same h =
    let whole : a ≡ instance_of b (free n s) = e ∙ ap (λ (t : SimpleType). instance_of b (free n t)) same in
    subst (λ (x : Term). Long [] x truth_type) (sym whole) (long_instance n s b h)

pub instance_weighs_less : (k : Constant) (n : List ℕ) (s q : SimpleType) (a b c : Term) → a ≡ quantified k s b → c ≡ instance_of b (free n q) → term_weight c < term_weight a
instance_weighs_less k n s q a b c e f =
    let whole = weight_body k a b s e in
    let same : term_weight c ≡ term_weight b = ap term_weight f ∙ weight_instance 0 n q b in
    omega (arith, whole, same)
