-- Formulas and their parts.
use Rattle.std.proofs.Common.{◌≡◌, ◌≢◌, List, [], ◌∷◌, Bool, true, false, not, ℕ, refl, sym, ◌∙◌, ap, subst}
use Rattle.hol_terms.specs.Terms.{SimpleType, function_type, Term, free, application, abstraction, constant, Constant, truth_type}
use Rattle.hol_terms.specs.Typing.{Typed, IsFormula, type_of_constant}
use Rattle.hol_terms.specs.Indices.{instance_of}
use Rattle.hol_terms.proofs.TypingLaws.{typed_once, typed_instance}
use Rattle.hol_conv.specs.Conversion.{Long, long}
use Rattle.hol_conv.proofs.Model.{form-typed}
use Rattle.expansion_tree.specs.declared.trees.Op.{Op}
use Rattle.expansion_tree.specs.declared.trees.Op.TheVariants.{And, Or, Imp}
use Rattle.expansion_tree.specs.Standing.{negation_of, compound_of, connective, quantified, selecting, expanding, IsNormalFormula}

pub formula_negated : (a b : Term) → a ≡ negation_of b → IsFormula a → IsFormula b
formula_negated a b e h = go (subst IsFormula e h)
  where
    go : IsFormula (negation_of b) → IsFormula b
    go (s, f, t) = let same : s ≡ truth_type = cc in subst (λ (r : SimpleType). Typed [] b r) same t

connective_type : (op : Op) → type_of_constant (connective op) ≡ function_type (function_type truth_type truth_type) truth_type
connective_type And = refl
connective_type Or = refl
connective_type Imp = refl

both_sides : (op : Op) (b c : Term) → IsFormula (compound_of op b c) → IsFormula b × IsFormula c
both_sides op b c (s, (r, f, x), y) =
    let whole : function_type (function_type truth_type s) r ≡ function_type (function_type truth_type truth_type) truth_type = sym f ∙ connective_type op in
    let left : r ≡ truth_type = cc in
    let right : s ≡ truth_type = cc in
    (subst (λ (q : SimpleType). Typed [] b q) left x, subst (λ (q : SimpleType). Typed [] c q) right y)

pub formula_left : (op : Op) (a b c : Term) → a ≡ compound_of op b c → IsFormula a → IsFormula b
formula_left op a b c e h = (both_sides op b c (subst IsFormula e h)).0

pub formula_right : (op : Op) (a b c : Term) → a ≡ compound_of op b c → IsFormula a → IsFormula c
formula_right op a b c e h = (both_sides op b c (subst IsFormula e h)).1

selecting_type : (p : Bool) (s : SimpleType) → type_of_constant (selecting p s) ≡ function_type truth_type (function_type truth_type s)
selecting_type true s = refl
selecting_type false s = refl

over_type : (p : Bool) (s r : SimpleType) (b : Term) → IsFormula (application (constant (selecting p s)) (abstraction r b)) → (r ≡ s) × Typed (r ∷ []) b truth_type
over_type p s r b (q, f, (t, y, g)) =
    let whole : function_type truth_type q ≡ function_type truth_type (function_type truth_type s) = sym f ∙ selecting_type p s in
    let predicate : function_type t r ≡ function_type truth_type s = g ∙ cc in
    let same : r ≡ s = cc in
    let result : t ≡ truth_type = cc in
    (same, subst (λ (o : SimpleType). Typed (r ∷ []) b o) result y)

-- a quantifier stands on an abstraction over its very type
pub formula_quantified : (p : Bool) (a b : Term) (s r : SimpleType) (c : Constant) → a ≡ application (constant c) (abstraction r b) → c ≡ selecting p s → IsFormula a → a ≡ quantified (selecting p s) s b
formula_quantified p a b s r c e f h =
    let whole : a ≡ application (constant (selecting p s)) (abstraction r b) = e ∙ ap (λ (k : Constant). application (constant k) (abstraction r b)) f in
    whole ∙ ap (λ (q : SimpleType). application (constant (selecting p s)) (abstraction q b)) (over_type p s r b (subst IsFormula whole h)).0

pub quantified_body : (p : Bool) (a b : Term) (s : SimpleType) → a ≡ quantified (selecting p s) s b → IsFormula a → Typed (s ∷ []) b truth_type
quantified_body p a b s e h = (over_type p s s b (subst IsFormula e h)).1

pub expanding_is : (p : Bool) (s : SimpleType) → expanding p s ≡ selecting (not p) s
expanding_is true s = refl
expanding_is false s = refl

-- instances

pub variable_instance_formula : (n : List ℕ) (s : SimpleType) (b : Term) → Typed (s ∷ []) b truth_type → IsFormula (instance_of b (free n s))
variable_instance_formula n s b h = typed_instance [] s (free n s) b truth_type refl h

pub long_instance_formula : (s : SimpleType) (u b : Term) → Typed (s ∷ []) b truth_type → Long [] u s → IsFormula (instance_of b u)
long_instance_formula s u b h l = typed_instance [] s u b truth_type (form-typed long [] u s l) h

pub normal_formula : (n a : Term) → IsNormalFormula n a → IsFormula n
normal_formula n a h = form-typed long [] n truth_type h.0

pub long_of_other_type : (u : Term) (s r : SimpleType) → Typed [] u s → s ≢ r → Long [] u r → ⊥
long_of_other_type u s r t other l = other (typed_once [] u s r t (form-typed long [] u r l))

pub long_without_type : (u : Term) (r : SimpleType) → ((s : SimpleType) → Typed [] u s → ⊥) → Long [] u r → ⊥
long_without_type u r none l = none r (form-typed long [] u r l)
