-- What lines say of the parts of a formula.
use Rattle.std.proofs.Common.{◌≡◌, ℕ, List, [], ◌∷◌, Bool, true, false, not, Some, None, Ok, Err, refl, sym, ◌∙◌, subst, ap, arith, inl, inr}
use Rattle.std.specs.Prelude.{Option, Result, IfOk}
use Rattle.std.specs.Option.{option_map}
use Rattle.std.proofs.lemmas.List.Elements.{All-head}
use Rattle.hol_terms.specs.Terms.{SimpleType, Term, Constant, free, truth_type}
use Rattle.hol_terms.specs.Typing.{Typed, IsFormula}
use Rattle.hol_terms.specs.Indices.{instance_of}
use Rattle.hol_terms.specs.Truth.{Holds, Follows}
use Rattle.hol_terms.proofs.Truths.{holds_or_not}
use Rattle.hol_conv.specs.Conversion.{Conv, Long, long}
use Rattle.hol_conv.proofs.Model.{form-typed}
use Rattle.hol_conv.proofs.Normals.{one_normal_form}
use Rattle.hol_conv.proofs.Uniqueness.{conv-sym}
use Rattle.expansion_tree.specs.declared.trees.Op.{Op}
use Rattle.expansion_tree.specs.declared.trees.Op.TheVariants.{And, Or, Imp}
use Rattle.expansion_tree.specs.Standing.{IsNormalFormula, negation_of, compound_of, left_polarity, quantified, selecting, expanding}
use Rattle.expansion_tree.proofs.Formulas.{formula_negated, formula_left, formula_right, quantified_body, expanding_is, variable_instance_formula, long_instance_formula}
use Rattle.nd_rules.specs.Lines.{DeductionLine, line_of}
use Rattle.nd_rules.specs.Outlines.{IsWellFormed}
use Rattle.nd_steps.specs.Deductions.{IsDeduction, AreAssumptions, Proves, Derives}
use Rattle.nd_steps.proofs.Growing.{assumptions_stay, proves_stays}
use Rattle.nd_steps.proofs.Numbering.{found_in}
use Rattle.refutations.specs.Opens.{said, Says, gives_cases}
use Rattle.refutations.specs.Reaching.{Reaches}
use Rattle.refutations.proofs.Saying.{said_read}

-- formulas

-- what a line of a deduction says is a formula
pub says_formed : (lines : List DeductionLine) (n : ℕ) (a : Term) → IsDeduction lines → Says lines n a → IsFormula a
says_formed lines n a d says = read (line_of lines n) refl says
  where
    read : (l : Option DeductionLine) → line_of lines n ≡ l → option_map (λ (k : DeductionLine). k.formula) l ≡ Some a → IsFormula a
    read (Some l) found e = let same : l.formula ≡ a = cc in subst IsFormula same (found_in IsWellFormed lines n l d.outline.formed found).0
    read None found e = cc

-- what is said of a formula is one
pub formed_said : (p : Bool) (a : Term) → IsFormula a → IsFormula (said p a)
formed_said true a h = (truth_type, refl, h)
formed_said false a h = h

-- and is said of one
pub said_formed : (p : Bool) (a : Term) → IsFormula (said p a) → IsFormula a
said_formed true a h = formula_negated (negation_of a) a refl h
said_formed false a h = h

-- what follows by assignments

-- b, where NOT NOT b is said
pub not_denied : (p : Bool) (b : Term) → p ≡ true → Follows (said p (negation_of b) ∷ []) b
not_denied true b e l all = elim (holds_or_not l b) [
  | inl so ↦ so
  | inr none ↦ absurd (All-head (Holds l) (negation_of (negation_of b)) [] all none)
]
not_denied false b e l all = cc

-- what is said of the left side, where a compound gives both sides
pub left_follows : (op : Op) (p : Bool) (b c : Term) → gives_cases op p ≡ false → Follows (said p (compound_of op b c) ∷ []) (said (left_polarity op p) b)
left_follows And true b c both l all = cc
left_follows And false b c both l all = (All-head (Holds l) (compound_of And b c) [] all).0
left_follows Or true b c both l all = λ h. All-head (Holds l) (negation_of (compound_of Or b c)) [] all (inl h)
left_follows Or false b c both l all = cc
left_follows Imp true b c both l all = elim (holds_or_not l b) [
  | inl so ↦ so
  | inr none ↦ absurd (All-head (Holds l) (negation_of (compound_of Imp b c)) [] all (λ h. absurd (none h)))
]
left_follows Imp false b c both l all = cc

-- and of the right side
pub right_follows : (op : Op) (p : Bool) (b c : Term) → gives_cases op p ≡ false → Follows (said p (compound_of op b c) ∷ []) (said p c)
right_follows And true b c both l all = cc
right_follows And false b c both l all = (All-head (Holds l) (compound_of And b c) [] all).1
right_follows Or true b c both l all = λ h. All-head (Holds l) (negation_of (compound_of Or b c)) [] all (inr h)
right_follows Or false b c both l all = cc
right_follows Imp true b c both l all = λ h. All-head (Holds l) (negation_of (compound_of Imp b c)) [] all (λ _. h)
right_follows Imp false b c both l all = cc

-- what was read from a line

-- a line that denies a formula
pub denies : (lines : List DeductionLine) (n : ℕ) (p : Bool) (a : Term) → p ≡ true → Says lines n (said p a) → Says lines n (negation_of a)
denies lines n p a e says = subst (λ (q : Bool). Says lines n (said q a)) e says

-- the b of NOT NOT b
pub negation_read : (lines : List DeductionLine) (n : ℕ) (p : Bool) (b f u t : Term) → p ≡ true → Says lines n (said p (negation_of b)) → Says lines n (negation_of f) → f ≡ negation_of u → t ≡ u → t ≡ b
negation_read lines n p b f u t e says read split copy =
    let same : f ≡ negation_of b = said_read lines n true (negation_of b) f (denies lines n p (negation_of b) e says) read in
    let under : u ≡ b = cc in
    copy ∙ under

-- the two sides of a compound
sides_read : (lines : List DeductionLine) (n : ℕ) (p : Bool) (op : Op) (b c f u v : Term) → Says lines n (said p (compound_of op b c)) → Says lines n (said p f)
    → ((o : Op) (x y : Term) → f ≡ compound_of o x y → f ≡ compound_of o u v) → (u ≡ b) × (v ≡ c)
sides_read lines n p op b c f u v says read split =
    let same : f ≡ compound_of op b c = said_read lines n p (compound_of op b c) f says read in
    let both : compound_of op u v ≡ compound_of op b c = sym (split op b c same) ∙ same in
    let left : u ≡ b = cc in
    let right : v ≡ c = cc in
    (left, right)

-- what is said of a side
module _ (lines : List DeductionLine) (n : ℕ) (p : Bool) (op : Op) (f u v : Term) (read : Says lines n (said p f)) (split : (o : Op) (x y : Term) → f ≡ compound_of o x y → f ≡ compound_of o u v) where
  pub left_read : (b c : Term) (q : Bool) (t : Term) → t ≡ said q u → q ≡ left_polarity op p → Says lines n (said p (compound_of op b c)) → t ≡ said (left_polarity op p) b
  left_read b c q t is turned says = is ∙ ap (λ (r : Bool). said r u) turned ∙ ap (said (left_polarity op p)) (sides_read lines n p op b c f u v says read split).0

  pub right_read : (b c t : Term) → t ≡ said p v → Says lines n (said p (compound_of op b c)) → t ≡ said p c
  right_read b c t is says = is ∙ ap (said p) (sides_read lines n p op b c f u v says read split).1

-- what a compound's line says of its sides are formulas

pub left_formed : (op : Op) (p : Bool) (b c t : Term) → IsFormula (said p (compound_of op b c)) → t ≡ said (left_polarity op p) b → IsFormula t
left_formed op p b c t h is = subst IsFormula (sym is) (formed_said (left_polarity op p) b (formula_left op (compound_of op b c) b c refl (said_formed p (compound_of op b c) h)))

pub right_formed : (op : Op) (p : Bool) (b c t : Term) → IsFormula (said p (compound_of op b c)) → t ≡ said p c → IsFormula t
right_formed op p b c t h is = subst IsFormula (sym is) (formed_said p c (formula_right op (compound_of op b c) b c refl (said_formed p (compound_of op b c) h)))

-- a quantified formula
pub expanding_read : (lines : List DeductionLine) (n : ℕ) (p : Bool) (ty : SimpleType) (b f : Term) → Says lines n (said p (quantified (expanding p ty) ty b)) → Says lines n (said p f) → f ≡ quantified (selecting (not p) ty) ty b
expanding_read lines n p ty b f says read =
    said_read lines n p (quantified (expanding p ty) ty b) f says read ∙ ap (λ (k : Constant). quantified k ty b) (expanding_is p ty)

-- what a selection's line says of the variable is a formula
pub selected_formed : (p : Bool) (name : List ℕ) (ty : SimpleType) (b t : Term) → IsFormula (said p (quantified (selecting p ty) ty b)) → t ≡ said p (instance_of b (free name ty)) → IsFormula t
selected_formed p name ty b t h is =
    let a : Term = quantified (selecting p ty) ty b in
    let typed : Typed (ty ∷ []) b truth_type = quantified_body p a b ty refl (said_formed p a h) in
    subst IsFormula (sym is) (formed_said p (instance_of b (free name ty)) (variable_instance_formula name ty b typed))

-- the instance with an expansion term, and its long normal form n

-- the instance is a formula
pub instance_formed : (ty : SimpleType) (u b v : Term) → Typed (ty ∷ []) b truth_type → Long [] u ty → v ≡ instance_of b u → IsFormula v
instance_formed ty u b v typed l is = subst IsFormula (sym is) (long_instance_formula ty u b typed l)

-- the instance with a copy of the term is convertible with it
pub lower_converts : (b u v w n : Term) → v ≡ instance_of b u → w ≡ u → IsNormalFormula n v → Conv [] truth_type (instance_of b w) n
lower_converts b u v w n is copy normal =
    let P : Term → Type 0 = λ t. Conv [] truth_type t n in
    subst P (is ∙ ap (instance_of b) (sym copy)) (conv-sym [] truth_type n v normal.1)

-- the copy has the term's type
pub copy_typed : (ty : SimpleType) (u w : Term) → Long [] u ty → w ≡ u → Typed [] w ty
copy_typed ty u w l copy = subst (λ (t : Term). Typed [] t ty) (sym copy) (form-typed long [] u ty l)

-- it is the only one
pub lower_is : (a v n m : Term) → v ≡ a → IsNormalFormula n v → IsNormalFormula m a → n ≡ m
lower_is a v n m is hn hm = one_normal_form [] a n m truth_type (subst (IsNormalFormula n) is hn) hm

-- lines that are added

-- what they prove, written in another way
pub reaches_as : (k : ℕ) (old new : List DeductionLine) (n : ℕ) (hyps : List ℕ) (t a : Term) → t ≡ a → Reaches k old new n hyps t → Reaches k old new n hyps a
reaches_as k old new n hyps t a is r = subst (Reaches k old new n hyps) is r

-- those that a step derives
pub derives_reaches : (k : ℕ) (old new : List DeductionLine) (n : ℕ) (hyps : List ℕ) (t a : Term) → t ≡ a → Derives k old new n hyps t → Reaches k old new n hyps a
derives_reaches k old new n hyps t a is d =
    let made : Reaches k old new n hyps t = record { grown = d.grown; few = omega (arith, d.longer); proves = d.proves } in
    reaches_as k old new n hyps t a is made

-- two steps from one line
pub both_derived : (old mid new : List DeductionLine) (source m n : ℕ) (hyps : List ℕ) (a s t : Term) → AreAssumptions old hyps → Proves old source hyps a
    → ((hs : List ℕ) (x : Term) → AreAssumptions old hs → Proves old source hs x → Derives 1 old mid m hs s)
    → ((hs : List ℕ) (x : Term) → AreAssumptions mid hs → Proves mid source hs x → Derives 1 mid new n hs t)
    → Derives 1 old mid m hyps s × Derives 1 mid new n hyps t
both_derived old mid new source m n hyps a s t assumed proved first second =
    let d : Derives 1 old mid m hyps s = first hyps a assumed proved in
    (d, second hyps a (assumptions_stay old mid hyps d.grown assumed) (proves_stays old mid source hyps a d.grown proved))

-- The number that a step answers: its line proves the conclusion on b, whichever b the source proves the premise on.
pub ok_derived_reaches : {E : Type 0} (r : Result ℕ E) (k : ℕ) (old new : List DeductionLine) (source : ℕ) (t : Term) (premise conclusion : Term → Term)
    → ((hyps : List ℕ) (a : Term) → AreAssumptions old hyps → Proves old source hyps a → IfOk r (λ n. Derives k old new n hyps t))
    → ((hyps : List ℕ) (b : Term) → Proves old source hyps (premise b) → t ≡ conclusion b)
    → IfOk r (λ n. (hyps : List ℕ) (b : Term) → AreAssumptions old hyps → Proves old source hyps (premise b) → Reaches k old new n hyps (conclusion b))
ok_derived_reaches (Ok n) k old new source t premise conclusion step is = λ hyps b assumed proved. derives_reaches k old new n hyps t (conclusion b) (is hyps b proved) (step hyps (premise b) assumed proved)
ok_derived_reaches (Err e) k old new source t premise conclusion step is = tt

-- the same of an expansion, whose line below has the long normal form of the instance
pub ok_expanded_reaches : {E : Type 0} (r : Result ℕ E) (k : ℕ) (old new : List DeductionLine) (source : ℕ) (p : Bool) (t u : Term)
    → ((hyps : List ℕ) (ty : SimpleType) (b : Term) → AreAssumptions old hyps → Proves old source hyps (said p (quantified (expanding p ty) ty b)) → IfOk r (λ n. Reaches k old new n hyps (said p t)))
    → ((hyps : List ℕ) (ty : SimpleType) (b lower : Term) → Proves old source hyps (said p (quantified (expanding p ty) ty b)) → IsNormalFormula lower (instance_of b u) → t ≡ lower)
    → IfOk r (λ n. (hyps : List ℕ) (ty : SimpleType) (b lower : Term) → AreAssumptions old hyps → Proves old source hyps (said p (quantified (expanding p ty) ty b)) → IsNormalFormula lower (instance_of b u) → Reaches k old new n hyps (said p lower))
ok_expanded_reaches (Ok n) k old new source p t u step is =
    λ hyps ty b lower assumed proved normal. reaches_as k old new n hyps (said p t) (said p lower) (ap (said p) (is hyps ty b lower proved normal)) (step hyps ty b assumed proved)
ok_expanded_reaches (Err e) k old new source p t u step is = tt
