-- Terms that differ only in open types.
use Rattle.std.proofs.Common.{ℕ, ◌+◌, List, ◌∷◌, ◌≡◌, refl, ap, ap₂, ◌∙◌, subst, Some, None, inl, inr, arith}
use Rattle.std.specs.declared.option.Option.{Option}
use Rattle.hol_terms.specs.Terms.{SimpleType, base_type, function_type, Constant, negation, conjunction, disjunction, implication, truth, falsehood, forall, exists, Term, free, bound, constant, application, abstraction}
use Rattle.tps_reader.specs.Raws.{RawFormula, raw_variable, raw_constant, raw_application, raw_binding, raw_connective, raw_negation}
use Rattle.tps_reader.specs.declared.raws.Binder.{Binder}
use Rattle.tps_reader.specs.declared.raws.Binder.TheVariants.{Forall, Exists, Lambda}
use Rattle.tps_reader.specs.declared.raws.Infix.{Infix}
use Rattle.tps_reader.specs.declared.raws.Infix.TheVariants.{And, Or, Implies, Equiv}
use Rattle.type_infer.specs.Annotations.{innermost, compound, connected}
use Rattle.type_infer.specs.Conditions.{own_type}
use Rattle.type_infer.specs.Assignments.{occurrence, bound_over, annotated}
use Rattle.type_infer.specs.Spans.{TypeSpans, ConstantSpans, TermSpans}

pub type_spans_itself : (a : SimpleType) → TypeSpans a a a
type_spans_itself (base_type l) = inl (refl, refl)
type_spans_itself (function_type p q) = (p, q, p, q, refl, refl, type_spans_itself p, type_spans_itself q)

base_same : (l m : ℕ) → base_type l ≡ base_type m → l ≡ m
base_same l m e = cc

-- where two types are the same, the third one is too
pub type_spans_same : (a c : SimpleType) → TypeSpans a a c → c ≡ a
type_spans_same (base_type l) c (inl h) = h.1
type_spans_same (base_type l) c (inr h) = let e : base_type l ≡ base_type 79 = h.1 in let f : l ≡ 79 = base_same l 79 e in let g : l ≡ 73 = h.0 in absurd (omega arith)
type_spans_same (function_type p q) c h =
    let e : function_type p q ≡ function_type h.0 h.1 = h.4 in
    let ep : h.0 ≡ p = cc in
    let eq : h.1 ≡ q = cc in
    let P : SimpleType → Type 0 = λ x. TypeSpans p x h.2 in
    let Q : SimpleType → Type 0 = λ x. TypeSpans q x h.3 in
    h.5 ∙ ap₂ function_type (type_spans_same p h.2 (subst P ep h.6)) (type_spans_same q h.3 (subst Q eq h.7))

constant_spans_same : (k : Constant) (r : Term) → ConstantSpans k (constant k) r → r ≡ constant k
constant_spans_same negation r h = h.1
constant_spans_same conjunction r h = h.1
constant_spans_same disjunction r h = h.1
constant_spans_same implication r h = h.1
constant_spans_same truth r h = h.1
constant_spans_same falsehood r h = h.1
constant_spans_same (forall a) r h =
    let e : constant (forall a) ≡ constant (forall h.0) = h.2 in
    let f : h.0 ≡ a = cc in
    let P : SimpleType → Type 0 = λ x. TypeSpans a x h.1 in
    h.3 ∙ ap (λ (x : SimpleType). constant (forall x)) (type_spans_same a h.1 (subst P f h.4))
constant_spans_same (exists a) r h =
    let e : constant (exists a) ≡ constant (exists h.0) = h.2 in
    let f : h.0 ≡ a = cc in
    let P : SimpleType → Type 0 = λ x. TypeSpans a x h.1 in
    h.3 ∙ ap (λ (x : SimpleType). constant (exists x)) (type_spans_same a h.1 (subst P f h.4))

pub term_spans_same : (t r : Term) → TermSpans t t r → r ≡ t
term_spans_same (free name a) r h =
    let e : free name a ≡ free name h.0 = h.2 in
    let f : h.0 ≡ a = cc in
    let P : SimpleType → Type 0 = λ x. TypeSpans a x h.1 in
    h.3 ∙ ap (free name) (type_spans_same a h.1 (subst P f h.4))
term_spans_same (bound i) r h = h.1
term_spans_same (constant k) r h = constant_spans_same k r h
term_spans_same (application f a) r h =
    let e : application f a ≡ application h.0 h.1 = h.4 in
    let ef : h.0 ≡ f = cc in
    let ea : h.1 ≡ a = cc in
    let P : Term → Type 0 = λ x. TermSpans f x h.2 in
    let Q : Term → Type 0 = λ x. TermSpans a x h.3 in
    h.5 ∙ ap₂ application (term_spans_same f h.2 (subst P ef h.6)) (term_spans_same a h.3 (subst Q ea h.7))
term_spans_same (abstraction p b) r h =
    let e : abstraction p b ≡ abstraction h.0 h.1 = h.4 in
    let ep : h.0 ≡ p = cc in
    let eb : h.1 ≡ b = cc in
    let P : SimpleType → Type 0 = λ x. TypeSpans p x h.2 in
    let Q : Term → Type 0 = λ x. TermSpans b x h.3 in
    h.5 ∙ ap₂ abstraction (type_spans_same p h.2 (subst P ep h.6)) (term_spans_same b h.3 (subst Q eb h.7))

-- the terms of three assignments that span

constant_spans_itself : (k : Constant) → ConstantSpans k (constant k) (constant k)
constant_spans_itself negation = (refl, refl)
constant_spans_itself conjunction = (refl, refl)
constant_spans_itself disjunction = (refl, refl)
constant_spans_itself implication = (refl, refl)
constant_spans_itself truth = (refl, refl)
constant_spans_itself falsehood = (refl, refl)
constant_spans_itself (forall a) = (a, a, refl, refl, type_spans_itself a)
constant_spans_itself (exists a) = (a, a, refl, refl, type_spans_itself a)

application_spans : (f a g b h c : Term) → TermSpans f g h → TermSpans a b c → TermSpans (application f a) (application g b) (application h c)
application_spans f a g b h c x y = (g, b, h, c, refl, refl, x, y)

compound_spans : (k : Constant) (a b a2 b2 a3 b3 : Term) → TermSpans a a2 a3 → TermSpans b b2 b3 → TermSpans (compound k a b) (compound k a2 b2) (compound k a3 b3)
compound_spans k a b a2 b2 a3 b3 x y =
    application_spans (application (constant k) a) b (application (constant k) a2) b2 (application (constant k) a3) b3
    (application_spans (constant k) a (constant k) a2 (constant k) a3 (constant_spans_itself k) x) y

connected_spans : (op : Infix) (a b a2 b2 a3 b3 : Term) → TermSpans a a2 a3 → TermSpans b b2 b3 → TermSpans (connected op a b) (connected op a2 b2) (connected op a3 b3)
connected_spans And a b a2 b2 a3 b3 x y = compound_spans conjunction a b a2 b2 a3 b3 x y
connected_spans Or a b a2 b2 a3 b3 x y = compound_spans disjunction a b a2 b2 a3 b3 x y
connected_spans Implies a b a2 b2 a3 b3 x y = compound_spans implication a b a2 b2 a3 b3 x y
connected_spans Equiv a b a2 b2 a3 b3 x y =
    compound_spans conjunction (compound implication a b) (compound implication b a) (compound implication a2 b2) (compound implication b2 a2) (compound implication a3 b3) (compound implication b3 a3)
    (compound_spans implication a b a2 b2 a3 b3 x y) (compound_spans implication b a b2 a2 b3 a3 y x)

bound_spans : (binder : Binder) (q q2 q3 : SimpleType) (b b2 b3 : Term) → TypeSpans q q2 q3 → TermSpans b b2 b3 → TermSpans (bound_over binder q b) (bound_over binder q2 b2) (bound_over binder q3 b3)
bound_spans Forall q q2 q3 b b2 b3 x y =
    application_spans (constant (forall q)) (abstraction q b) (constant (forall q2)) (abstraction q2 b2) (constant (forall q3)) (abstraction q3 b3)
    (q2, q3, refl, refl, x) (q2, b2, q3, b3, refl, refl, x, y)
bound_spans Exists q q2 q3 b b2 b3 x y =
    application_spans (constant (exists q)) (abstraction q b) (constant (exists q2)) (abstraction q2 b2) (constant (exists q3)) (abstraction q3 b3)
    (q2, q3, refl, refl, x) (q2, b2, q3, b3, refl, refl, x, y)
bound_spans Lambda q q2 q3 b b2 b3 x y = (q2, b2, q3, b3, refl, refl, x, y)

occurrence_spans : (o : Option (ℕ × ℕ)) (name : List ℕ) (a b c : SimpleType) → TypeSpans a b c → TermSpans (occurrence o name a) (occurrence o name b) (occurrence o name c)
occurrence_spans None name a b c h = (b, c, refl, refl, h)
occurrence_spans (Some binder) name a b c h = (refl, refl)

pub annotated_spans : (u v w : ℕ → SimpleType) (around : List (List ℕ × ℕ)) (first : ℕ) (raw : RawFormula) → ((i : ℕ) → TypeSpans (u i) (v i) (w i))
    → TermSpans (annotated u around first raw) (annotated v around first raw) (annotated w around first raw)
annotated_spans u v w around first (raw_variable name written place) h = occurrence_spans (innermost name around) name (u first) (v first) (w first) (h first)
annotated_spans u v w around first (raw_constant c place) h = constant_spans_itself c
annotated_spans u v w around first (raw_application f a place) h =
    let i : ℕ = own_type first f + 1 in
    application_spans (annotated u around first f) (annotated u around i a) (annotated v around first f) (annotated v around i a) (annotated w around first f) (annotated w around i a)
    (annotated_spans u v w around first f h) (annotated_spans u v w around i a h)
annotated_spans u v w around first (raw_binding binder name written body place) h =
    let inner : List (List ℕ × ℕ) = (name, first) ∷ around in
    bound_spans binder (u first) (v first) (w first) (annotated u inner (first + 1) body) (annotated v inner (first + 1) body) (annotated w inner (first + 1) body)
    (h first) (annotated_spans u v w inner (first + 1) body h)
annotated_spans u v w around first (raw_connective op left right place) h =
    let i : ℕ = own_type first left + 1 in
    connected_spans op (annotated u around first left) (annotated u around i right) (annotated v around first left) (annotated v around i right) (annotated w around first left) (annotated w around i right)
    (annotated_spans u v w around first left h) (annotated_spans u v w around i right h)
annotated_spans u v w around first (raw_negation below place) h =
    application_spans (constant negation) (annotated u around first below) (constant negation) (annotated v around first below) (constant negation) (annotated w around first below)
    (constant_spans_itself negation) (annotated_spans u v w around first below h)
