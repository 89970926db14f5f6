-- Annotations are typed terms, and those that assignments give.
use Rattle.std.proofs.Common.{ℕ, suc, ◌+◌, List, [], ◌∷◌, map, Bool, true, false, cond, ◌≡◌, ◌↔◌, refl, sym, ap, ◌∙◌, subst, Some, None, arith}
use Rattle.std.specs.Prelude.{slice_get}
use Rattle.std.specs.declared.option.Option.{Option}
use Rattle.hol_terms.specs.Terms.{SimpleType, function_type, truth_type, Constant, negation, conjunction, disjunction, implication, forall, exists, Term, free, bound, constant, application, abstraction, Variable}
use Rattle.hol_terms.specs.Computed.{same_name}
use Rattle.hol_terms.specs.Typing.{Typed, type_of_constant}
use Rattle.tps_reader.specs.Raws.{RawFormula, raw_variable, raw_constant, raw_application, raw_binding, raw_connective, raw_negation}
use Rattle.tps_reader.specs.declared.raws.Binder.{Binder}
use Rattle.tps_reader.specs.declared.raws.Binder.TheVariants.{Forall, Exists, Lambda}
use Rattle.tps_reader.specs.declared.raws.Infix.{Infix}
use Rattle.tps_reader.specs.declared.raws.Infix.TheVariants.{And, Or, Implies, Equiv}
use Rattle.type_infer.specs.Annotations.{innermost, further, IsAsked, IsOccurrence, IsBound, compound, connected, Annotation, Annotates}
use Rattle.type_infer.specs.Assignments.{annotated}
use Rattle.type_infer.specs.Conditions.{MeetsAll, all_conditions}
use Rattle.type_infer.proofs.Completeness.{assignment_of_annotation}
use Rattle.type_infer.proofs.Soundness.{annotates_of}

abbrev type_beside : Variable → SimpleType
type_beside v = v.1

abbrev types_beside : List Variable → List SimpleType
types_beside around = map type_beside around

typed_at : (types : List SimpleType) (t u : Term) (s r : SimpleType) → t ≡ u → s ≡ r → Typed types u r → Typed types t s
typed_at types t u s r et es h = subst (λ (t : Term). Typed types t s) (sym et) (subst (Typed types u) (sym es) h)

-- what is found among the binders stands in the list of their types
abbrev FoundAmong : List SimpleType → Option (ℕ × SimpleType) → Type 0
FoundAmong types None = Unit {0}
FoundAmong types (Some found) = slice_get types found.0 ≡ Some found.1

further_among : (s : SimpleType) (types : List SimpleType) (o : Option (ℕ × SimpleType)) → FoundAmong types o → FoundAmong (s ∷ types) (further o)
further_among s types None h = tt
further_among s types (Some found) h = slice_next s types found.0 ∙ h
  where
    slice_next : (s : SimpleType) (types : List SimpleType) (i : ℕ) → slice_get (s ∷ types) (i + 1) ≡ slice_get types i
    slice_next s types i = let e : i + 1 ≡ suc i = omega arith in ap (slice_get (s ∷ types)) e

innermost_among : (name : List ℕ) (around : List Variable) → FoundAmong (types_beside around) (innermost name around)
innermost_among name [] = tt
innermost_among name (v ∷ around) = by_test (same_name name v.0) (innermost_among name around)
  where
    by_test : (b : Bool) → FoundAmong (types_beside around) (innermost name around)
        → FoundAmong (v.1 ∷ types_beside around) (cond b (Some (0, v.1)) (further (innermost name around)))
    by_test true h = refl
    by_test false h = further_among v.1 (types_beside around) (innermost name around) h

typed_occurrence : (names : List ℕ → SimpleType) (known : List Variable) (types : List SimpleType) (name : List ℕ) (o : Option (ℕ × SimpleType)) (t : Term) (s : SimpleType)
    → FoundAmong types o → IsOccurrence names known name o t s → Typed types t s
typed_occurrence names known types name None t s among h = typed_at types t (free name s) s s h.0 refl refl
typed_occurrence names known types name (Some binder) t s among h = typed_at types t (bound binder.0) s binder.1 h.0 h.1 among

typed_bound : (types : List SimpleType) (binder : Binder) (q : SimpleType) (b : Term) (r : SimpleType) (t : Term) (s : SimpleType)
    → Typed (q ∷ types) b r → IsBound binder q b r t s → Typed types t s
typed_bound types Forall q b r t s typed h =
    typed_at types t (application (constant (forall q)) (abstraction q b)) s truth_type h.1 h.2
    (function_type truth_type q, refl, (r, typed, ap (λ (p : SimpleType). function_type p q) h.0))
typed_bound types Exists q b r t s typed h =
    typed_at types t (application (constant (exists q)) (abstraction q b)) s truth_type h.1 h.2
    (function_type truth_type q, refl, (r, typed, ap (λ (p : SimpleType). function_type p q) h.0))
typed_bound types Lambda q b r t s typed h = typed_at types t (abstraction q b) s (function_type r q) h.0 h.1 (r, typed, refl)

typed_compound : (types : List SimpleType) (c : Constant) (a b : Term) → type_of_constant c ≡ function_type (function_type truth_type truth_type) truth_type
    → Typed types a truth_type → Typed types b truth_type → Typed types (compound c a b) truth_type
typed_compound types c a b e ha hb = (truth_type, (truth_type, e, ha), hb)

typed_connected : (types : List SimpleType) (op : Infix) (a b : Term) → Typed types a truth_type → Typed types b truth_type → Typed types (connected op a b) truth_type
typed_connected types And a b ha hb = typed_compound types conjunction a b refl ha hb
typed_connected types Or a b ha hb = typed_compound types disjunction a b refl ha hb
typed_connected types Implies a b ha hb = typed_compound types implication a b refl ha hb
typed_connected types Equiv a b ha hb =
    typed_compound types conjunction (compound implication a b) (compound implication b a) refl (typed_compound types implication a b refl ha hb) (typed_compound types implication b a refl hb ha)

annotation_typed : (names : List ℕ → SimpleType) (known around : List Variable) (raw : RawFormula) (t : Term) (s : SimpleType)
    → Annotation names known around raw t s → Typed (types_beside around) t s
annotation_typed names known around (raw_variable name written place) t s h =
    typed_occurrence names known (types_beside around) name (innermost name around) t s (innermost_among name around) h.1
annotation_typed names known around (raw_constant c place) t s h = typed_at (types_beside around) t (constant c) s (type_of_constant c) h.0 h.1 refl
annotation_typed names known around (raw_application f a place) t s h =
    let function = annotation_typed names known around f h.0 h.1 h.4 in
    let argument = annotation_typed names known around a h.2 h.3 h.5 in
    typed_at (types_beside around) t (application h.0 h.2) s s h.7 refl (h.3, subst (Typed (types_beside around) h.0) h.6 function, argument)
annotation_typed names known around (raw_binding binder name written body place) t s h =
    typed_bound (types_beside around) binder h.0 h.1 h.2 t s (annotation_typed names known ((name, h.0) ∷ around) body h.1 h.2 h.3) h.5
annotation_typed names known around (raw_connective op left right place) t s h =
    let before = subst (Typed (types_beside around) h.0) h.6 (annotation_typed names known around left h.0 h.1 h.4) in
    let behind = subst (Typed (types_beside around) h.2) h.7 (annotation_typed names known around right h.2 h.3 h.5) in
    typed_at (types_beside around) t (connected op h.0 h.2) s truth_type h.9 h.8 (typed_connected (types_beside around) op h.0 h.2 before behind)
annotation_typed names known around (raw_negation below place) t s h =
    let under = subst (Typed (types_beside around) h.0) h.3 (annotation_typed names known around below h.0 h.1 h.2) in
    typed_at (types_beside around) t (application (constant negation) h.0) s truth_type h.5 h.4 (truth_type, refl, under)

pub annotates_typed : (raw : RawFormula) (wanted : Option SimpleType) (known : List Variable) (t : Term) → Annotates raw wanted known t
    → (s : SimpleType) × Typed [] t s × IsAsked wanted s
annotates_typed raw wanted known t h = (h.1, annotation_typed h.0 known [] raw t h.1 h.2, h.3)

pub annotates_assigned : (raw : RawFormula) (wanted : Option SimpleType) (known : List Variable) (t : Term)
    → Annotates raw wanted known t
    ↔ ((names : List ℕ → SimpleType) × (types : ℕ → SimpleType) × MeetsAll names types (all_conditions raw wanted known) × (t ≡ annotated types [] 0 raw))
annotates_assigned raw wanted known t = (
  λ h. assignment_of_annotation raw wanted known t h,
  λ h. subst (Annotates raw wanted known) (sym h.3) (annotates_of h.0 h.1 raw wanted known h.2),
)
