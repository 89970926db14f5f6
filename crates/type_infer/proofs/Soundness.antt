-- An assignment that meets the conditions of a phrase gives an annotation of it.
use Rattle.std.proofs.Common.{ℕ, ◌+◌, List, [], ◌∷◌, ◌++◌, map, Bool, true, false, cond, ◌≡◌, refl, sym, ap, ◌∙◌, subst, Some, None}
use Rattle.std.specs.declared.option.Option.{Option}
use Rattle.hol_terms.specs.Terms.{SimpleType, truth_type, Variable, Term}
use Rattle.hol_terms.specs.Computed.{same_name}
use Rattle.tps_reader.specs.Raws.{RawFormula, raw_variable, raw_constant, raw_application, raw_binding, raw_connective, raw_negation, place_of}
use Rattle.tps_reader.specs.declared.raws.Binder.{Binder}
use Rattle.tps_reader.specs.declared.raws.Binder.TheVariants.{Forall, Exists, Lambda}
use Rattle.type_infer.specs.Annotations.{innermost, further, known_type, IsAsked, IsOccurrence, IsBound, Annotation, Annotates}
use Rattle.type_infer.specs.Conditions.{is_given, is_function, PlainCondition, MeetsAll, own_type, asked, occurrence_conditions, binder_conditions, conditions_of, all_conditions}
use Rattle.type_infer.specs.Assignments.{occurrence, bound_over, annotated}

-- the conditions of two lists

pub meets_front : (names : List ℕ → SimpleType) (types : ℕ → SimpleType) (xs ys : List PlainCondition) → MeetsAll names types (xs ++ ys) → MeetsAll names types xs
meets_front names types [] ys h = tt
meets_front names types (x ∷ xs) ys h = (h.0, meets_front names types xs ys h.1)

pub meets_back : (names : List ℕ → SimpleType) (types : ℕ → SimpleType) (xs ys : List PlainCondition) → MeetsAll names types (xs ++ ys) → MeetsAll names types ys
meets_back names types [] ys h = h
meets_back names types (x ∷ xs) ys h = meets_back names types xs ys h.1

pub meets_both : (names : List ℕ → SimpleType) (types : ℕ → SimpleType) (xs ys : List PlainCondition) → MeetsAll names types xs → MeetsAll names types ys → MeetsAll names types (xs ++ ys)
meets_both names types [] ys h k = k
meets_both names types (x ∷ xs) ys h k = (h.0, meets_both names types xs ys h.1 k)

-- the binders with the types of their numbers

abbrev pub typed_binder : (ℕ → SimpleType) → List ℕ × ℕ → Variable
typed_binder types binder = (binder.0, types binder.1)

abbrev pub typed_binders : (ℕ → SimpleType) → List (List ℕ × ℕ) → List Variable
typed_binders types around = map (typed_binder types) around

abbrev pub typed_found : (ℕ → SimpleType) → Option (ℕ × ℕ) → Option (ℕ × SimpleType)
typed_found types None = None
typed_found types (Some found) = Some (found.0, types found.1)

typed_further : (types : ℕ → SimpleType) (o : Option (ℕ × ℕ)) → further (typed_found types o) ≡ typed_found types (further o)
typed_further types None = refl
typed_further types (Some found) = refl

pub typed_innermost : (types : ℕ → SimpleType) (name : List ℕ) (around : List (List ℕ × ℕ))
    → innermost name (typed_binders types around) ≡ typed_found types (innermost name around)
typed_innermost types name [] = refl
typed_innermost types name (binder ∷ around) = by_test (same_name name binder.0) (typed_innermost types name around)
  where
    by_test : (b : Bool) → innermost name (typed_binders types around) ≡ typed_found types (innermost name around)
        → cond b (Some (0, types binder.1)) (further (innermost name (typed_binders types around)))
        ≡ typed_found types (cond b (Some (0, binder.1)) (further (innermost name around)))
    by_test true e = refl
    by_test false e = ap further e ∙ typed_further types (innermost name around)

-- the parts of a node

pub asked_met : (names : List ℕ → SimpleType) (types : ℕ → SimpleType) (place i : ℕ) (s : Option SimpleType) → MeetsAll names types (asked place i s) → IsAsked s (types i)
asked_met names types place i None h = tt
asked_met names types place i (Some s) h = h.0

occurrence_met : (names : List ℕ → SimpleType) (types : ℕ → SimpleType) (known : List Variable) (place i : ℕ) (name : List ℕ) (o : Option (ℕ × ℕ))
    → MeetsAll names types (occurrence_conditions known place name i o)
    → IsOccurrence names known name (typed_found types o) (occurrence o name (types i)) (types i)
occurrence_met names types known place i name None h = (refl, h.0, asked_met names types place i (known_type known name) h.1)
occurrence_met names types known place i name (Some binder) h = (refl, h.0)

binder_met : (names : List ℕ → SimpleType) (types : ℕ → SimpleType) (binder : Binder) (place q r : ℕ) (b : Term)
    → MeetsAll names types (binder_conditions binder place q r)
    → IsBound binder (types q) b (types r) (bound_over binder (types q) b) (types (r + 1))
binder_met names types Forall place q r b h = (h.0, refl, h.1.0)
binder_met names types Exists place q r b h = (h.0, refl, h.1.0)
binder_met names types Lambda place q r b h = (refl, h.0)

-- the whole

pub annotation_of : (names : List ℕ → SimpleType) (known : List Variable) (types : ℕ → SimpleType) (around : List (List ℕ × ℕ)) (first : ℕ) (raw : RawFormula)
    → MeetsAll names types (conditions_of known around first raw)
    → Annotation names known (typed_binders types around) raw (annotated types around first raw) (types (own_type first raw))
annotation_of names known types around first (raw_variable name written place) h =
    let o : Option (ℕ × ℕ) = innermost name around in
    let written_met = meets_front names types (asked place first written) (occurrence_conditions known place name first o) h in
    let found_met = meets_back names types (asked place first written) (occurrence_conditions known place name first o) h in
    let P : Option (ℕ × SimpleType) → Type 0 = λ f. IsOccurrence names known name f (occurrence o name (types first)) (types first) in (
      asked_met names types place first written written_met,
      subst P (sym (typed_innermost types name around)) (occurrence_met names types known place first name o found_met),
    )
annotation_of names known types around first (raw_constant c place) h = (refl, h.0)
annotation_of names known types around first (raw_application f a place) h =
    let i : ℕ = own_type first f in
    let j : ℕ = own_type (i + 1) a in
    let xs = conditions_of known around first f in
    let ys = conditions_of known around (i + 1) a in
    let zs : List PlainCondition = (place, is_function i (j + 1) j) ∷ [] in
    let rest = meets_back names types xs (ys ++ zs) h in (
      annotated types around first f,
      types i,
      annotated types around (i + 1) a,
      types j,
      annotation_of names known types around first f (meets_front names types xs (ys ++ zs) h),
      annotation_of names known types around (i + 1) a (meets_front names types ys zs rest),
      (meets_back names types ys zs rest).0,
      refl,
    )
annotation_of names known types around first (raw_binding binder name written body place) h =
    let r : ℕ = own_type (first + 1) body in
    let inner : List (List ℕ × ℕ) = (name, first) ∷ around in
    let xs = conditions_of known inner (first + 1) body in
    let ys = asked place first written in
    let zs = binder_conditions binder place first r in
    let rest = meets_back names types xs (ys ++ zs) h in (
      types first,
      annotated types inner (first + 1) body,
      types r,
      annotation_of names known types inner (first + 1) body (meets_front names types xs (ys ++ zs) h),
      asked_met names types place first written (meets_front names types ys zs rest),
      binder_met names types binder place first r (annotated types inner (first + 1) body) (meets_back names types ys zs rest),
    )
annotation_of names known types around first (raw_connective op left right place) h =
    let i : ℕ = own_type first left in
    let j : ℕ = own_type (i + 1) right in
    let xs = conditions_of known around first left in
    let ys = conditions_of known around (i + 1) right in
    let zs : List PlainCondition = (place, is_given i truth_type) ∷ (place, is_given j truth_type) ∷ (place, is_given (j + 1) truth_type) ∷ [] in
    let rest = meets_back names types xs (ys ++ zs) h in
    let own = meets_back names types ys zs rest in (
      annotated types around first left,
      types i,
      annotated types around (i + 1) right,
      types j,
      annotation_of names known types around first left (meets_front names types xs (ys ++ zs) h),
      annotation_of names known types around (i + 1) right (meets_front names types ys zs rest),
      own.0,
      own.1.0,
      own.1.1.0,
      refl,
    )
annotation_of names known types around first (raw_negation below place) h =
    let i : ℕ = own_type first below in
    let xs = conditions_of known around first below in
    let zs : List PlainCondition = (place, is_given i truth_type) ∷ (place, is_given (i + 1) truth_type) ∷ [] in
    let own = meets_back names types xs zs h in (
      annotated types around first below,
      types i,
      annotation_of names known types around first below (meets_front names types xs zs h),
      own.0,
      own.1.0,
      refl,
    )

pub annotates_of : (names : List ℕ → SimpleType) (types : ℕ → SimpleType) (raw : RawFormula) (wanted : Option SimpleType) (known : List Variable)
    → MeetsAll names types (all_conditions raw wanted known) → Annotates raw wanted known (annotated types [] 0 raw)
annotates_of names types raw wanted known h =
    let xs = conditions_of known [] 0 raw in
    let ys = asked (place_of raw) (own_type 0 raw) wanted in (
      names,
      types (own_type 0 raw),
      annotation_of names known types [] 0 raw (meets_front names types xs ys h),
      asked_met names types (place_of raw) (own_type 0 raw) wanted (meets_back names types xs ys h),
    )
