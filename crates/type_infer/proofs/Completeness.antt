-- Each annotation of a phrase is the term of an assignment that meets its conditions.
use Rattle.std.proofs.Common.{ℕ, ◌+◌, ◌<◌, ◌≤◌, List, [], ◌∷◌, ◌++◌, Bool, true, false, cond, leb, ◌≡◌, refl, sym, ap, ap₂, ◌∙◌, subst, Some, None, arith}
use Rattle.std.proofs.lemmas.Bool.Decides.{nat_tests}
use Rattle.std.specs.declared.option.Option.{Option}
use Rattle.hol_terms.specs.Terms.{SimpleType, function_type, truth_type, Variable, Term, negation, free, constant, application, abstraction, forall, exists}
use Rattle.tps_reader.specs.Raws.{RawFormula, raw_variable, raw_constant, raw_application, raw_binding, raw_connective, raw_negation, place_of}
use Rattle.tps_reader.specs.declared.raws.Binder.{Binder}
use Rattle.tps_reader.specs.declared.raws.Binder.TheVariants.{Forall, Exists, Lambda}
use Rattle.type_infer.specs.Annotations.{innermost, known_type, IsAsked, IsOccurrence, IsBound, Annotation, Annotates, connected}
use Rattle.type_infer.specs.Conditions.{is_given, is_function, PlainCondition, MeetsAll, own_type, asked, occurrence_conditions, binder_conditions, conditions_of, all_conditions}
use Rattle.type_infer.specs.Assignments.{occurrence, bound_over, annotated}
use Rattle.type_infer.proofs.Soundness.{meets_both, typed_binders, typed_found, typed_innermost}

-- the last number of a phrase isn't below its first

pub first_own : (first : ℕ) (raw : RawFormula) → first ≤ own_type first raw
first_own first (raw_variable name written place) = omega arith
first_own first (raw_constant c place) = omega arith
first_own first (raw_application f a place) =
    let h : first ≤ own_type first f = first_own first f in
    let k : own_type first f + 1 ≤ own_type (own_type first f + 1) a = first_own (own_type first f + 1) a in omega arith
first_own first (raw_binding binder name written body place) = let h : first + 1 ≤ own_type (first + 1) body = first_own (first + 1) body in omega arith
first_own first (raw_connective op left right place) =
    let h : first ≤ own_type first left = first_own first left in
    let k : own_type first left + 1 ≤ own_type (own_type first left + 1) right = first_own (own_type first left + 1) right in omega arith
first_own first (raw_negation below place) = let h : first ≤ own_type first below = first_own first below in omega arith

-- two assignments joined: the first one up to a number, the second above it

abbrev joined : ℕ → (ℕ → SimpleType) → (ℕ → SimpleType) → ℕ → SimpleType
joined n v w i = cond (leb i n) (v i) (w i)

joined_low : (n : ℕ) (v w : ℕ → SimpleType) (i : ℕ) → i ≤ n → joined n v w i ≡ v i
joined_low n v w i l = let t : leb i n ≡ true = grind (arith, nat_tests) in ap (λ (b : Bool). cond b (v i) (w i)) t

joined_high : (n : ℕ) (v w : ℕ → SimpleType) (i : ℕ) → n < i → joined n v w i ≡ w i
joined_high n v w i l = let t : leb i n ≡ false = grind (arith, nat_tests) in ap (λ (b : Bool). cond b (v i) (w i)) t

-- two assignments agree from a number to another
abbrev Agree : ℕ → ℕ → (ℕ → SimpleType) → (ℕ → SimpleType) → Type 0
Agree first last w v = (i : ℕ) → first ≤ i → i ≤ last → w i ≡ v i

-- each assignment that agrees with v on the phrase's numbers and gives the binders around it their types gives the annotation
abbrev Gives : (List ℕ → SimpleType) → List Variable → List Variable → List (List ℕ × ℕ) → ℕ → RawFormula → Term → SimpleType → (ℕ → SimpleType) → Type 0
Gives names known types_around around first raw t s v =
    (w : ℕ → SimpleType) → Agree first (own_type first raw) w v → typed_binders w around ≡ types_around
    → MeetsAll names w (conditions_of known around first raw) × (t ≡ annotated w around first raw) × (w (own_type first raw) ≡ s)

asked_meets : (names : List ℕ → SimpleType) (w : ℕ → SimpleType) (place i : ℕ) (o : Option SimpleType) (s : SimpleType) → w i ≡ s → IsAsked o s → MeetsAll names w (asked place i o)
asked_meets names w place i None s e h = tt
asked_meets names w place i (Some r) s e h = (e ∙ h, tt)

occurrence_meets : (names : List ℕ → SimpleType) (w : ℕ → SimpleType) (known : List Variable) (place i : ℕ) (name : List ℕ) (o : Option (ℕ × ℕ)) (t : Term) (s : SimpleType)
    → w i ≡ s → IsOccurrence names known name (typed_found w o) t s
    → MeetsAll names w (occurrence_conditions known place name i o) × (t ≡ occurrence o name (w i))
occurrence_meets names w known place i name None t s e h =
    ((e ∙ h.1, asked_meets names w place i (known_type known name) s e h.2), h.0 ∙ ap (free name) (sym e))
occurrence_meets names w known place i name (Some binder) t s e h = ((e ∙ h.1, tt), h.0)

binder_meets : (names : List ℕ → SimpleType) (w : ℕ → SimpleType) (binder : Binder) (place i j : ℕ) (q r s : SimpleType) (b t : Term)
    → w i ≡ q → w j ≡ r → w (j + 1) ≡ s → IsBound binder q b r t s
    → MeetsAll names w (binder_conditions binder place i j) × (t ≡ bound_over binder (w i) b)
binder_meets names w Forall place i j q r s b t ei ej es h =
    ((ej ∙ h.0, (es ∙ h.2, tt)), h.1 ∙ ap (λ (p : SimpleType). application (constant (forall p)) (abstraction p b)) (sym ei))
binder_meets names w Exists place i j q r s b t ei ej es h =
    ((ej ∙ h.0, (es ∙ h.2, tt)), h.1 ∙ ap (λ (p : SimpleType). application (constant (exists p)) (abstraction p b)) (sym ei))
binder_meets names w Lambda place i j q r s b t ei ej es h =
    ((es ∙ h.1 ∙ ap₂ function_type (sym ej) (sym ei), tt), h.0 ∙ ap (λ (p : SimpleType). abstraction p b) (sym ei))

-- two parts beside each other and a whole after them

-- what a whole of two parts agrees with
two_parts : (first i j : ℕ) (w v1 v2 : ℕ → SimpleType) (s : SimpleType) → first ≤ i → i + 1 ≤ j
    → Agree first (j + 1) w (joined i v1 (joined j v2 (λ _. s)))
    → Agree first i w v1 × Agree (i + 1) j w v2 × (w (j + 1) ≡ s)
two_parts first i j w v1 v2 s l m h =
    let above : ℕ → SimpleType = joined j v2 (λ _. s) in (
      λ k a b. h k a (omega arith) ∙ joined_low i v1 above k b,
      λ k a b. h k (omega arith) (omega arith) ∙ joined_high i v1 above k (omega arith) ∙ joined_low j v2 (λ _. s) k b,
      h (j + 1) (omega arith) (omega arith) ∙ joined_high i v1 above (j + 1) (omega arith) ∙ joined_high j v2 (λ _. s) (j + 1) (omega arith),
    )

-- what a whole of one part agrees with
one_part : (first j : ℕ) (w v : ℕ → SimpleType) (s : SimpleType) → first ≤ j
    → Agree first (j + 1) w (joined j v (λ _. s))
    → Agree first j w v × (w (j + 1) ≡ s)
one_part first j w v s l h = (
  λ k a b. h k a (omega arith) ∙ joined_low j v (λ _. s) k b,
  h (j + 1) (omega arith) (omega arith) ∙ joined_high j v (λ _. s) (j + 1) (omega arith),
)

pub assignment_of : (names : List ℕ → SimpleType) (known types_around : List Variable) (around : List (List ℕ × ℕ)) (first : ℕ) (raw : RawFormula) (t : Term) (s : SimpleType)
    → Annotation names known types_around raw t s → (v : ℕ → SimpleType) × Gives names known types_around around first raw t s v
assignment_of names known types_around around first (raw_variable name written place) t s h = (
  (λ _. s),
  λ w agree typed.
      let e : w first ≡ s = agree first (omega arith) (omega arith) in
      let P : Option (ℕ × SimpleType) → Type 0 = λ o. IsOccurrence names known name o t s in
      let found : innermost name types_around ≡ typed_found w (innermost name around) = ap (innermost name) (sym typed) ∙ typed_innermost w name around in
      let met = occurrence_meets names w known place first name (innermost name around) t s e (subst P found h.1) in (
        meets_both names w (asked place first written) (occurrence_conditions known place name first (innermost name around)) (asked_meets names w place first written s e h.0) met.0,
        met.1,
        e,
      ),
)
assignment_of names known types_around around first (raw_constant c place) t s h = (
  (λ _. s),
  λ w agree typed.
      let e : w first ≡ s = agree first (omega arith) (omega arith) in
      ((e ∙ h.1, tt), h.0, e),
)
assignment_of names known types_around around first (raw_application f a place) t s h =
    let g : Term = h.0 in let r : SimpleType = h.1 in let b : Term = h.2 in let q : SimpleType = h.3 in
    let i : ℕ = own_type first f in
    let j : ℕ = own_type (i + 1) a in
    let left = assignment_of names known types_around around first f g r h.4 in
    let right = assignment_of names known types_around around (i + 1) a b q h.5 in (
      joined i left.0 (joined j right.0 (λ _. s)),
      λ w agree typed.
          let parts = two_parts first i j w left.0 right.0 s (first_own first f) (first_own (i + 1) a) agree in
          let l = left.1 w parts.0 typed in
          let m = right.1 w parts.1 typed in
          let own : w i ≡ function_type (w (j + 1)) (w j) = l.2 ∙ h.6 ∙ ap₂ function_type (sym parts.2) (sym m.2) in
          let zs : List PlainCondition = (place, is_function i (j + 1) j) ∷ [] in (
            meets_both names w (conditions_of known around first f) (conditions_of known around (i + 1) a ++ zs) l.0
                (meets_both names w (conditions_of known around (i + 1) a) zs m.0 (own, tt)),
            h.7 ∙ ap₂ application l.1 m.1,
            parts.2,
          ),
    )
assignment_of names known types_around around first (raw_binding binder name written body place) t s h =
    let q : SimpleType = h.0 in let b : Term = h.1 in let r : SimpleType = h.2 in
    let j : ℕ = own_type (first + 1) body in
    let below = assignment_of names known ((name, q) ∷ types_around) ((name, first) ∷ around) (first + 1) body b r h.3 in (
      joined first (λ _. q) (joined j below.0 (λ _. s)),
      λ w agree typed.
          let parts = two_parts first first j w (λ _. q) below.0 s (omega arith) (first_own (first + 1) body) agree in
          let variable : w first ≡ q = parts.0 first (omega arith) (omega arith) in
          let inner : typed_binders w ((name, first) ∷ around) ≡ (name, q) ∷ types_around =
          ap₂ (λ (p : SimpleType) (vs : List Variable). (name, p) ∷ vs) variable typed in
          let l = below.1 w parts.1 inner in
          let met = binder_meets names w binder place first j q r s b t variable l.2 parts.2 h.5 in
          let ys = asked place first written in
          let zs = binder_conditions binder place first j in (
            meets_both names w (conditions_of known ((name, first) ∷ around) (first + 1) body) (ys ++ zs) l.0
                (meets_both names w ys zs (asked_meets names w place first written q variable h.4) met.0),
            met.1 ∙ ap (bound_over binder (w first)) l.1,
            parts.2,
          ),
    )
assignment_of names known types_around around first (raw_connective op left right place) t s h =
    let a : Term = h.0 in let q : SimpleType = h.1 in let b : Term = h.2 in let r : SimpleType = h.3 in
    let i : ℕ = own_type first left in
    let j : ℕ = own_type (i + 1) right in
    let before = assignment_of names known types_around around first left a q h.4 in
    let behind = assignment_of names known types_around around (i + 1) right b r h.5 in (
      joined i before.0 (joined j behind.0 (λ _. s)),
      λ w agree typed.
          let parts = two_parts first i j w before.0 behind.0 s (first_own first left) (first_own (i + 1) right) agree in
          let l = before.1 w parts.0 typed in
          let m = behind.1 w parts.1 typed in
          let zs : List PlainCondition = (place, is_given i truth_type) ∷ (place, is_given j truth_type) ∷ (place, is_given (j + 1) truth_type) ∷ [] in (
            meets_both names w (conditions_of known around first left) (conditions_of known around (i + 1) right ++ zs) l.0
                (meets_both names w (conditions_of known around (i + 1) right) zs m.0 (l.2 ∙ h.6, (m.2 ∙ h.7, (parts.2 ∙ h.8, tt)))),
            h.9 ∙ ap₂ (connected op) l.1 m.1,
            parts.2,
          ),
    )
assignment_of names known types_around around first (raw_negation below place) t s h =
    let a : Term = h.0 in let q : SimpleType = h.1 in
    let j : ℕ = own_type first below in
    let under = assignment_of names known types_around around first below a q h.2 in (
      joined j under.0 (λ _. s),
      λ w agree typed.
          let parts = one_part first j w under.0 s (first_own first below) agree in
          let l = under.1 w parts.0 typed in
          let zs : List PlainCondition = (place, is_given j truth_type) ∷ (place, is_given (j + 1) truth_type) ∷ [] in (
            meets_both names w (conditions_of known around first below) zs l.0 (l.2 ∙ h.3, (parts.1 ∙ h.4, tt)),
            h.5 ∙ ap (application (constant negation)) l.1,
            parts.1,
          ),
    )

pub assignment_of_annotation : (raw : RawFormula) (wanted : Option SimpleType) (known : List Variable) (t : Term) → Annotates raw wanted known t
    → (names : List ℕ → SimpleType) × (types : ℕ → SimpleType) × MeetsAll names types (all_conditions raw wanted known) × (t ≡ annotated types [] 0 raw)
assignment_of_annotation raw wanted known t h =
    let got = assignment_of h.0 known [] [] 0 raw t h.1 h.2 in
    let met = got.1 got.0 (λ i a b. refl) refl in (
      h.0,
      got.0,
      meets_both h.0 got.0 (conditions_of known [] 0 raw) (asked (place_of raw) (own_type 0 raw) wanted) met.0
          (asked_meets h.0 got.0 (place_of raw) (own_type 0 raw) wanted h.1 met.2 h.3),
      met.1,
    )
