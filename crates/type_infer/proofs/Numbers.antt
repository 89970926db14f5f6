-- The numbers of a phrase's conditions are at most that of its own type.
use Rattle.std.proofs.Common.{ℕ, ◌+◌, ◌<◌, ◌≤◌, List, [], ◌∷◌, ◌++◌, Bool, true, false, cond, Some, None, arith}
use Rattle.std.specs.declared.option.Option.{Option}
use Rattle.hol_terms.specs.Terms.{SimpleType, truth_type, Variable}
use Rattle.hol_terms.specs.Computed.{same_name}
use Rattle.tps_reader.specs.Raws.{RawFormula, raw_variable, raw_constant, raw_application, raw_binding, raw_connective, raw_negation, place_of}
use Rattle.tps_reader.specs.declared.raws.Binder.{Binder}
use Rattle.tps_reader.specs.declared.raws.Binder.TheVariants.{Forall, Exists, Lambda}
use Rattle.type_infer.specs.Annotations.{innermost, further, known_type}
use Rattle.type_infer.specs.Conditions.{PlainCondition, is_given, is_function, own_type, asked, occurrence_conditions, binder_conditions, conditions_of, all_conditions}
use Rattle.type_infer.specs.Loading.{AreWithin}
use Rattle.type_infer.proofs.Completeness.{first_own}

within_both : (n : ℕ) (xs ys : List PlainCondition) → AreWithin n xs → AreWithin n ys → AreWithin n (xs ++ ys)
within_both n [] ys h k = k
within_both n (x ∷ xs) ys h k = (h.0, within_both n xs ys h.1 k)

within_asked : (n place i : ℕ) (s : Option SimpleType) → i < n → AreWithin n (asked place i s)
within_asked n place i None l = tt
within_asked n place i (Some s) l = (l, tt)

-- the binders' numbers are below n
abbrev AroundBelow : ℕ → List (List ℕ × ℕ) → Type 0
AroundBelow n [] = Unit {0}
AroundBelow n (binder ∷ around) = (binder.1 < n) × AroundBelow n around

abbrev FoundBelow : ℕ → Option (ℕ × ℕ) → Type 0
FoundBelow n None = Unit {0}
FoundBelow n (Some found) = found.1 < n

further_below : (n : ℕ) (o : Option (ℕ × ℕ)) → FoundBelow n o → FoundBelow n (further o)
further_below n None h = tt
further_below n (Some found) h = h

innermost_below : (n : ℕ) (name : List ℕ) (around : List (List ℕ × ℕ)) → AroundBelow n around → FoundBelow n (innermost name around)
innermost_below n name [] h = tt
innermost_below n name (binder ∷ around) h = by_test (same_name name binder.0) (innermost_below n name around h.1)
  where
    by_test : (b : Bool) → FoundBelow n (innermost name around) → FoundBelow n (cond b (Some (0, binder.1)) (further (innermost name around)))
    by_test true below = h.0
    by_test false below = further_below n (innermost name around) below

within_occurrence : (n : ℕ) (known : List Variable) (place : ℕ) (name : List ℕ) (i : ℕ) (o : Option (ℕ × ℕ)) → i < n → FoundBelow n o → AreWithin n (occurrence_conditions known place name i o)
within_occurrence n known place name i None l h = (l, within_asked n place i (known_type known name) l)
within_occurrence n known place name i (Some binder) l h = ((l, h), tt)

within_binder : (n : ℕ) (binder : Binder) (place q r : ℕ) → q < n → r + 1 < n → AreWithin n (binder_conditions binder place q r)
within_binder n Forall place q r l m = (omega arith, (m, tt))
within_binder n Exists place q r l m = (omega arith, (m, tt))
within_binder n Lambda place q r l m = ((m, omega arith, l), tt)

within_conditions : (n : ℕ) (known : List Variable) (around : List (List ℕ × ℕ)) (first : ℕ) (raw : RawFormula) → own_type first raw < n → AroundBelow n around
    → AreWithin n (conditions_of known around first raw)
within_conditions n known around first (raw_variable name written place) l h =
    within_both n (asked place first written) (occurrence_conditions known place name first (innermost name around)) (within_asked n place first written l)
    (within_occurrence n known place name first (innermost name around) l (innermost_below n name around h))
within_conditions n known around first (raw_constant c place) l h = (l, tt)
within_conditions n known around first (raw_application f a place) l h =
    let i : ℕ = own_type first f in
    let j : ℕ = own_type (i + 1) a in
    let m : i + 1 ≤ j = first_own (i + 1) a in
    let k : j + 1 < n = l in
    within_both n (conditions_of known around first f) (conditions_of known around (i + 1) a ++ (place, is_function i (j + 1) j) ∷ [])
    (within_conditions n known around first f (omega arith) h)
    (within_both n (conditions_of known around (i + 1) a) ((place, is_function i (j + 1) j) ∷ []) (within_conditions n known around (i + 1) a (omega arith) h)
    ((omega arith, omega arith, omega arith), tt))
within_conditions n known around first (raw_binding binder name written body place) l h =
    let j : ℕ = own_type (first + 1) body in
    let m : first + 1 ≤ j = first_own (first + 1) body in
    let k : j + 1 < n = l in
    within_both n (conditions_of known ((name, first) ∷ around) (first + 1) body) (asked place first written ++ binder_conditions binder place first j)
    (within_conditions n known ((name, first) ∷ around) (first + 1) body (omega arith) (omega arith, h))
    (within_both n (asked place first written) (binder_conditions binder place first j) (within_asked n place first written (omega arith))
    (within_binder n binder place first j (omega arith) k))
within_conditions n known around first (raw_connective op left right place) l h =
    let i : ℕ = own_type first left in
    let j : ℕ = own_type (i + 1) right in
    let m : i + 1 ≤ j = first_own (i + 1) right in
    let k : j + 1 < n = l in
    let zs : List PlainCondition = (place, is_given i truth_type) ∷ (place, is_given j truth_type) ∷ (place, is_given (j + 1) truth_type) ∷ [] in
    within_both n (conditions_of known around first left) (conditions_of known around (i + 1) right ++ zs)
    (within_conditions n known around first left (omega arith) h)
    (within_both n (conditions_of known around (i + 1) right) zs (within_conditions n known around (i + 1) right (omega arith) h)
    (omega arith, (omega arith, (k, tt))))
within_conditions n known around first (raw_negation below place) l h =
    let i : ℕ = own_type first below in
    let k : i + 1 < n = l in
    let zs : List PlainCondition = (place, is_given i truth_type) ∷ (place, is_given (i + 1) truth_type) ∷ [] in
    within_both n (conditions_of known around first below) zs (within_conditions n known around first below (omega arith) h) (omega arith, (k, tt))

pub all_within : (raw : RawFormula) (wanted : Option SimpleType) (known : List Variable) → AreWithin (own_type 0 raw + 1) (all_conditions raw wanted known)
all_within raw wanted known =
    let n : ℕ = own_type 0 raw + 1 in
    within_both n (conditions_of known [] 0 raw) (asked (place_of raw) (own_type 0 raw) wanted)
    (within_conditions n known [] 0 raw (omega arith) tt) (within_asked n (place_of raw) (own_type 0 raw) wanted (omega arith))
