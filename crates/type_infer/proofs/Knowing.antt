-- Known names, found by a map.
use Rattle.std.proofs.Common.{ℕ, ◌+◌, ◌<◌, List, [], ◌∷◌, ◌++◌, length, get_or, take, Bool, true, false, cond, ◌≡◌, ◌≢◌, refl, sym, ap, ◌∙◌, subst, Some, None, arith}
use Rattle.std.specs.Prelude.{slice_get, Contains}
use Rattle.std.specs.Option.{option_map}
use Rattle.std.proofs.lemmas.List.{length_push, length-take-le, get_or_append_left, get_or_push, take_more}
use Rattle.std.proofs.lemmas.Option.{slice_get_within, slice_get-get_or, get_or_from_slice_get}
use Rattle.hol_terms.specs.Terms.{SimpleType, truth_type, Variable}
use Rattle.hol_terms.specs.Computed.{same_name}
use Rattle.type_infer.specs.Annotations.{known_type}
use Rattle.type_infer.specs.Known.{TellsKnown, type_beside}
use Rattle.type_infer.proofs.Loads.{contains_at, slice_left, slice_cases, slice_last}
use Rattle.type_infer.proofs.Names.{known_here, known_other}
use Rattle.type_infer.proofs.Stores.{three_ways}

-- one known variable more

known_front : (xs : List Variable) (v : Variable) (n : List ℕ) (s : SimpleType) → known_type xs n ≡ Some s → known_type (xs ++ v ∷ []) n ≡ Some s
known_front [] v n s e = absurd (let f : None ≡ Some s = e in cc)
known_front (x ∷ xs) v n s e = by_test (same_name n x.0) e (known_front xs v n s)
  where
    by_test : (b : Bool) → cond b (Some x.1) (known_type xs n) ≡ Some s → (known_type xs n ≡ Some s → known_type (xs ++ v ∷ []) n ≡ Some s)
        → cond b (Some x.1) (known_type (xs ++ v ∷ []) n) ≡ Some s
    by_test true e rest = e
    by_test false e rest = rest e

known_last : (xs : List Variable) (v : Variable) (n : List ℕ) → known_type xs n ≡ None → known_type (xs ++ v ∷ []) n ≡ known_type (v ∷ []) n
known_last [] v n e = refl
known_last (x ∷ xs) v n e = by_test (same_name n x.0) e (known_last xs v n)
  where
    by_test : (b : Bool) → cond b (Some x.1) (known_type xs n) ≡ None → (known_type xs n ≡ None → known_type (xs ++ v ∷ []) n ≡ known_type (v ∷ []) n)
        → cond b (Some x.1) (known_type (xs ++ v ∷ []) n) ≡ known_type (v ∷ []) n
    by_test true e rest = absurd (let f : Some x.1 ≡ None = e in cc)
    by_test false e rest = rest e

known_still : (xs : List Variable) (v : Variable) (n : List ℕ) (p : ℕ) → p < length xs → known_type xs n ≡ option_map type_beside (slice_get xs p)
    → known_type (xs ++ v ∷ []) n ≡ option_map type_beside (slice_get (xs ++ v ∷ []) p)
known_still xs v n p l e =
    let w : Variable = get_or xs p v in
    let at : slice_get xs p ≡ Some w = slice_get-get_or xs p v l in
    let told : known_type xs n ≡ Some w.1 = e ∙ ap (option_map type_beside) at in
    known_front xs v n w.1 told ∙ sym (ap (option_map type_beside) (slice_left xs v w p at))

known_none_more : (xs : List Variable) (v : Variable) (n : List ℕ) → known_type xs n ≡ None → n ≢ v.0 → known_type (xs ++ v ∷ []) n ≡ None
known_none_more xs v n e other = known_last xs v n e ∙ known_other n v.0 v.1 [] other

-- the set and the places of the variables

pub tells_none : (set : List Variable) (places : List ℕ) → set ≡ [] → places ≡ [] → TellsKnown [] set places
tells_none set places es ep =
    subst (λ (s : List Variable). TellsKnown [] s places) (sym es) (subst (λ (p : List ℕ). TellsKnown [] [] p) (sym ep) (record {
      as_many = refl;
      inside = λ m l. absurd (omega arith);
      marked = λ m v e. absurd (let f : None ≡ Some v = e in cc);
      there = λ m v e. absurd (let f : None ≡ Some v = e in cc);
      none = λ name out. refl;
    }))

pub tells_new : (known set : List Variable) (places : List ℕ) (v : Variable) → TellsKnown known set places → (Contains set (v.0, truth_type) → ⊥)
    → TellsKnown (known ++ v ∷ []) (set ++ (v.0, truth_type) ∷ []) (places ++ length known ∷ [])
tells_new known set places v h new =
    let x : Variable = (v.0, truth_type) in
    let n : ℕ = length known in
    let as_many : length places ≡ length set = h.as_many in
    let long : length (known ++ v ∷ []) ≡ n + 1 = length_push known v in
    let left : (m : ℕ) → m < length places → get_or (places ++ n ∷ []) m 0 ≡ get_or places m 0 = λ m l. get_or_append_left places (n ∷ []) 0 m l in
    let last : get_or (places ++ n ∷ []) (length set) 0 ≡ n = get_or_push places n 0 (length set) as_many in
    let within : (m : ℕ) (w : Variable) → slice_get set m ≡ Some w → m < length places = λ m w e. (let l : m < length set = slice_get_within set m w e in omega arith) in
    let unknown : known_type known v.0 ≡ None = h.none v.0 (λ m e. new (contains_at set x m e)) in
    record {
      as_many = (let a = length_push places n in let b = length_push set x in omega arith);
      inside = λ m l.
          let a : length (places ++ n ∷ []) ≡ length places + 1 = length_push places n in
          let P : ℕ → Type 0 = λ p. p < length (known ++ v ∷ []) in
          three_ways (get_or (places ++ n ∷ []) m 0 < length (known ++ v ∷ [])) m (length places)
          (λ less. let old : get_or places m 0 < n = h.inside m less in subst P (sym (left m less)) (omega arith))
          (λ e. subst P (sym (get_or_push places n 0 m (sym e))) (omega arith))
          (λ more. absurd (omega arith));
      marked = λ m w e. slice_cases (w.1 ≡ truth_type) set x w m e (λ old. h.marked m w old) (λ at same. ap type_beside (sym same));
      there = λ m w e.
          let P : ℕ → Type 0 = λ p. known_type (known ++ v ∷ []) w.0 ≡ option_map type_beside (slice_get (known ++ v ∷ []) p) in
          slice_cases (known_type (known ++ v ∷ []) w.0 ≡ option_map type_beside (slice_get (known ++ v ∷ []) (get_or (places ++ n ∷ []) m 0))) set x w m e
          (λ old. subst P (sym (left m (within m w old)))
          (known_still known v w.0 (get_or places m 0) (h.inside m (within m w old)) (h.there m w old)))
          (λ at same.
          let place : get_or (places ++ n ∷ []) m 0 ≡ n = ap (λ (m : ℕ). get_or (places ++ n ∷ []) m 0) at ∙ last in
          let name : w.0 ≡ v.0 = ap (λ (u : Variable). u.0) (sym same) in
          let Q : List ℕ → Type 0 = λ name. known_type (known ++ v ∷ []) name ≡ option_map type_beside (slice_get (known ++ v ∷ []) n) in
          let here : known_type (known ++ v ∷ []) v.0 ≡ option_map type_beside (slice_get (known ++ v ∷ []) n) =
          known_last known v v.0 unknown ∙ known_here v.0 v.0 v.1 [] refl ∙ sym (ap (option_map type_beside) (slice_last known v)) in
          subst P (sym place) (subst Q (sym name) here));
      none = λ name out.
          known_none_more known v name (h.none name (λ m e. out m (slice_left set x (name, truth_type) m e)))
          (λ same. out (length set) (slice_last set x ∙ ap (λ (name : List ℕ). Some (name, truth_type)) (sym same)));
    }

pub tells_old : (known set : List Variable) (places : List ℕ) (v : Variable) → TellsKnown known set places → Contains set (v.0, truth_type)
    → TellsKnown (known ++ v ∷ []) set places
tells_old known set places v h has =
    let long : length (known ++ v ∷ []) ≡ length known + 1 = length_push known v in
    let as_many : length places ≡ length set = h.as_many in
    record {
      as_many = as_many;
      inside = λ m l. let old : get_or places m 0 < length known = h.inside m l in omega arith;
      marked = h.marked;
      there = λ m w e.
          let within : m < length set = slice_get_within set m w e in
          known_still known v w.0 (get_or places m 0) (h.inside m (omega arith)) (h.there m w e);
      none = λ name out.
          known_none_more known v name (h.none name out)
          (λ same. out has.0 (slice_get-get_or set has.0 (v.0, truth_type) has.1 ∙ ap (λ (u : Variable). Some u) has.2 ∙ ap (λ (name : List ℕ). Some (name, truth_type)) (sym same)));
    }

tells_step : (upto more set next : List Variable) (places places2 : List ℕ) (v : Variable) (i : ℕ) (b : Bool) → TellsKnown upto set places → more ≡ upto ++ v ∷ [] → i ≡ length upto
    → (b ≡ true → (Contains set (v.0, truth_type) → ⊥) × (next ≡ set ++ (v.0, truth_type) ∷ [])) → (b ≡ false → Contains set (v.0, truth_type) × (next ≡ set))
    → places2 ≡ cond b (places ++ i ∷ []) places → TellsKnown more next places2
tells_step upto more set next places places2 v i true h em ei put old ep =
    let p = put refl in
    subst (λ (k : List Variable). TellsKnown k next places2) (sym em)
    (subst (λ (s : List Variable). TellsKnown (upto ++ v ∷ []) s places2) (sym p.1)
    (subst (TellsKnown (upto ++ v ∷ []) (set ++ (v.0, truth_type) ∷ [])) (sym (ep ∙ ap (λ (i : ℕ). places ++ i ∷ []) ei)) (tells_new upto set places v h p.0)))
tells_step upto more set next places places2 v i false h em ei put old ep =
    let p = old refl in
    subst (λ (k : List Variable). TellsKnown k next places2) (sym em)
    (subst (λ (s : List Variable). TellsKnown (upto ++ v ∷ []) s places2) (sym p.1)
    (subst (TellsKnown (upto ++ v ∷ []) set) (sym ep) (tells_old upto set places v h p.0)))

-- one step of the loop over the variables
pub tells_more : (variables set next : List Variable) (places places2 : List ℕ) (v : Variable) (i : ℕ) (b : Bool) → TellsKnown (take i variables) set places → slice_get variables i ≡ Some v
    → (b ≡ true → (Contains set (v.0, truth_type) → ⊥) × (next ≡ set ++ (v.0, truth_type) ∷ [])) → (b ≡ false → Contains set (v.0, truth_type) × (next ≡ set))
    → places2 ≡ cond b (places ++ i ∷ []) places → TellsKnown (take (i + 1) variables) next places2
tells_more variables set next places places2 v i b h at put old ep =
    let within : i < length variables = slice_get_within variables i v at in
    let more : take (i + 1) variables ≡ take i variables ++ v ∷ [] =
    take_more variables i v within ∙ ap (λ (u : Variable). take i variables ++ u ∷ []) (get_or_from_slice_get variables i v v at) in
    tells_step (take i variables) (take (i + 1) variables) set next places places2 v i b h more (sym (length-take-le i variables (omega arith))) put old ep

-- what the map tells

pub told : (known set : List Variable) (places : List ℕ) (name : List ℕ) (m : ℕ) (w : Variable) → TellsKnown known set places → slice_get set m ≡ Some (name, truth_type)
    → slice_get known (get_or places m 0) ≡ Some w → known_type known name ≡ Some w.1
told known set places name m w h at there = h.there m (name, truth_type) at ∙ ap (option_map type_beside) there

pub told_none : (known set : List Variable) (places : List ℕ) (name : List ℕ) → TellsKnown known set places → (Contains set (name, truth_type) → ⊥) → known_type known name ≡ None
told_none known set places name h none = h.none name (λ m e. none (contains_at set (name, truth_type) m e))
