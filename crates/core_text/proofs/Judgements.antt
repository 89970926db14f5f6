-- A term that has a type and no loose index is judged so, and the place of its first fault is found.
use Rattle.std.proofs.Common.{◌≡◌, ℕ, ◌+◌, Bool, true, false, if◌then◌else◌, List, [], ◌∷◌, length, slice_get, Option, Some, None, Result, Ok, Err, refl, sym, ◌∙◌, ap, subst, arith}
use Rattle.std.proofs.lemmas.Bool.{false_from_ne_true, lt-ltb}
use Rattle.std.proofs.lemmas.Option.{slice_get_within}
use Rattle.hol_terms.specs.Terms.{SimpleType, base_type, function_type, Term, free, bound, constant, application, abstraction}
use Rattle.hol_terms.specs.Typing.{Typed}
use Rattle.hol_terms.specs.Computed.{same_type}
use Rattle.hol_terms.proofs.Same.{same_type_only, same_type_refl}
use Rattle.core_text.specs.CoreForms.{IsFormOfTyped}
use Rattle.core_text.specs.Placed.{Placed, form, place_of, second_of, third_of}
use Rattle.core_text.specs.Reading.{◌>>=◌, term_at}
use Rattle.core_text.specs.Judged.{applied_at, found_at, judged_at, loose_index_at, reading_at, typing_at, unless_loose, with_fault}
use Rattle.core_text.specs.declared.faults.TextFault.{TextFault}
use Rattle.core_text.specs.declared.faults.TextFault.TheVariants.{BadForm, IllTyped}
use Rattle.core_text.proofs.Table.{bind_ok, term_read, term_spelled}

-- an application whose parts fit, and one whose parts don't
pub applied_same : (r s q : SimpleType) (k : ℕ) → q ≡ s → applied_at (function_type r s) q k ≡ Ok r
applied_same r s q k e = rw (e, same_type_refl s) refl

pub applied_other : (r s q : SimpleType) (k : ℕ) → (q ≡ s → ⊥) → applied_at (function_type r s) q k ≡ Err k
applied_other r s q k h = rw (false_from_ne_true (same_type s q) (λ e. h (sym (same_type_only s q e)))) refl

applied_parts : (f q s : SimpleType) (k : ℕ) → applied_at f q k ≡ Ok s → f ≡ function_type s q
applied_parts (base_type l) q s k e = cc
applied_parts (function_type r p) q s k e = go (same_type p q) refl e
  where
    go : (b : Bool) → same_type p q ≡ b → (if b then Ok r else Err k) ≡ Ok s → function_type r p ≡ function_type s q
    go true h e =
        let one : r ≡ s = cc in
        let two : p ≡ q = same_type_only p q h in
        rw (one, two) refl
    go false h e = cc

found_parts : (o : Option SimpleType) (k : ℕ) (s : SimpleType) → found_at o k ≡ Ok s → o ≡ Some s
found_parts None k s e = cc
found_parts (Some r) k s e = cc

-- what is computed is the type
typing_typed : (types : List SimpleType) (t : Term) (p : Placed) (s : SimpleType) → typing_at types t p ≡ Ok s → Typed types t s
typing_typed types (free name r) p s e = cc
typing_typed types (bound i) p s e = found_parts (slice_get types i) (place_of p) s e
typing_typed types (constant c) p s e = cc
typing_typed types (application f a) p s e =
    let one = bind_ok (typing_at types f (second_of p)) (λ r. typing_at types a (third_of p) >>= λ q. applied_at r q (place_of p)) s e in
    let two = bind_ok (typing_at types a (third_of p)) (λ q. applied_at one.0 q (place_of p)) s one.2 in
    let whole = applied_parts one.0 two.0 s (place_of p) two.2 in
    (two.0, subst (Typed types f) whole (typing_typed types f (second_of p) one.0 one.1), typing_typed types a (third_of p) two.0 two.1)
typing_typed types (abstraction r b) p s e =
    let one = bind_ok (typing_at (r ∷ types) b (third_of p)) (λ q. Ok (function_type q r)) s e in
    let same : function_type one.0 r ≡ s = cc in
    (one.0, typing_typed (r ∷ types) b (third_of p) one.0 one.1, same)

typed_typing : (types : List SimpleType) (t : Term) (p : Placed) (s : SimpleType) → Typed types t s → typing_at types t p ≡ Ok s
typed_typing types (free name r) p s h = rw h refl
typed_typing types (bound i) p s h = ap (λ o. found_at o (place_of p)) h
typed_typing types (constant c) p s h = rw h refl
typed_typing types (application f a) p s h =
    rw (typed_typing types f (second_of p) (function_type s h.0) h.1, typed_typing types a (third_of p) h.0 h.2) (applied_same s h.0 h.0 (place_of p) refl)
typed_typing types (abstraction r b) p s h = rw (typed_typing (r ∷ types) b (third_of p) h.0 h.1) (ap (λ (q : SimpleType). let got : Result SimpleType ℕ = Ok q in got) h.2)

-- a typed term has no index beyond its types
typed_closed : (types : List SimpleType) (t : Term) (p : Placed) (s : SimpleType) → Typed types t s → loose_index_at (length types) t p ≡ None
typed_closed types (free name r) p s h = refl
typed_closed types (bound i) p s h = rw (lt-ltb i (length types) (slice_get_within types i s h)) refl
typed_closed types (constant c) p s h = refl
typed_closed types (application f a) p s h =
    rw (typed_closed types f (second_of p) (function_type s h.0) h.1) (typed_closed types a (third_of p) h.0 h.2)
typed_closed types (abstraction r b) p s h =
    let more : length types + 1 ≡ length (r ∷ types) = omega arith in
    ap (λ n. loose_index_at n b (third_of p)) more ∙ typed_closed (r ∷ types) b (third_of p) h.0 h.1

pub with_fault_ok : {A : Type 0} (fault : ℕ → TextFault) (r : Result A ℕ) (a : A) → with_fault fault r ≡ Ok a → r ≡ Ok a
with_fault_ok fault (Ok x) a e = cc
with_fault_ok fault (Err k) a e = cc

unless_loose_ok : {A : Type 0} (o : Option ℕ) (r : Result A TextFault) (a : A) → unless_loose o r ≡ Ok a → r ≡ Ok a
unless_loose_ok None r a e = e
unless_loose_ok (Some k) r a e = cc

-- a term is judged to have a type exactly where it has that type and no loose index
pub judged_typed : (t : Term) (p : Placed) (s : SimpleType) → judged_at t p ≡ Ok s → Typed [] t s
judged_typed t p s e =
    typing_typed [] t p s (with_fault_ok (λ k. IllTyped k) (typing_at [] t p) s (unless_loose_ok (loose_index_at 0 t p) (with_fault (λ k. IllTyped k) (typing_at [] t p)) s e))

pub typed_judged : (t : Term) (p : Placed) (s : SimpleType) → Typed [] t s → judged_at t p ≡ Ok s
typed_judged t p s h = rw (typed_closed [] t p s h, typed_typing [] t p s h) refl

-- a form is read as a term exactly where it stands for one that has a type and no loose index
pub reading_read : (p : Placed) (t : Term) → reading_at p ≡ Ok t → IsFormOfTyped (form p) t
reading_read p t e =
    let one = bind_ok (with_fault (λ k. BadForm k) (term_at p)) (λ u. judged_at u p >>= λ s. Ok u) t e in
    let two = bind_ok (judged_at one.0 p) (λ s. Ok one.0) t one.2 in
    let same : one.0 ≡ t = cc in
    let read = term_read p one.0 (with_fault_ok (λ k. BadForm k) (term_at p) one.0 one.1) in
    subst (IsFormOfTyped (form p)) same (read.0, read.1, (two.0, judged_typed one.0 p two.0 two.1))

pub reading_spelled : (t : Term) (p : Placed) → IsFormOfTyped (form p) t → reading_at p ≡ Ok t
reading_spelled t p h = rw (term_spelled t p h.0 h.1, typed_judged t p h.2.0 h.2.1) refl
