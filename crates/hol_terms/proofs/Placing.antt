-- Places of variables in a list, and the map that tells them.
use Rattle.std.proofs.Common.{ℕ, zero, suc, ◌+◌, ◌-◌, ◌≤◌, List, [], ◌∷◌, ◌++◌, Bool, true, false, cond, ◌||◌, is_some, ◌≡◌, ◌↔◌, refl, sym, ap, ap₂, subst, ◌∙◌, length, arith, Some, None, inl, inr, IsNone, IfSome}
use Rattle.std.specs.Prelude.{Contains, slice_get}
use Rattle.std.specs.declared.option.Option.{Option}
use Rattle.std.specs.List.{position_from, list_any}
use Rattle.std.specs.Str.{bytes_eq}
use Rattle.std.specs.HashMap as table
use Rattle.std.specs.HashMap.{HashMap, get_by_text}
use Rattle.std.specs.Map.{lookup}
use Rattle.std.specs.String.{string_eq, string_bytes}
use Rattle.std.specs.declared.string.String.{String}
use Rattle.std.proofs.lemmas.Map.Text.{hash_map_updates_text}
use Rattle.hol_terms.specs.Terms.{Variable}
use Rattle.hol_terms.specs.Computed.{same_variable}
use Rattle.hol_terms.specs.Collected.{key_of, with_variable}
use Rattle.hol_terms.specs.Places.{place_of, ArePlacesIn}
use Rattle.hol_terms.proofs.Same.{same_variable_refl, same_variable_only}
use Rattle.hol_terms.proofs.Collecting.{bytes_eq-key_of}
use Rattle.hol_terms.proofs.FreeLaws.{StandsIn, contains_stands, stands_contains}

pub are_places_in_none : {Y S : Type 0} (places : HashMap (String Y) ℕ S) → table.IsEmpty places → ArePlacesIn places []
are_places_in_none places none v = ap (lookup (λ k. bytes_eq (key_of v) (string_bytes k))) none

-- the place of a variable in a list with one more
one_of_one : (w v : Variable) (at : ℕ) (b c : Bool) → same_variable w v ≡ b → same_variable v w ≡ c → cond b (Some at) None ≡ cond c (Some (at + 0)) None
one_of_one w v at true true e f = ap Some (omega arith)
one_of_one w v at false false e f = refl
one_of_one w v at true false e f =
    let same = sym (same_variable_only w v e) in
    let h : same_variable v w ≡ true = subst (λ (x : Variable). same_variable v x ≡ true) same (same_variable_refl v) in
    let no : true ≡ false = sym h ∙ f in absurd (cc)
one_of_one w v at false true e f =
    let same = sym (same_variable_only v w f) in
    let h : same_variable w v ≡ true = subst (λ (x : Variable). same_variable w x ≡ true) same (same_variable_refl w) in
    let no : true ≡ false = sym h ∙ e in absurd (cc)

elsewhere : (w v x : Variable) (at k : ℕ) (d : Bool) → same_variable v x ≡ false → same_variable w x ≡ true → same_variable v w ≡ d → Some at ≡ cond d (Some k) (Some at)
elsewhere w v x at k false e f g = refl
elsewhere w v x at k true e f g =
    let same = sym (same_variable_only v w g) in
    let h : same_variable v x ≡ true = subst (λ (y : Variable). same_variable y x ≡ true) same f in
    let no : true ≡ false = sym h ∙ e in absurd (cc)

behind : (w v x : Variable) (at : ℕ) (xs : List Variable) (c : Bool) → same_variable v x ≡ false → same_variable w x ≡ c
    → position_from (same_variable w) (at + 1) (xs ++ v ∷ []) ≡ cond (same_variable v w) (Some (at + 1 + length xs)) (position_from (same_variable w) (at + 1) xs)
    → cond c (Some at) (position_from (same_variable w) (at + 1) (xs ++ v ∷ []))
    ≡ cond (same_variable v w) (Some (at + suc (length xs))) (cond c (Some at) (position_from (same_variable w) (at + 1) xs))
behind w v x at xs false e f rest =
    let same : at + 1 + length xs ≡ at + suc (length xs) = omega arith in
    rest ∙ ap (λ (k : ℕ). cond (same_variable v w) (Some k) (position_from (same_variable w) (at + 1) xs)) same
behind w v x at xs true e f rest = elsewhere w v x at (at + suc (length xs)) (same_variable v w) e f refl

one_more : (w v : Variable) (at : ℕ) (xs : List Variable) → position_from (same_variable v) at xs ≡ None
    → position_from (same_variable w) at (xs ++ v ∷ []) ≡ cond (same_variable v w) (Some (at + length xs)) (position_from (same_variable w) at xs)
one_more w v at [] none = one_of_one w v at (same_variable w v) (same_variable v w) refl refl
one_more w v at (x ∷ xs) none = by_test (same_variable v x) refl none (one_more w v (at + 1) xs)
  where
    by_test : (b : Bool) → same_variable v x ≡ b → cond b (Some at) (position_from (same_variable v) (at + 1) xs) ≡ None
        → (position_from (same_variable v) (at + 1) xs ≡ None
        → position_from (same_variable w) (at + 1) (xs ++ v ∷ []) ≡ cond (same_variable v w) (Some (at + 1 + length xs)) (position_from (same_variable w) (at + 1) xs))
        → cond (same_variable w x) (Some at) (position_from (same_variable w) (at + 1) (xs ++ v ∷ []))
        ≡ cond (same_variable v w) (Some (at + suc (length xs))) (cond (same_variable w x) (Some at) (position_from (same_variable w) (at + 1) xs))
    by_test true e none rest = absurd (let h : Some at ≡ None = none in cc)
    by_test false e none rest = behind w v x at xs (same_variable w x) e refl (rest none)

pub are_places_in_put : {Y S : Type 0} (old new : HashMap (String Y) ℕ S) (variables : List Variable) (v : Variable) (key : String Y) (place : ℕ)
    → ArePlacesIn old variables → place_of v variables ≡ None → string_bytes key ≡ key_of v → place ≡ length variables
    → table.Updates string_eq old new key (Some place) → ArePlacesIn new (variables ++ v ∷ [])
are_places_in_put old new variables v key place places none spells last updates w =
    hash_map_updates_text (string_bytes key) old new (Some place) updates (key_of w)
    ∙ ap (λ (bs : List ℕ). cond (bytes_eq bs (key_of w)) (Some place) (get_by_text old (key_of w))) spells
    ∙ ap₂ (λ (b : Bool) (o : Option ℕ). cond b (Some place) o) (bytes_eq-key_of v w) (places w)
    ∙ ap (λ (k : ℕ). cond (same_variable v w) (Some k) (place_of w variables)) (last ∙ (omega arith))
    ∙ sym (one_more w v 0 variables none)

-- the map has the same entries
pub are_places_in_unchanged : {Y S : Type 0} (old new : HashMap (String Y) ℕ S) (variables : List Variable) → table.IsUnchanged old new → ArePlacesIn old variables → ArePlacesIn new variables
are_places_in_unchanged old new variables same places v = ap (lookup (λ k. bytes_eq (key_of v) (string_bytes k))) same ∙ places v

-- what stands at the place
place_from_there : (v : Variable) (at k : ℕ) (xs : List Variable) → position_from (same_variable v) at xs ≡ Some k → (at ≤ k) × (slice_get xs (k - at) ≡ Some v)
place_from_there v at k [] e = absurd (let h : None ≡ Some k = e in cc)
place_from_there v at k (x ∷ xs) e = by_test (same_variable v x) refl e (place_from_there v (at + 1) k xs)
  where
    by_test : (b : Bool) → same_variable v x ≡ b → cond b (Some at) (position_from (same_variable v) (at + 1) xs) ≡ Some k
        → (position_from (same_variable v) (at + 1) xs ≡ Some k → (at + 1 ≤ k) × (slice_get xs (k - (at + 1)) ≡ Some v)) → (at ≤ k) × (slice_get (x ∷ xs) (k - at) ≡ Some v)
    by_test true f e rest =
        let here : at ≡ k = cc in
        let none_left : k - at ≡ 0 = omega (arith, here) in
        (omega (arith, here), rw none_left (ap Some (sym (same_variable_only v x f))))
    by_test false f e rest =
        let p = rest e in
        let later : at + 1 ≤ k = p.0 in
        let shifted : k - at ≡ suc (k - (at + 1)) = omega arith in
        (omega arith, rw shifted p.1)

pub place_there : (v : Variable) (xs : List Variable) (place : Option ℕ) → place ≡ place_of v xs → IfSome place (λ k. slice_get xs k ≡ Some v)
place_there v xs None e = tt
place_there v xs (Some k) e = let whole : k - 0 ≡ k = omega arith in rw whole at (place_from_there v 0 k xs (sym e)).1

-- where the place is none the variable stands nowhere
nowhere : (v : Variable) (at : ℕ) (xs : List Variable) → position_from (same_variable v) at xs ≡ None → StandsIn v xs → ⊥
nowhere v at [] e h = absurd h
nowhere v at (x ∷ xs) e h = by_test (same_variable v x) refl e h (nowhere v (at + 1) xs)
  where
    by_test : (b : Bool) → same_variable v x ≡ b → cond b (Some at) (position_from (same_variable v) (at + 1) xs) ≡ None → StandsIn v (x ∷ xs)
        → (position_from (same_variable v) (at + 1) xs ≡ None → StandsIn v xs → ⊥) → ⊥
    by_test true f e h rest = let no : Some at ≡ None = e in cc
    by_test false f e (inl here) rest =
        let same : same_variable v x ≡ true = subst (λ (y : Variable). same_variable v y ≡ true) (sym here) (same_variable_refl v) in
        let no : true ≡ false = sym same ∙ f in cc
    by_test false f e (inr h) rest = rest e h

stands_at : (v : Variable) (k : ℕ) (xs : List Variable) → slice_get xs k ≡ Some v → StandsIn v xs
stands_at v k [] e = absurd (let h : None ≡ Some v = e in cc)
stands_at v zero (x ∷ xs) e = inl cc
stands_at v (suc k) (x ∷ xs) e = inr (stands_at v k xs e)

pub place_none : (v : Variable) (xs : List Variable) (place : Option ℕ) → place ≡ place_of v xs → IsNone place ↔ (Contains xs v → ⊥)
place_none v xs None e = (λ _ h. nowhere v 0 xs (sym e) (contains_stands v xs h), λ _. refl)
place_none v xs (Some k) e = (λ h. cc, λ h. absurd (h (stands_contains v xs (stands_at v k xs (place_there v xs (Some k) e)))))

-- a variable that stands nowhere has no place
pub place_of_new : (v : Variable) (xs : List Variable) → (Contains xs v → ⊥) → place_of v xs ≡ None
place_of_new v xs new = by_place (place_of v xs) refl
  where
    by_place : (place : Option ℕ) → place ≡ place_of v xs → place_of v xs ≡ None
    by_place None e = sym e
    by_place (Some k) e = let no : true ≡ false = (place_none v xs (Some k) e).1 new in absurd (cc)

pub place_held : (v : Variable) (xs : List Variable) (place : Option ℕ) → place ≡ place_of v xs → is_some place ≡ true → Contains xs v
place_held v xs None e some = absurd (let no : false ≡ true = some in cc)
place_held v xs (Some k) e some = stands_contains v xs (stands_at v k xs (place_there v xs (Some k) e))

-- a variable is put after the others where it is new
any_stands : (v : Variable) (xs : List Variable) → list_any (same_variable v) xs ≡ true → StandsIn v xs
any_stands v [] e = absurd (let no : false ≡ true = e in cc)
any_stands v (x ∷ xs) e = by_test (same_variable v x) refl e (any_stands v xs)
  where
    by_test : (b : Bool) → same_variable v x ≡ b → (b || list_any (same_variable v) xs) ≡ true → (list_any (same_variable v) xs ≡ true → StandsIn v xs) → StandsIn v (x ∷ xs)
    by_test true f e rest = inl (sym (same_variable_only v x f))
    by_test false f e rest = inr (rest e)

stands_any : (v : Variable) (xs : List Variable) → StandsIn v xs → list_any (same_variable v) xs ≡ true
stands_any v [] h = absurd h
stands_any v (x ∷ xs) (inl here) = ap (λ (b : Bool). b || list_any (same_variable v) xs) (subst (λ (y : Variable). same_variable v y ≡ true) (sym here) (same_variable_refl v))
stands_any v (x ∷ xs) (inr h) = or_true (same_variable v x) (list_any (same_variable v) xs) (stands_any v xs h)
  where
    or_true : (b c : Bool) → c ≡ true → (b || c) ≡ true
    or_true true c e = refl
    or_true false c e = e

pub with_variable_held : (v : Variable) (xs new : List Variable) → Contains xs v → new ≡ xs → new ≡ with_variable xs v
with_variable_held v xs new held e = e ∙ sym (ap (λ (b : Bool). cond b xs (xs ++ v ∷ [])) (stands_any v xs (contains_stands v xs held)))

pub with_variable_put : (v : Variable) (xs new : List Variable) → (Contains xs v → ⊥) → new ≡ xs ++ v ∷ [] → new ≡ with_variable xs v
with_variable_put v xs new none e = by_test (list_any (same_variable v) xs) refl
  where
    by_test : (b : Bool) → list_any (same_variable v) xs ≡ b → new ≡ cond b xs (xs ++ v ∷ [])
    by_test true f = absurd (none (stands_contains v xs (any_stands v xs f)))
    by_test false f = e

pub with_variable_either : (v : Variable) (xs new : List Variable) (b : Bool) → (b ≡ true → (Contains xs v → ⊥) × (new ≡ xs ++ v ∷ [])) → (b ≡ false → Contains xs v × (new ≡ xs)) → new ≡ with_variable xs v
with_variable_either v xs new true put known = with_variable_put v xs new (put refl).0 (put refl).1
with_variable_either v xs new false put known = with_variable_held v xs new (known refl).0 (known refl).1
