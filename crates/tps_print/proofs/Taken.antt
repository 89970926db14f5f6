-- Sets of names, and the names outside them.
use Rattle.std.proofs.Common.{ℕ, zero, suc, ◌+◌, ◌<◌, ◌≤◌, ◌^◌, List, [], ◌∷◌, ◌++◌, Bool, true, false, cond, ◌||◌, not, filter, map, ◌≡◌, refl, sym, ap, ap₂, subst, ◌∙◌, arith, decimal}
use Rattle.std.specs.Prelude.{encode_utf8_all}
use Rattle.std.specs.Bool.{Decides}
use Rattle.std.specs.HashSet as bag
use Rattle.std.specs.HashSet.{HashSet, contains_text}
use Rattle.std.specs.List.{list_any, range_with_len}
use Rattle.std.specs.Str.{IsAscii, bytes_eq}
use Rattle.std.specs.String.{string_eq, string_bytes}
use Rattle.std.specs.declared.string.String.{String}
use Rattle.std.proofs.lemmas.Bool.Decides.{same_from_decides, Decides-like}
use Rattle.std.proofs.lemmas.Fmt.{IsAscii-decimal}
use Rattle.std.proofs.lemmas.List.{map-append}
use Rattle.std.proofs.lemmas.List.Elements.{filter-append}
use Rattle.std.proofs.lemmas.List.Folds.{list_any-append}
use Rattle.std.proofs.lemmas.List.FromFn.{map-range_with_len_more}
use Rattle.std.proofs.lemmas.Map.Text.{hash_set_updates_text}
use Rattle.std.proofs.lemmas.Slice.Eq.{bytes_eq-Decides}
use Rattle.std.proofs.lemmas.Str.{encodes_same, encodes-IsAscii}
use Rattle.hol_terms.specs.Terms.{Variable}
use Rattle.hol_terms.specs.Computed.{same_name}
use Rattle.hol_terms.proofs.Same.{same_name_refl, same_name_only}
use Rattle.tps_print.specs.BoundNames.{TakesNames, names_outside, names_without, numbered_name}

same_name-Decides : (n m : List ℕ) → Decides (same_name n m) (n ≡ m)
same_name-Decides n m = (same_name_only n m, λ e. subst (λ (m : List ℕ). same_name n m ≡ true) e (same_name_refl n))

bytes_eq-name : (m n : List ℕ) → bytes_eq (encode_utf8_all m) (encode_utf8_all n) ≡ same_name n m
bytes_eq-name m n =
    same_from_decides (bytes_eq (encode_utf8_all m) (encode_utf8_all n)) (same_name n m)
    (Decides-like (bytes_eq (encode_utf8_all m) (encode_utf8_all n)) (λ e. sym (encodes_same m n e)) (λ e. ap encode_utf8_all (sym e)) (bytes_eq-Decides (encode_utf8_all m) (encode_utf8_all n)))
    (same_name-Decides n m)

one_or : (a b : Bool) → cond a true b ≡ (b || (a || false))
one_or true true = refl
one_or true false = refl
one_or false true = refl
one_or false false = refl

-- a name is put in
pub takes_one : {Y S : Type 0} (old new : HashSet (String Y) S) (name : List ℕ) (key : String Y)
    → string_bytes key ≡ encode_utf8_all name → bag.Updates string_eq old new key true → TakesNames old new (name ∷ [])
takes_one old new name key spells updates n =
    hash_set_updates_text (string_bytes key) old new true updates (encode_utf8_all n)
    ∙ ap (λ (bs : List ℕ). cond (bytes_eq bs (encode_utf8_all n)) true (contains_text old (encode_utf8_all n))) spells
    ∙ ap (λ (b : Bool). cond b true (contains_text old (encode_utf8_all n))) (bytes_eq-name name n)
    ∙ one_or (same_name n name) (contains_text old (encode_utf8_all n))

or_false : (a : Bool) → a ≡ (a || false)
or_false true = refl
or_false false = refl

or_assoc : (a b c : Bool) → ((a || b) || c) ≡ (a || (b || c))
or_assoc true b c = refl
or_assoc false b c = refl

pub takes_none : {Y S : Type 0} (old : HashSet (String Y) S) → TakesNames old old []
takes_none old n = or_false (contains_text old (encode_utf8_all n))

pub takes_both : {Y S : Type 0} (a b c : HashSet (String Y) S) (xs ys : List (List ℕ)) → TakesNames a b xs → TakesNames b c ys → TakesNames a c (xs ++ ys)
takes_both a b c xs ys first second n =
    second n ∙ ap (λ (x : Bool). x || list_any (same_name n) ys) (first n)
    ∙ or_assoc (contains_text a (encode_utf8_all n)) (list_any (same_name n) xs) (list_any (same_name n) ys)
    ∙ ap (λ (x : Bool). contains_text a (encode_utf8_all n) || x) (sym (list_any-append (same_name n) xs ys))

-- the names of an application
pub takes_application : {Y S : Type 0} (a b c : HashSet (String Y) S) (xs ys : List Variable)
    → TakesNames a b (map (λ (v : Variable). v.0) xs) → TakesNames b c (map (λ (v : Variable). v.0) ys) → TakesNames a c (map (λ (v : Variable). v.0) (xs ++ ys))
takes_application a b c xs ys first second =
    subst (TakesNames a c) (sym (map-append (λ (v : Variable). v.0) xs ys))
    (takes_both a b c (map (λ (v : Variable). v.0) xs) (map (λ (v : Variable). v.0) ys) first second)

-- the names outside a set up to one number more

abbrev outside : {Y S : Type 0} → HashSet (String Y) S → List (List ℕ) → List (List ℕ)
outside taken = filter (λ (name : List ℕ). not (contains_text taken name))

one_more : {Y S : Type 0} (taken : HashSet (String Y) S) (k : ℕ) → names_outside taken (k + 1) ≡ names_outside taken k ++ outside taken (numbered_name (k + 1) ∷ [])
one_more taken k =
    let same : 1 + k ≡ k + 1 = omega arith in
    ap (outside taken) (map-range_with_len_more numbered_name 1 k (k + 1) same)
    ∙ filter-append (λ (name : List ℕ). not (contains_text taken name)) (map numbered_name (range_with_len 1 k)) (numbered_name (k + 1) ∷ [])

pub outside_put : {Y S A : Type 0} (taken : HashSet (String Y) S) (k : ℕ) (names : List (String A)) (name : String A)
    → map string_bytes names ≡ names_outside taken k → string_bytes name ≡ numbered_name (k + 1) → contains_text taken (string_bytes name) ≡ false
    → map string_bytes (names ++ name ∷ []) ≡ names_outside taken (k + 1)
outside_put taken k names name before spells new =
    let absent : contains_text taken (numbered_name (k + 1)) ≡ false = subst (λ (bs : List ℕ). contains_text taken bs ≡ false) spells new in
    map-append string_bytes names (name ∷ [])
    ∙ ap₂ (λ (xs : List (List ℕ)) (x : List ℕ). xs ++ x ∷ []) before spells
    ∙ ap (λ (b : Bool). names_outside taken k ++ cond (not b) (numbered_name (k + 1) ∷ []) []) (sym absent)
    ∙ sym (one_more taken k)

append_none : (xs : List (List ℕ)) → xs ≡ xs ++ []
append_none [] = refl
append_none (x ∷ xs) = ap (λ (l : List (List ℕ)). x ∷ l) (append_none xs)

pub outside_left : {Y S A : Type 0} (taken : HashSet (String Y) S) (k : ℕ) (names : List (String A)) (name : String A)
    → map string_bytes names ≡ names_outside taken k → string_bytes name ≡ numbered_name (k + 1) → contains_text taken (string_bytes name) ≡ true
    → map string_bytes names ≡ names_outside taken (k + 1)
outside_left taken k names name before spells known =
    let there : contains_text taken (numbered_name (k + 1)) ≡ true = subst (λ (bs : List ℕ). contains_text taken bs ≡ true) spells known in
    before ∙ append_none (names_outside taken k)
    ∙ ap (λ (b : Bool). names_outside taken k ++ cond (not b) (numbered_name (k + 1) ∷ []) []) (sym there)
    ∙ sym (one_more taken k)

-- a set that has exactly these names

after_x : (ds : List ℕ) → IsAscii ds → IsAscii (120 ∷ ds)
after_x ds ascii zero = omega arith
after_x ds ascii (suc i) = ascii i

pub plainly : (n : ℕ) → n < 2 ^ 64 → encode_utf8_all (numbered_name n) ≡ numbered_name n
plainly n h = encodes-IsAscii (120 ∷ decimal n) (after_x (decimal n) (IsAscii-decimal n h))

pub same_outside : {Y S Z T : Type 0} (none : HashSet (String Z) T) (taken : HashSet (String Y) S) (names : List (List ℕ))
    → bag.IsEmpty none → TakesNames none taken names → (n : ℕ) → n < 2 ^ 64 → contains_text taken (numbered_name n) ≡ list_any (same_name (numbered_name n)) names
same_outside none taken names empty takes n h =
    ap (contains_text taken) (sym (plainly n h)) ∙ takes (numbered_name n)
    ∙ ap (λ (b : Bool). b || list_any (same_name (numbered_name n)) names) (ap (list_any (λ k. bytes_eq (encode_utf8_all (numbered_name n)) (string_bytes k))) empty)

alike : {Y S : Type 0} (taken : HashSet (String Y) S) (names : List (List ℕ))
    → ((n : ℕ) → n < 2 ^ 64 → contains_text taken (numbered_name n) ≡ list_any (same_name (numbered_name n)) names)
    → (first count : ℕ) → first + count ≤ 2 ^ 64
    → filter (λ (name : List ℕ). not (contains_text taken name)) (map numbered_name (range_with_len first count))
    ≡ filter (λ (name : List ℕ). not (list_any (same_name name) names)) (map numbered_name (range_with_len first count))
alike taken names same first zero small = refl
alike taken names same first (suc count) small =
    ap₂ (λ (b : Bool) (l : List (List ℕ)). cond (not b) (numbered_name first ∷ l) l) (same first (omega arith)) (alike taken names same (first + 1) count (omega arith))

pub outside_is_without : {Y S Z T : Type 0} (none : HashSet (String Z) T) (taken : HashSet (String Y) S) (names : List (List ℕ)) (last : ℕ)
    → bag.IsEmpty none → TakesNames none taken names → last < 2 ^ 64 → names_outside taken last ≡ names_without names last
outside_is_without none taken names last empty takes small = alike taken names (same_outside none taken names empty takes) 1 last (omega arith)

pub denied : (b : Bool) → not b ≡ true → b ≡ false
denied true e = cc
denied false e = refl
