-- Variables collected by a set of their keys are the first occurrences of each.
use Rattle.std.proofs.Common.{ℕ, ◌<◌, ◌+◌, List, [], ◌∷◌, ◌++◌, Bool, true, false, cond, ◌&&◌, ◌||◌, not, filter, ◌≡◌, refl, sym, ap, ap₂, subst, ◌∙◌, append_assoc, append-nil, take, length, get_or, arith}
use Rattle.std.specs.Prelude.{encode_utf8_all, slice_index}
use Rattle.std.specs.List.{list_any}
use Rattle.std.specs.Bool.{Decides}
use Rattle.std.specs.Char.{encode_utf8}
use Rattle.std.specs.Str.{bytes_eq}
use Rattle.std.specs.HashSet as bag
use Rattle.std.specs.HashSet.{HashSet, contains_text}
use Rattle.std.specs.String.{string_eq, string_bytes}
use Rattle.std.specs.declared.string.String.{String}
use Rattle.std.proofs.lemmas.Bool.Decides.{same_from_decides, Decides-like}
use Rattle.std.proofs.lemmas.Slice.Eq.{bytes_eq-Decides}
use Rattle.std.proofs.lemmas.Str.{encodes_same, encodes-append}
use Rattle.std.proofs.lemmas.List.{take_more}
use Rattle.std.proofs.lemmas.List.Folds.{list_any-append}
use Rattle.std.proofs.lemmas.Map.Text.{hash_set_updates_text}
use Rattle.hol_terms.specs.Terms.{SimpleType, base_type, function_type, Variable}
use Rattle.hol_terms.specs.Computed.{same_variable}
use Rattle.hol_terms.specs.Collected.{with_variable, with_variables, type_characters, key_of, AreKeysOf}
use Rattle.hol_terms.specs.FreeVariables.{without, first_occurrences}
use Rattle.hol_terms.proofs.Same.{same_variable_refl, same_variable_only}

-- keys

other_mark : (c d : ℕ) (xs ys : List ℕ) → c < d → c ∷ xs ≡ d ∷ ys → ⊥
other_mark c d xs ys h e = let same : c ≡ d = ap (λ (l : List ℕ). slice_index l 0) e in absurd (omega arith)

type_characters_same : (s r : SimpleType) (xs ys : List ℕ) → type_characters s ++ xs ≡ type_characters r ++ ys → (s ≡ r) × (xs ≡ ys)
type_characters_same (base_type l) (base_type m) xs ys e = (cc, cc)
type_characters_same (base_type l) (function_type r s) xs ys e = absurd (other_mark 98 102 (l ∷ xs) ((type_characters r ++ type_characters s) ++ ys) (omega arith) e)
type_characters_same (function_type r s) (base_type l) xs ys e = absurd (other_mark 98 102 (l ∷ ys) ((type_characters r ++ type_characters s) ++ xs) (omega arith) (sym e))
type_characters_same (function_type r s) (function_type q p) xs ys e =
    let flat : (r s : SimpleType) (xs : List ℕ) → (type_characters r ++ type_characters s) ++ xs ≡ type_characters r ++ (type_characters s ++ xs) = λ r s xs. append_assoc (type_characters r) (type_characters s) xs in
    let rest : (type_characters r ++ type_characters s) ++ xs ≡ (type_characters q ++ type_characters p) ++ ys = cc in
    let first = type_characters_same r q (type_characters s ++ xs) (type_characters p ++ ys) (sym (flat r s xs) ∙ rest ∙ flat q p ys) in
    let second = type_characters_same s p xs ys first.1 in
    (ap₂ function_type first.0 second.0, second.1)

key_of_same : (v w : Variable) → key_of v ≡ key_of w → v ≡ w
key_of_same v w e =
    let p = type_characters_same v.1 w.1 v.0 w.0 (encodes_same (type_characters v.1 ++ v.0) (type_characters w.1 ++ w.0) e) in
    (λ i. (p.1 i, p.0 i))

same_variable-Decides : (v w : Variable) → Decides (same_variable v w) (v ≡ w)
same_variable-Decides v w = (same_variable_only v w, λ e. subst (λ (w : Variable). same_variable v w ≡ true) e (same_variable_refl v))

pub bytes_eq-key_of : (v w : Variable) → bytes_eq (key_of v) (key_of w) ≡ same_variable v w
bytes_eq-key_of v w =
    same_from_decides (bytes_eq (key_of v) (key_of w)) (same_variable v w)
    (Decides-like (bytes_eq (key_of v) (key_of w)) (key_of_same v w) (ap key_of) (bytes_eq-Decides (key_of v) (key_of w))) (same_variable-Decides v w)

same_variable-flip : (v w : Variable) → same_variable v w ≡ same_variable w v
same_variable-flip v w =
    same_from_decides (same_variable v w) (same_variable w v)
    (Decides-like (same_variable v w) sym sym (same_variable-Decides v w)) (same_variable-Decides w v)

-- the order of collecting

filter_twice : (p q : Variable → Bool) (xs : List Variable) → filter p (filter q xs) ≡ filter (λ x. q x && p x) xs
filter_twice p q [] = refl
filter_twice p q (x ∷ xs) = by_tests (q x) (p x) refl (filter_twice p q xs)
  where
    by_tests : (b c : Bool) → p x ≡ c → filter p (filter q xs) ≡ filter (λ x. q x && p x) xs
        → filter p (cond b (x ∷ filter q xs) (filter q xs)) ≡ cond (b && c) (x ∷ filter (λ x. q x && p x) xs) (filter (λ x. q x && p x) xs)
    by_tests true true e ih = ap (λ (b : Bool). cond b (x ∷ filter p (filter q xs)) (filter p (filter q xs))) e ∙ ap (λ (l : List Variable). x ∷ l) ih
    by_tests true false e ih = ap (λ (b : Bool). cond b (x ∷ filter p (filter q xs)) (filter p (filter q xs))) e ∙ ih
    by_tests false c e ih = ih

filter_alike : (p q : Variable → Bool) → ((x : Variable) → p x ≡ q x) → (xs : List Variable) → filter p xs ≡ filter q xs
filter_alike p q h [] = refl
filter_alike p q h (x ∷ xs) = ap₂ (λ (b : Bool) (l : List Variable). cond b (x ∷ l) l) (h x) (filter_alike p q h xs)

-- those that weren't collected yet
abbrev missing : List Variable → List Variable → List Variable
missing collected = filter (λ w. not (list_any (same_variable w) collected))

here_in : (collected : List Variable) (v w : Variable) → list_any (same_variable v) collected ≡ true → (b : Bool) → same_variable v w ≡ b
    → (not b && not (list_any (same_variable w) collected)) ≡ not (list_any (same_variable w) collected)
here_in collected v w h true e = ap not (sym (subst (λ (w : Variable). list_any (same_variable w) collected ≡ true) (same_variable_only v w e) h))
here_in collected v w h false e = refl

not_or : (a b c : Bool) → b ≡ c → (not b && not a) ≡ not (a || (c || false))
not_or true true true e = refl
not_or true true false e = cc
not_or true false true e = cc
not_or true false false e = refl
not_or false true true e = refl
not_or false true false e = cc
not_or false false true e = cc
not_or false false false e = refl

with_variables-first : (collected xs : List Variable) → with_variables collected xs ≡ collected ++ missing collected (first_occurrences xs)
with_variables-first collected [] = sym (append-nil collected)
with_variables-first collected (x ∷ xs) = by_test (list_any (same_variable x) collected) refl (with_variables-first collected xs) (with_variables-first (collected ++ x ∷ []) xs)
  where
    by_test : (b : Bool) → list_any (same_variable x) collected ≡ b
        → with_variables collected xs ≡ collected ++ missing collected (first_occurrences xs)
        → with_variables (collected ++ x ∷ []) xs ≡ (collected ++ x ∷ []) ++ missing (collected ++ x ∷ []) (first_occurrences xs)
        → with_variables (cond b collected (collected ++ x ∷ [])) xs
        ≡ collected ++ cond (not b) (x ∷ missing collected (without x (first_occurrences xs))) (missing collected (without x (first_occurrences xs)))
    by_test true e old new =
        old ∙ ap (λ (l : List Variable). collected ++ l)
        (sym (filter_twice (λ w. not (list_any (same_variable w) collected)) (λ w. not (same_variable x w)) (first_occurrences xs)
        ∙ filter_alike (λ w. not (same_variable x w) && not (list_any (same_variable w) collected)) (λ w. not (list_any (same_variable w) collected))
        (λ w. here_in collected x w e (same_variable x w) refl) (first_occurrences xs)))
    by_test false e old new =
        new ∙ append_assoc collected (x ∷ []) (missing (collected ++ x ∷ []) (first_occurrences xs))
        ∙ ap (λ (l : List Variable). collected ++ (x ∷ l))
        (sym (filter_twice (λ w. not (list_any (same_variable w) collected)) (λ w. not (same_variable x w)) (first_occurrences xs)
        ∙ filter_alike (λ w. not (same_variable x w) && not (list_any (same_variable w) collected)) (λ w. not (list_any (same_variable w) (collected ++ x ∷ [])))
        (λ w. not_or (list_any (same_variable w) collected) (same_variable x w) (same_variable w x) (same_variable-flip x w)
        ∙ sym (ap not (list_any-append (same_variable w) collected (x ∷ [])))) (first_occurrences xs)))

filter_all : (xs : List Variable) → filter (λ w. true) xs ≡ xs
filter_all [] = refl
filter_all (x ∷ xs) = ap (λ (l : List Variable). x ∷ l) (filter_all xs)

pub with_variables_from_none : (xs : List Variable) → with_variables [] xs ≡ first_occurrences xs
with_variables_from_none xs = with_variables-first [] xs ∙ filter_all (first_occurrences xs)

pub with_variables_append : (collected xs ys : List Variable) → with_variables collected (xs ++ ys) ≡ with_variables (with_variables collected xs) ys
with_variables_append collected [] ys = refl
with_variables_append collected (x ∷ xs) ys = with_variables_append (with_variable collected x) xs ys

-- a set of keys with a further variable

pub are_keys_of_none : {Y S : Type 0} (keys : HashSet (String Y) S) → bag.IsEmpty keys → AreKeysOf keys []
are_keys_of_none keys none v = ap (list_any (λ k. bytes_eq (key_of v) (string_bytes k))) none

-- whether the key of a variable was in the set
pub key_was_in : {Y S : Type 0} (old : HashSet (String Y) S) (variables : List Variable) (v : Variable) (key : String Y)
    → AreKeysOf old variables → string_bytes key ≡ key_of v → bag.contains string_eq old key ≡ list_any (same_variable v) variables
key_was_in old variables v key keys spells = ap (contains_text old) spells ∙ keys v

pub with_variable_old : (variables : List Variable) (v : Variable) → list_any (same_variable v) variables ≡ true → with_variable variables v ≡ variables
with_variable_old variables v e = ap (λ (b : Bool). cond b variables (variables ++ v ∷ [])) e

pub with_variable_new : (variables : List Variable) (v : Variable) → list_any (same_variable v) variables ≡ false → with_variable variables v ≡ variables ++ v ∷ []
with_variable_new variables v e = ap (λ (b : Bool). cond b variables (variables ++ v ∷ [])) e

in_old : (variables : List Variable) (v w : Variable) → list_any (same_variable v) variables ≡ true → (b : Bool) → same_variable v w ≡ b
    → cond b true (list_any (same_variable w) variables) ≡ list_any (same_variable w) variables
in_old variables v w h true e = sym (subst (λ (w : Variable). list_any (same_variable w) variables ≡ true) (same_variable_only v w e) h)
in_old variables v w h false e = refl

cond_or : (a b c : Bool) → b ≡ c → cond b true a ≡ (a || (c || false))
cond_or true true true e = refl
cond_or true true false e = cc
cond_or true false true e = cc
cond_or true false false e = refl
cond_or false true true e = refl
cond_or false true false e = cc
cond_or false false true e = cc
cond_or false false false e = refl

in_new : (variables : List Variable) (v w : Variable) (b : Bool) → list_any (same_variable v) variables ≡ b
    → cond (same_variable v w) true (list_any (same_variable w) variables) ≡ list_any (same_variable w) (cond b variables (variables ++ v ∷ []))
in_new variables v w true e = in_old variables v w e (same_variable v w) refl
in_new variables v w false e =
    cond_or (list_any (same_variable w) variables) (same_variable v w) (same_variable w v) (same_variable-flip v w)
    ∙ sym (list_any-append (same_variable w) variables (v ∷ []))

pub are_keys_of_put : {Y S : Type 0} (old new : HashSet (String Y) S) (variables : List Variable) (v : Variable) (key : String Y)
    → AreKeysOf old variables → string_bytes key ≡ key_of v → bag.Updates string_eq old new key true → AreKeysOf new (with_variable variables v)
are_keys_of_put old new variables v key keys spells updates w =
    hash_set_updates_text (string_bytes key) old new true updates (key_of w)
    ∙ ap (λ (bs : List ℕ). cond (bytes_eq bs (key_of w)) true (contains_text old (key_of w))) spells
    ∙ ap₂ (λ (b c : Bool). cond b true c) (bytes_eq-key_of v w) (keys w)
    ∙ in_new variables v w (list_any (same_variable v) variables) refl

pub encoded_both : (xs ys : List ℕ) → encode_utf8_all (xs ++ ys) ≡ encode_utf8_all xs ++ encode_utf8_all ys
encoded_both xs ys = encodes-append xs ys

-- the characters of a function type, written in three parts
pub type_written : (r s : SimpleType) (none mark first whole : List ℕ) → mark ≡ none ++ encode_utf8 102 → first ≡ mark ++ encode_utf8_all (type_characters r)
    → whole ≡ first ++ encode_utf8_all (type_characters s) → whole ≡ none ++ encode_utf8_all (type_characters (function_type r s))
type_written r s none mark first whole e f g =
    g ∙ ap (λ (l : List ℕ). l ++ encode_utf8_all (type_characters s)) (f ∙ ap (λ (l : List ℕ). l ++ encode_utf8_all (type_characters r)) e)
    ∙ append_assoc (none ++ encode_utf8 102) (encode_utf8_all (type_characters r)) (encode_utf8_all (type_characters s))
    ∙ append_assoc none (encode_utf8 102) (encode_utf8_all (type_characters r) ++ encode_utf8_all (type_characters s))
    ∙ ap (λ (l : List ℕ). none ++ (encode_utf8 102 ++ l)) (sym (encodes-append (type_characters r) (type_characters s)))

-- one more character
pub encoded_more : (xs : List ℕ) (i c : ℕ) (none some more : List ℕ) → i < length xs → c ≡ get_or xs i c → some ≡ none ++ encode_utf8_all (take i xs) → more ≡ some ++ encode_utf8 c
    → more ≡ none ++ encode_utf8_all (take (i + 1) xs)
encoded_more xs i c none some more within here e f =
    let taken : take (i + 1) xs ≡ take i xs ++ c ∷ [] = take_more xs i c within ∙ ap (λ (x : ℕ). take i xs ++ x ∷ []) (sym here) in
    f ∙ ap (λ (l : List ℕ). l ++ encode_utf8 c) e
    ∙ append_assoc none (encode_utf8_all (take i xs)) (encode_utf8 c)
    ∙ ap (λ (l : List ℕ). none ++ (encode_utf8_all (take i xs) ++ l)) (sym (append-nil (encode_utf8 c)))
    ∙ ap (λ (l : List ℕ). none ++ l) (sym (encodes-append (take i xs) (c ∷ [])))
    ∙ ap (λ (l : List ℕ). none ++ encode_utf8_all l) (sym taken)
