-- When a path holds a pair.
use Rattle.std.proofs.Common.{◌≡◌, ℕ, ◌==◌, List, [], ◌∷◌, ◌++◌, take, drop, Bool, true, false, not, ◌&&◌, ◌||◌, cond, Option, Some, None, IsNone, is_some, ◌↔◌, suc, arith, refl, sym, ◌∙◌, ap, inl, inr}
use Rattle.std.specs.List.{list_any}
use Rattle.std.specs.Option.{option_or}
use Rattle.std.proofs.lemmas.List.{append-nil, take-append-drop}
use Rattle.std.proofs.lemmas.List.Folds.{find-append, list_any-append}
use Rattle.std.proofs.lemmas.List.Elements.{All-nil, All-cons}
use Rattle.std.proofs.lemmas.Bool.{eq-eqb, ne_eqb}
use Rattle.std.proofs.lemmas.Bool.Decides.{eqb_tells}
use Rattle.vertical_paths.specs.Matings.{is_on, is_closed, Spans, first_open}
use Rattle.vertical_paths.specs.Partners.{partners, partners_in}
use Rattle.expansion_tree.specs.Matrices.{joined}
use Rattle.vertical_paths.specs.Walks.{behind}
use Rattle.vertical_paths.proofs.Joined.{behind-leaf}

-- what is on a path stays on it
is_on-more : (path more : List ℕ) (n : ℕ) → is_on path n ≡ true → is_on (path ++ more) n ≡ true
is_on-more path more n h = list_any-append (λ k. k == n) path more ∙ ap (λ b. b || is_on more n) h

both_true : (a b c d : Bool) → (a ≡ true → c ≡ true) → (b ≡ true → d ≡ true) → (a && b) ≡ true → (c && d) ≡ true
both_true true true c d f g h = rw (f refl, g refl) refl
both_true true false c d f g h = cc
both_true false b c d f g h = cc

either_true : (a b c d : Bool) → (a ≡ true → c ≡ true) → (b ≡ true → d ≡ true) → (a || b) ≡ true → (c || d) ≡ true
either_true true b c d f g h = rw (f refl) refl
either_true false b true d f g h = refl
either_true false b false d f g h = g h

-- a closed path stays closed
is_closed-more : (pairs : List (ℕ × ℕ)) (path more : List ℕ) → is_closed pairs path ≡ true → is_closed pairs (path ++ more) ≡ true
is_closed-more [] path more h = h
is_closed-more (pair ∷ pairs) path more h =
    either_true _ _ _ _ (both_true _ _ _ _ (is_on-more path more pair.0) (is_on-more path more pair.1)) (is_closed-more pairs path more) h

-- a front of an open path is open
pub is_closed-take : (pairs : List (ℕ × ℕ)) (path : List ℕ) (k : ℕ) → is_closed pairs path ≡ false → is_closed pairs (take k path) ≡ false
is_closed-take pairs path k h = go (is_closed pairs (take k path)) refl
  where
    go : (b : Bool) → is_closed pairs (take k path) ≡ b → is_closed pairs (take k path) ≡ false
    go false e = e
    go true e = (let all = ap (is_closed pairs) (take-append-drop k path) in let closed = is_closed-more pairs (take k path) (drop k path) e in cc)

-- after a closed prefix no path is open
pub none_open : (pairs : List (ℕ × ℕ)) (prefix : List ℕ) (ps : List (List ℕ)) → is_closed pairs prefix ≡ true → first_open pairs (behind prefix ps) ≡ None
none_open pairs prefix [] h = refl
none_open pairs prefix (p ∷ ps) h = rw (is_closed-more pairs prefix p h) (none_open pairs prefix ps h)

pub first_open-append : (pairs : List (ℕ × ℕ)) (ps qs : List (List ℕ)) → first_open pairs (ps ++ qs) ≡ option_or (first_open pairs ps) (first_open pairs qs)
first_open-append pairs ps qs = find-append (λ path. not (is_closed pairs path)) ps qs

-- none is open exactly where the mating spans
pub spans-from_none : (pairs : List (ℕ × ℕ)) (ps : List (List ℕ)) → first_open pairs ps ≡ None → Spans pairs ps
spans-from_none pairs [] h = All-nil (λ path. is_closed pairs path ≡ true)
spans-from_none pairs (p ∷ ps) h = go (is_closed pairs p) refl h (spans-from_none pairs ps)
  where
    go : (b : Bool) → is_closed pairs p ≡ b → cond (not b) (Some p) (first_open pairs ps) ≡ None → (first_open pairs ps ≡ None → Spans pairs ps) → Spans pairs (p ∷ ps)
    go true e h rest = All-cons (λ path. is_closed pairs path ≡ true) p ps e (rest h)
    go false e h rest = cc

-- the empty path is open
pub empty_open : (pairs : List (ℕ × ℕ)) → is_closed pairs [] ≡ false
empty_open [] = refl
empty_open (pair ∷ pairs) = empty_open pairs

is_on-push : (path : List ℕ) (n k : ℕ) → is_on (path ++ n ∷ []) k ≡ (is_on path k || ((n == k) || false))
is_on-push path n k = list_any-append (λ m. m == k) path (n ∷ [])

eqb-swapped : (a b : ℕ) → (a == b) ≡ (b == a)
eqb-swapped a b = elim (eqb_tells a b) [
  | inl t ↦ t.0 ∙ sym (eq-eqb b a (sym t.1))
  | inr t ↦ t.0 ∙ sym (ne_eqb b a (λ h. t.1 (sym h)))
]

-- a leaf that is new on the path, or on it already
abbrev meets : List ℕ → ℕ → ℕ → Bool
meets path n partner = (partner == n) || is_on path partner

list_any-if : (p : ℕ → Bool) (b : Bool) (x : ℕ) → list_any p (cond b (x ∷ []) []) ≡ (b && p x)
list_any-if p true x = go (p x)
  where
    go : (b : Bool) → (b || false) ≡ b
    go true = refl
    go false = refl
list_any-if p false x = refl

one_more : (a b x y : Bool) → (a && b) ≡ false → ((a || (x || false)) && (b || (y || false))) ≡ ((x && (y || b)) || (y && (x || a)))
one_more true true x y h = cc
one_more true false true true h = refl
one_more true false true false h = refl
one_more true false false true h = refl
one_more true false false false h = refl
one_more false true true true h = refl
one_more false true true false h = refl
one_more false true false true h = refl
one_more false true false false h = refl
one_more false false true true h = refl
one_more false false true false h = refl
one_more false false false true h = refl
one_more false false false false h = refl

none_of : (a b : Bool) → (a || b) ≡ false → (a ≡ false) × (b ≡ false)
none_of true b h = cc
none_of false b h = (refl, h)

closes_with : (path : List ℕ) (n : ℕ) (pair : ℕ × ℕ) → (is_on path pair.0 && is_on path pair.1) ≡ false → (is_on (path ++ n ∷ []) pair.0 && is_on (path ++ n ∷ []) pair.1) ≡ list_any (meets path n) (partners_in pair n)
closes_with path n pair h =
    let first = is_on-push path n pair.0 in
    let second = is_on-push path n pair.1 in
    let one = list_any-if (meets path n) (pair.0 == n) pair.1 in
    let other = list_any-if (meets path n) (pair.1 == n) pair.0 in
    let both = list_any-append (meets path n) (cond (pair.0 == n) (pair.1 ∷ []) []) (cond (pair.1 == n) (pair.0 ∷ []) []) in
    rw (first, second, both, one, other, eqb-swapped n pair.0, eqb-swapped n pair.1) (one_more (is_on path pair.0) (is_on path pair.1) (pair.0 == n) (pair.1 == n) h)

-- a path that was open is closed by a leaf exactly where one of the leaf's partners is the leaf itself or on the path
pub is_closed-push : (pairs : List (ℕ × ℕ)) (path : List ℕ) (n : ℕ) → is_closed pairs path ≡ false → is_closed pairs (path ++ n ∷ []) ≡ list_any (λ partner. (partner == n) || is_on path partner) (partners pairs n)
is_closed-push [] path n h = refl
is_closed-push (pair ∷ pairs) path n h =
    let open_both = none_of (is_on path pair.0 && is_on path pair.1) (is_closed pairs path) h in
    let here = closes_with path n pair open_both.0 in
    let later = is_closed-push pairs path n open_both.1 in
    rw (here, later) (sym (list_any-append (meets path n) (partners_in pair n) (partners pairs n)))

-- a leaf that closes the prefix leaves no path open but the others
pub leaf_stops : (pairs : List (ℕ × ℕ)) (prefix : List ℕ) (leaf : ℕ) (rest others : List (List ℕ)) → is_closed pairs prefix ≡ false → list_any (λ partner. (partner == leaf) || is_on prefix partner) (partners pairs leaf) ≡ true → first_open pairs (behind prefix (joined ((leaf ∷ []) ∷ []) rest) ++ others) ≡ first_open pairs others
leaf_stops pairs prefix leaf rest others h met =
    let closed = is_closed-push pairs prefix leaf h ∙ met in
    first_open-append pairs (behind prefix (joined ((leaf ∷ []) ∷ []) rest)) others
    ∙ ap (λ o. option_or o (first_open pairs others)) (ap (first_open pairs) (behind-leaf prefix leaf rest) ∙ none_open pairs (prefix ++ leaf ∷ []) rest closed)

-- at the end of the path the prefix is the first open path
pub end_is_open : (pairs : List (ℕ × ℕ)) (prefix : List ℕ) (others : List (List ℕ)) → is_closed pairs prefix ≡ false → first_open pairs (behind prefix ([] ∷ []) ++ others) ≡ Some prefix
end_is_open pairs prefix others h = rw (append-nil, h) refl

pub none_from_spans : (pairs : List (ℕ × ℕ)) (ps : List (List ℕ)) → Spans pairs ps → first_open pairs ps ≡ None
none_from_spans pairs [] h = refl
none_from_spans pairs (p ∷ ps) h =
    let closed : is_closed pairs p ≡ true = h 0 p (omega arith) in
    let rest : Spans pairs ps = λ k d less. h (suc k) d (omega (arith, less)) in
    rw closed (none_from_spans pairs ps rest)

-- none is open exactly where the mating spans
pub none_open_iff_spans : (pairs : List (ℕ × ℕ)) (ps : List (List ℕ)) → IsNone (first_open pairs ps) ↔ Spans pairs ps
none_open_iff_spans pairs ps = (λ none. spans-from_none pairs ps (none_is (first_open pairs ps) none), λ spans. ap is_some (none_from_spans pairs ps spans))
  where
    none_is : (o : Option (List ℕ)) → IsNone o → o ≡ None
    none_is None h = refl
    none_is (Some x) h = cc
