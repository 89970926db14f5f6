-- A text that a form spells, within the limits, has no fault.
use Rattle.std.proofs.Common.{◌≡◌, ℕ, ◌+◌, ◌-◌, ◌<◌, ◌≤◌, ◌==◌, ◌&&◌, not, max, nat_le, Bool, true, false, if◌then◌else◌, List, [], ◌∷◌, ◌++◌, map, Option, Some, None, is_none, decimal, refl, sym, ◌∙◌, ap, arith, append_assoc, inl, inr}
use Rattle.std.proofs.lemmas.Bool.{eqb-true, leb-true, le-leb, lt-leb, ne_eqb, or_left, or_right, cases_Bool, cases_order, eqb-false, leb-false}
use Rattle.core_text.specs.Tokens.{Token, opening, closing, word, Piece, piece, token}
use Rattle.core_text.specs.Words.{is_good, is_numeral, is_word}
use Rattle.core_text.specs.Forms.{Form, word_form, number_form, list_form, Forms, no_forms, more_forms, spelling, spelling_of_all, nesting, nesting_of_all, IsWellSpelled, AreWellSpelled}
use Rattle.core_text.specs.Faults.{cause, first_fault, or_else}
use Rattle.core_text.specs.declared.faults.TextFault.TheVariants.{BadToken, Unbalanced, TooDeep, Trailing}
use Rattle.core_text.proofs.Numerals.{is_numeral-decimal}

-- the tokens have no fault, where this many brackets are open and something stands before them (started) or not
abbrev pub balanced : ℕ → Bool → List Token → Bool
balanced d s [] = s && d == 0
balanced d s (word w ∷ ts) = (is_good w && not (s && d == 0)) && balanced d true ts
balanced d s (opening ∷ ts) = (not (s && d == 0) && not (d == 5000)) && balanced (d + 1) true ts
balanced d s (closing ∷ ts) = not (d == 0) && balanced (d - 1) true ts

none-or_else : {A : Type 0} (x y : Option A) → is_none (or_else x y) ≡ (is_none x && is_none y)
none-or_else (Some a) y = refl
none-or_else None y = refl

word_cause : (g t : Bool) (k : ℕ) → is_none (if g then (if t then Some (Trailing k) else None) else Some (BadToken k)) ≡ (g && not t)
word_cause true true k = refl
word_cause true false k = refl
word_cause false t k = refl

opening_cause : (t u : Bool) (k : ℕ) → is_none (if t then Some (Trailing k) else (if u then Some (TooDeep k) else None)) ≡ (not t && not u)
opening_cause true u k = refl
opening_cause false true k = refl
opening_cause false false k = refl

closing_cause : (t : Bool) (k : ℕ) → is_none (if t then Some (Unbalanced k) else None) ≡ not t
closing_cause true k = refl
closing_cause false k = refl

last_cause : (t : Bool) (k : ℕ) → is_none (if t then None else Some (Unbalanced k)) ≡ t
last_cause true k = refl
last_cause false k = refl

pub none-first_fault : (d : ℕ) (s : Bool) (ps : List Piece) (last : ℕ) → is_none (first_fault d s ps last) ≡ balanced d s (map token ps)
none-first_fault d s [] last = last_cause (s && d == 0) last
none-first_fault d s (piece (word w) k ∷ ps) last = none-or_else (cause d s (piece (word w) k)) (first_fault d true ps last) ∙ rw (word_cause (is_good w) (s && d == 0) k, none-first_fault d true ps last) refl
none-first_fault d s (piece opening k ∷ ps) last = none-or_else (cause d s (piece opening k)) (first_fault (d + 1) true ps last) ∙ rw (opening_cause (s && d == 0) (d == 5000) k, none-first_fault (d + 1) true ps last) refl
none-first_fault d s (piece closing k ∷ ps) last = none-or_else (cause d s (piece closing k)) (first_fault (d - 1) true ps last) ∙ rw (closing_cause (d == 0) k, none-first_fault (d - 1) true ps last) refl

le-max : (d a b k : ℕ) → nat_le (d + max a b) k ≡ (nat_le (d + a) k && nat_le (d + b) k)
le-max d a b k =
    elim (cases_Bool (nat_le (d + a) k)) [
      | inl p ↦ elim (cases_Bool (nat_le (d + b) k)) [
        | inl q ↦ rw (p, q) (le-leb (d + max a b) k (omega (arith, leb-true (d + a) k p, leb-true (d + b) k q)))
        | inr q ↦ rw (p, q) (lt-leb (d + max a b) k (omega (arith, leb-false (d + b) k q)))
      ]
      | inr p ↦ rw p (lt-leb (d + max a b) k (omega (arith, leb-false (d + a) k p)))
    ]

and_assoc : (a b c : Bool) → ((a && b) && c) ≡ (a && (b && c))
and_assoc true b c = refl
and_assoc false b c = refl

less : (a b : ℕ) → a ≤ b → (a ≡ b → ⊥) → a < b
less a b low other = elim (cases_order a b) [ inl e ↦ absurd (other e) | inr h ↦ elim h [ inl k ↦ k | inr k ↦ absurd (omega arith) ] ]

open_test : (d : ℕ) → 0 < d → (true && d == 0) ≡ false
open_test d h = ne_eqb d 0 (λ e. omega arith)

mutual
  -- the tokens of a form take the depth up and back
  pub balanced-spelling : (f : Form) (d : ℕ) (s : Bool) (ts : List Token) → IsWellSpelled f → (s && d == 0) ≡ false → d ≤ 5000 → balanced d s (spelling f ++ ts) ≡ (nat_le (d + nesting f) 5000 && balanced d true ts)
  balanced-spelling (word_form w) d s ts p h low = rw (or_right (is_numeral w) (is_word w) p, h, le-leb (d + 0) 5000 (omega arith)) refl
  balanced-spelling (number_form n) d s ts p h low = rw (or_left (is_numeral (decimal n)) (is_word (decimal n)) (is_numeral-decimal n p), h, le-leb (d + 0) 5000 (omega arith)) refl
  balanced-spelling (list_form fs) d s ts p h low =
      elim (cases_Bool (d == 5000)) [
        | inl e ↦ rw (h, e, lt-leb (d + (nesting_of_all fs + 1)) 5000 (omega (arith, eqb-true d 5000 e))) refl
        | inr e ↦
            let below : d < 5000 = less d 5000 low (eqb-false d 5000 e) in
            let back : d + 1 - 1 ≡ d = omega arith in
            let deeper : d + 1 + nesting_of_all fs ≡ d + (nesting_of_all fs + 1) = omega arith in
            rw (h, e, append_assoc (spelling_of_all fs) (closing ∷ []) ts)
            (balanced-spelling_of_all fs (d + 1) (closing ∷ ts) p (omega arith) (omega arith)
            ∙ rw (ne_eqb (d + 1) 0 (λ z. omega arith), back, deeper) refl)
      ]

  balanced-spelling_of_all : (fs : Forms) (d : ℕ) (ts : List Token) → AreWellSpelled fs → 0 < d → d ≤ 5000 → balanced d true (spelling_of_all fs ++ ts) ≡ (nat_le (d + nesting_of_all fs) 5000 && balanced d true ts)
  balanced-spelling_of_all no_forms d ts p some low = rw (le-leb (d + 0) 5000 (omega arith)) refl
  balanced-spelling_of_all (more_forms f fs) d ts p some low =
      ap (balanced d true) (append_assoc (spelling f) (spelling_of_all fs) ts)
      ∙ balanced-spelling f d true (spelling_of_all fs ++ ts) p.0 (open_test d some) low
      ∙ ap (λ b. nat_le (d + nesting f) 5000 && b) (balanced-spelling_of_all fs d ts p.1 some low)
      ∙ sym (and_assoc (nat_le (d + nesting f) 5000) (nat_le (d + nesting_of_all fs) 5000) (balanced d true ts))
      ∙ ap (λ b. b && balanced d true ts) (sym (le-max d (nesting f) (nesting_of_all fs) 5000))
