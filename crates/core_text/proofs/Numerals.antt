-- Numerals and the numbers that they spell.
use Rattle.std.proofs.Common.{◌≡◌, ℕ, ◌<◌, ◌^◌, ◌==◌, not, nat_lt, ◌≤◌, Bool, true, false, if◌then◌else◌, List, [], ◌∷◌, length, get_or, Option, Some, None, Result, Ok, Err, decimal, IsUtf8, refl, ◌∙◌, ap, arith, rules, inl, inr}
use Rattle.std.specs.Char.{is_ascii_digit}
use Rattle.std.specs.List.{list_all}
use Rattle.std.specs.Result.{OkIff, result_ok}
use Rattle.std.specs.Str.Parse.{ParsesUnsigned, digits_value}
use Rattle.std.proofs.lemmas.Str.{IsUtf8-from_ascii}
use Rattle.std.proofs.lemmas.Str.Parse.{IsNumeralModel, numerals_by_value, parse_digits}
use Rattle.std.proofs.lemmas.Fmt.{IsAscii-from_digits, decimal-digits_value, decimal_is_IsNumeral, first_decimal, decimal_digit}
use Rattle.std.proofs.lemmas.Bool.{and_from, and_parts, cases_lt, eqb-false, le-ltb, lt-ltb, ltb-true, ne_eqb, not-true}
use Rattle.core_text.specs.Words.{has_leading_zero, is_numeral, numeral_of}

-- the tests of digits are those of the library
own : IsNumeralModel (λ ds. list_all is_ascii_digit ds ≡ true) (digits_value 10)
own = numerals_by_value _ (search rules)

pub IsUtf8-digits : (ds : List ℕ) → list_all is_ascii_digit ds ≡ true → IsUtf8 ds
IsUtf8-digits ds h = IsUtf8-from_ascii ds (IsAscii-from_digits ds (own.to ds h))

above : (a b : ℕ) → (a < b → ⊥) → b ≤ a
above a b h = elim (cases_lt a b) [ inl low ↦ absurd (h low) | inr high ↦ high ]

some_bytes : (w : List ℕ) → not (length w == 0) ≡ true → 0 < length w
some_bytes [] h = cc
some_bytes (d ∷ ds) h = omega arith

many_bytes : (w : List ℕ) → 0 < length w → not (length w == 0) ≡ true
many_bytes w h = rw (ne_eqb (length w) 0 (λ e. omega arith)) refl

lone_zero : (w : List ℕ) → has_leading_zero w ≡ false → get_or w 0 0 ≡ 48 → length w ≡ 1
lone_zero [] h e = cc
lone_zero (d ∷ []) h e = refl
lone_zero (d ∷ b ∷ ds) h e = absurd (eqb-false d 48 h e)

no_lead : (n : ℕ) → n < 2 ^ 64 → not (has_leading_zero (decimal n)) ≡ true
no_lead n h = elim (cases_lt 0 n) [ inl some ↦ above_zero (decimal n) (first_decimal n some h) | inr none ↦ zero n (omega arith) ]
  where
    above_zero : (w : List ℕ) → 48 < get_or w 0 0 → not (has_leading_zero w) ≡ true
    above_zero [] k = refl
    above_zero (d ∷ []) k = refl
    above_zero (d ∷ b ∷ ds) k = rw (ne_eqb d 48 (λ e. omega arith)) refl

    zero : (m : ℕ) → m ≡ 0 → not (has_leading_zero (decimal m)) ≡ true
    zero m e = rw (e, decimal_digit 0 (omega arith)) refl

-- what reading digits as a number answers
pub value_read : {E : Type 0} (ds : List ℕ) (r : Result ℕ E) (o : Option ℕ) → list_all is_ascii_digit ds ≡ true → 0 < length ds → ParsesUnsigned 64 10 ds r → o ≡ result_ok r
    → o ≡ (if nat_lt (digits_value 10 ds) (2 ^ 64) then Some (digits_value 10 ds) else None)
value_read ds r o digits some h e = go r (parse_digits own 64 ds r h digits) e
  where
    go : {E : Type 0} (r : Result ℕ E) → OkIff r ((0 < length ds) × (digits_value 10 ds < 2 ^ 64)) (digits_value 10 ds) → o ≡ result_ok r → o ≡ (if nat_lt (digits_value 10 ds) (2 ^ 64) then Some (digits_value 10 ds) else None)
    go (Ok n) h e = rw (lt-ltb (digits_value 10 ds) (2 ^ 64) h.0.1) (e ∙ ap Some h.1)
    go (Err x) h e = rw (le-ltb (digits_value 10 ds) (2 ^ 64) (above (digits_value 10 ds) (2 ^ 64) (λ low. h (some, low)))) e

-- a numeral is the decimal of its number
pub decimal-digits : (w : List ℕ) → is_numeral w ≡ true → decimal (digits_value 10 w) ≡ w
decimal-digits w h =
    let some = and_parts _ _ h in
    let digits = and_parts _ _ some.1 in
    let lead = and_parts _ _ digits.1 in
    decimal-digits_value own w digits.0 (some_bytes w some.0) (lone_zero w (not-true _ lead.0)) (ltb-true _ _ lead.1)

pub is_numeral-decimal : (n : ℕ) → n < 2 ^ 64 → is_numeral (decimal n) ≡ true
is_numeral-decimal n h =
    let read = decimal_is_IsNumeral n h in
    and_from _ _ (many_bytes (decimal n) read.0.0) (and_from _ _ (own.from (decimal n) read.0.1) (and_from _ _ (no_lead n h) (lt-ltb _ _ (rw read.1 h))))

-- what a numeral spells
pub decimal-numeral_of : (w : List ℕ) (n : ℕ) → Some n ≡ numeral_of w → decimal n ≡ w
decimal-numeral_of w n h = go (is_numeral w) refl h
  where
    go : (b : Bool) → is_numeral w ≡ b → Some n ≡ (if b then Some (digits_value 10 w) else None) → decimal n ≡ w
    go true e h = let same : n ≡ digits_value 10 w = cc in ap decimal same ∙ decimal-digits w e
    go false e h = cc
