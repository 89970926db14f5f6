-- Words and numerals differ.
use Rattle.std.proofs.Common.{◌≡◌, ℕ, ◌<◌, ◌≤◌, ◌^◌, true, false, List, [], ◌∷◌, length, get_or, decimal, sym, ◌∙◌, ap, arith}
use Rattle.std.specs.Char.{is_ascii_alphabetic}
use Rattle.std.proofs.lemmas.Str.{chars-IsAscii}
use Rattle.std.proofs.lemmas.Str.Parse.{digit_at}
use Rattle.std.proofs.lemmas.Fmt.{IsAscii-decimal, decimal_is_IsNumeral}
use Rattle.std.proofs.lemmas.Bool.{and_parts, false≢true}
use Rattle.std.proofs.lemmas.Bool.Decides.{nat_tests}
use Rattle.unicode_ident.proofs.IdentLemmas.{is_xid_start-ascii}
use Rattle.core_text.specs.Words.{is_word, starts_identifier}

no_letter : (c : ℕ) → 48 ≤ c → c ≤ 57 → is_ascii_alphabetic c ≡ false
no_letter c low high = grind (arith, nat_tests)

-- no digit starts an identifier
digit_starts : (w : List ℕ) → 0 < length w → 48 ≤ get_or w 0 0 → get_or w 0 0 ≤ 57 → starts_identifier w ≡ true → ⊥
digit_starts [] some low high h = omega arith
digit_starts (c ∷ cs) some low high h = false≢true (sym (no_letter c low high) ∙ sym (is_xid_start-ascii c (omega arith)) ∙ h)

-- a numeral is no word
pub word_is_no_numeral : (n : ℕ) → n < 2 ^ 64 → is_word (decimal n) ≡ true → ⊥
word_is_no_numeral n small h =
    let digits = (decimal_is_IsNumeral n small).0 in
    let first = digit_at (decimal n) 0 digits.1 digits.0 in
    let starts = (and_parts _ _ (and_parts _ _ (and_parts _ _ h).1).1).0 in
    digit_starts (decimal n) digits.0 first.0 first.1 (sym (ap starts_identifier (chars-IsAscii (decimal n) (IsAscii-decimal n small))) ∙ starts)
