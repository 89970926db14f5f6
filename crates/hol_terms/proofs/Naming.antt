-- What makes a text a name, and that the letter a followed by a number is one.
use Rattle.std.proofs.Common.{ℕ, zero, suc, ◌+◌, ◌^◌, ◌<◌, ◌≤◌, ◌%◌, List, [], ◌∷◌, length, All, Bool, true, false, ◌&&◌, ◌≡◌, ◌∙◌, inl, inr, refl, sym, ap, subst, decimal, codes, arith}
use Rattle.std.proofs.lemmas.Bool.Decides.{nat_tests}
use Rattle.std.specs.Prelude.{encode_utf8_all, IsTrue, slice_index}
use Rattle.std.specs.Char.{IsScalar, encode_utf8}
use Rattle.std.specs.Str.{IsAscii, IsUtf8, all_scalars}
use lib.Utf8.{scalar}
use Rattle.std.proofs.lemmas.Str.{encodes-IsAscii, encodes_same}
use Rattle.std.proofs.lemmas.Fmt.{decimal_by_steps, IsAscii-decimal, length-decimal-le}
use Rattle.std.proofs.lemmas.List.Elements.{All-nil, All-cons, All-push, All-weaker}
use Rattle.unicode_ident.specs.Ident.{is_xid_continue}
use Rattle.unicode_ident.proofs.IdentLemmas.{is_xid_start-ascii, is_xid_continue-ascii}
use Rattle.hol_terms.specs.Names.{IsName, IsReserved}

both_true : (x y : Bool) → (x && y) ≡ true → (x ≡ true) × (y ≡ true)
both_true true true e = (refl, refl)
both_true true false e = cc
both_true false y e = cc

scalar_each : (cs : List ℕ) → all_scalars cs ≡ true → All IsScalar cs
scalar_each [] h = All-nil IsScalar
scalar_each (c ∷ cs) h = let both = both_true (scalar c) (all_scalars cs) h in All-cons IsScalar c cs both.0 (scalar_each cs both.1)

-- the characters of a text are scalar values
pub scalars_of_text : (characters text : List ℕ) → IsUtf8 text → encode_utf8_all characters ≡ text → All IsScalar characters
scalars_of_text characters text utf8 e =
    subst (λ (cs : List ℕ). All IsScalar cs) (encodes_same utf8.0 characters (utf8.1.1 ∙ sym e)) (scalar_each utf8.0 utf8.1.0)

-- a reserved word has its characters for bytes
spelled : (word w : List ℕ) → encode_utf8_all word ≡ word → w ≡ word → encode_utf8_all w ≡ w
spelled word w spells e = ap encode_utf8_all e ∙ spells ∙ sym e

reserved_bytes : (w : List ℕ) → IsReserved w → encode_utf8_all w ≡ w
unfolding encode_utf8
reserved_bytes w (inl e) = spelled (codes "AND") w refl e
reserved_bytes w (inr (inl e)) = spelled (codes "OR") w refl e
reserved_bytes w (inr (inr (inl e))) = spelled (codes "IMPLIES") w refl e
reserved_bytes w (inr (inr (inr (inl e)))) = spelled (codes "EQUIV") w refl e
reserved_bytes w (inr (inr (inr (inr (inl e))))) = spelled (codes "TRUTH") w refl e
reserved_bytes w (inr (inr (inr (inr (inr (inl e)))))) = spelled (codes "FALSEHOOD") w refl e
reserved_bytes w (inr (inr (inr (inr (inr (inr (inl e))))))) = spelled (codes "FORALL") w refl e
reserved_bytes w (inr (inr (inr (inr (inr (inr (inr (inl e)))))))) = spelled (codes "EXISTS") w refl e
reserved_bytes w (inr (inr (inr (inr (inr (inr (inr (inr e)))))))) = spelled (codes "LAMBDA") w refl e

-- a word is reserved where its text is
pub reserved_text : (characters text : List ℕ) → encode_utf8_all characters ≡ text → IsReserved characters → IsReserved text
reserved_text characters text e h = subst IsReserved (sym (reserved_bytes characters h) ∙ e) h

pub reserved_characters : (characters text : List ℕ) → encode_utf8_all characters ≡ text → IsReserved text → IsReserved characters
reserved_characters characters text e h = subst IsReserved (encodes_same text characters (reserved_bytes text h ∙ sym e)) h

-- a digit from 0 to 9
abbrev IsDigit : ℕ → Type 0
IsDigit c = (48 ≤ c) × (c ≤ 57)

decimal_digits : (n : ℕ) → n < 2 ^ 64 → All IsDigit (decimal n)
decimal_digits =
    decimal_by_steps (λ n ds. All IsDigit ds)
    (λ n h. All-cons IsDigit (48 + n) [] (omega arith, omega arith) (All-nil IsDigit))
    (λ n ds h all. All-push IsDigit ds (48 + n % 10) all (omega arith, omega arith))

digit_continues : (c : ℕ) → IsDigit c → IsTrue (is_xid_continue c)
digit_continues c digit = let low : c < 128 = omega arith in is_xid_continue-ascii c low ∙ grind (arith, nat_tests)

digit_is_scalar : (c : ℕ) → IsDigit c → IsScalar c
digit_is_scalar c digit = grind (arith, nat_tests)

after_a : (ds : List ℕ) → IsAscii ds → IsAscii (97 ∷ ds)
after_a ds ascii zero = omega arith
after_a ds ascii (suc i) = ascii i

-- the characters whose bytes are those of the letter a and a number are those bytes
pub numbered_from_bytes : (characters : List ℕ) (n : ℕ) → n < 2 ^ 64 → encode_utf8_all characters ≡ 97 ∷ decimal n → characters ≡ 97 ∷ decimal n
numbered_from_bytes characters n h e =
    encodes_same characters (97 ∷ decimal n) (e ∙ sym (encodes-IsAscii (97 ∷ decimal n) (after_a (decimal n) (IsAscii-decimal n h))))

other_first : (c : ℕ) (ds es : List ℕ) → c < 97 → 97 ∷ ds ≡ c ∷ es → ⊥
other_first c ds es h e = let same : 97 ≡ c = ap (λ (l : List ℕ). slice_index l 0) e in absurd (omega arith)

not_reserved : (ds : List ℕ) → IsReserved (97 ∷ ds) → ⊥
not_reserved ds (inl e) = other_first 65 ds _ (omega arith) e
not_reserved ds (inr (inl e)) = other_first 79 ds _ (omega arith) e
not_reserved ds (inr (inr (inl e))) = other_first 73 ds _ (omega arith) e
not_reserved ds (inr (inr (inr (inl e)))) = other_first 69 ds _ (omega arith) e
not_reserved ds (inr (inr (inr (inr (inl e))))) = other_first 84 ds _ (omega arith) e
not_reserved ds (inr (inr (inr (inr (inr (inl e)))))) = other_first 70 ds _ (omega arith) e
not_reserved ds (inr (inr (inr (inr (inr (inr (inl e))))))) = other_first 70 ds _ (omega arith) e
not_reserved ds (inr (inr (inr (inr (inr (inr (inr (inl e)))))))) = other_first 69 ds _ (omega arith) e
not_reserved ds (inr (inr (inr (inr (inr (inr (inr (inr e)))))))) = other_first 76 ds _ (omega arith) e

pub numbered_is_name : (n : ℕ) → n < 2 ^ 64 → IsName (97 ∷ decimal n)
numbered_is_name n h =
    let digits = decimal_digits n h in (
      (
        All-cons IsScalar 97 (decimal n) refl (All-weaker IsDigit IsScalar digit_is_scalar (decimal n) digits),
        (let short : length (decimal n) ≤ 20 = length-decimal-le 20 n (omega arith) (omega arith) h in omega arith),
        (
          is_xid_start-ascii 97 (omega arith),
          All-weaker IsDigit (λ c. IsTrue (is_xid_continue c)) digit_continues (decimal n) digits,
        ),
      ),
      (λ e. let same : 97 ≡ 95 = e in absurd (omega arith)),
      not_reserved (decimal n),
    )
