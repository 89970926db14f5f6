-- Which words may stand in a text.
use Rattle.std.specs.Prelude.{ℕ, ◌^◌, ◌==◌, ◌||◌, ◌&&◌, not, codes, nat_eq, nat_le, nat_lt, Bool, false, if◌then◌else◌, List, [], ◌∷◌, length, Option, None, Some}
use Rattle.std.specs.Char.{is_ascii_digit}
use Rattle.std.specs.Cmp.Lexicographic.{pointwise}
use Rattle.std.specs.List.{list_all}
use Rattle.std.specs.Str.{chars, is_utf8}
use Rattle.std.specs.Str.Parse.{digits_value}
use Rattle.unicode_ident.specs.Ident.{is_xid_start, is_xid_continue}

-- a 0 with more after it
abbrev pub has_leading_zero : List ℕ → Bool
has_leading_zero [] = false
has_leading_zero (d ∷ []) = false
has_leading_zero (d ∷ e ∷ ds) = d == 48

-- 0, or a digit from 1 to 9 followed by digits, of a value that 64 bits hold
abbrev pub is_numeral : List ℕ → Bool
is_numeral bytes = not (length bytes == 0) && (list_all is_ascii_digit bytes && (not (has_leading_zero bytes) && nat_lt (digits_value 10 bytes) (2 ^ 64)))

-- the number that a numeral spells
abbrev pub numeral_of : List ℕ → Option ℕ
numeral_of bytes = if is_numeral bytes then Some (digits_value 10 bytes) else None

-- the first character may start an identifier, by Unicode Standard Annex 31
abbrev pub starts_identifier : List ℕ → Bool
starts_identifier [] = false
starts_identifier (c ∷ cs) = is_xid_start c

-- and the others may continue one; what may start one may continue one
abbrev pub is_identifier : List ℕ → Bool
is_identifier cs = starts_identifier cs && list_all is_xid_continue cs

-- 1 to 64 characters that start and continue an identifier, in UTF-8
abbrev pub is_word : List ℕ → Bool
is_word bytes = is_utf8 bytes && (nat_le (length (chars bytes)) 64 && is_identifier (chars bytes))

-- a word that may stand in a text
abbrev pub is_good : List ℕ → Bool
is_good bytes = is_numeral bytes || is_word bytes

abbrev pub same_bytes : List ℕ → List ℕ → Bool
same_bytes v w = pointwise nat_eq v w

-- the words that name a connective, a constant or a binder
abbrev pub is_reserved : List ℕ → Bool
is_reserved w =
    same_bytes w (codes "AND") || (same_bytes w (codes "OR") || (same_bytes w (codes "IMPLIES") || (same_bytes w (codes "EQUIV") || (same_bytes w (codes "TRUTH")
    || (same_bytes w (codes "FALSEHOOD") || (same_bytes w (codes "FORALL") || (same_bytes w (codes "EXISTS") || same_bytes w (codes "LAMBDA"))))))))

-- a word that isn't reserved; no word begins with _
abbrev pub is_name : List ℕ → Bool
is_name w = is_word w && not (is_reserved w)

-- one letter from A to Z
abbrev pub is_letter : List ℕ → Bool
is_letter [] = false
is_letter (b ∷ []) = nat_le 65 b && nat_le b 90
is_letter (b ∷ c ∷ bs) = false
