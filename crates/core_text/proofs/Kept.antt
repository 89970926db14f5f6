-- What is written is read again.
use Rattle.std.proofs.Common.{◌≡◌, ℕ, ◌+◌, ◌^◌, ◌<◌, ◌≤◌, ◌&&◌, nat_le, Bool, true, IsUtf8, List, [], ◌∷◌, ◌++◌, All, length, decimal, codes, refl, sym, ◌∙◌, ap, append-nil, arith}
use Rattle.std.specs.Char.{IsScalar, is_ascii_alphabetic}
use Rattle.std.specs.List.{list_all}
use Rattle.std.specs.Str.{IsAscii}
use Rattle.std.proofs.lemmas.Str.Ascii.{IsAscii-from_all}
use Rattle.std.proofs.lemmas.Bool.{and_from, and_parts, leb-true, le-leb}
use Rattle.std.proofs.lemmas.Bool.Decides.{nat_tests}
use Rattle.std.proofs.lemmas.Fmt.{IsAscii-decimal}
use Rattle.std.proofs.lemmas.List.Elements.{All-cons}
use Rattle.std.proofs.lemmas.Option.{slice_get_within}
use Rattle.std.proofs.lemmas.Str.{IsUtf8-append, IsUtf8-from_ascii, IsUtf8-from_is_utf8, IsUtf8-nil, encodes-IsAscii}
use Rattle.unicode_ident.specs.Ident.{is_xid_start, is_xid_continue}
use Rattle.unicode_ident.proofs.IdentLemmas.{is_xid_start-ascii, is_xid_start-is_xid_continue}
use Rattle.hol_terms.proofs.Naming.{scalars_of_text}
use Rattle.hol_terms.specs.Terms.{SimpleType, base_type, function_type, Constant, negation, conjunction, disjunction, implication, truth, falsehood, forall, exists, Term, free, bound, constant, application, abstraction}
use Rattle.hol_terms.specs.Typing.{Typed}
use Rattle.core_text.specs.Tokens.{tokens}
use Rattle.core_text.specs.Words.{is_word}
use Rattle.core_text.specs.Forms.{Form, word_form, number_form, list_form, Forms, no_forms, more_forms, IsTextOf, IsWellSpelled, AreWellSpelled, nesting, spelling}
use Rattle.core_text.specs.CoreForms.{ConstantHasLetters, HasLetters, HasNames, IsFormOfTerm, IsFormOfType, constant_form, term_form, type_form}
use Rattle.core_text.specs.Written.{written, written_members, written_others}
use Rattle.core_text.proofs.NameLaws.{is_word-encoded}
use Rattle.core_text.proofs.Table.{same_term, same_type}
use Rattle.core_text.proofs.Texts.{one_form}
use Rattle.core_text.proofs.Writing.{form_spells, tokens-written}

-- all of one byte, and of none
none_left : (P : ℕ → Type 0) → All P []
none_left P = λ k d e. absurd (omega arith)

ascii_utf8 : (b : ℕ) → b < 128 → IsUtf8 (b ∷ [])
ascii_utf8 b h = IsUtf8-from_ascii (b ∷ []) (IsAscii-from_all (b ∷ []) (All-cons (λ b. b < 128) b [] h (none_left (λ b. b < 128))))

mutual
  utf8_written : (f : Form) → IsWellSpelled f → IsUtf8 (written f)
  utf8_written (word_form w) h = IsUtf8-from_is_utf8 w (and_parts _ _ h).0
  utf8_written (number_form n) h = IsUtf8-from_ascii (decimal n) (IsAscii-decimal n h)
  utf8_written (list_form fs) h =
      IsUtf8-append (40 ∷ []) (written_members fs ++ 41 ∷ []) (ascii_utf8 40 (omega arith))
      (IsUtf8-append (written_members fs) (41 ∷ []) (utf8_members fs h) (ascii_utf8 41 (omega arith)))

  utf8_members : (fs : Forms) → AreWellSpelled fs → IsUtf8 (written_members fs)
  utf8_members no_forms h = IsUtf8-nil
  utf8_members (more_forms f fs) h = IsUtf8-append (written f) (written_others fs) (utf8_written f h.0) (utf8_others fs h.1)

  utf8_others : (fs : Forms) → AreWellSpelled fs → IsUtf8 (written_others fs)
  utf8_others no_forms h = IsUtf8-nil
  utf8_others (more_forms f fs) h =
      IsUtf8-append (32 ∷ written f) (written_others fs) (IsUtf8-append (32 ∷ []) (written f) (ascii_utf8 32 (omega arith)) (utf8_written f h.0)) (utf8_others fs h.1)

-- LF after a form is no token
pub tokens-line : (f : Form) → IsWellSpelled f → tokens (written f ++ 10 ∷ []) ≡ spelling f
tokens-line f h = let t = form_spells f h (10 ∷ []) 0 refl in t.1 ∙ append-nil (spelling f)

pub written_text : (f : Form) → IsWellSpelled f → nesting f ≤ 5000 → IsTextOf (written f) f × IsTextOf (written f ++ 10 ∷ []) f
written_text f h low = (
  record { utf8 = utf8_written f h; spelled = tokens-written f h; words = h; depth = low },
  record { utf8 = IsUtf8-append (written f) (10 ∷ []) (utf8_written f h) (ascii_utf8 10 (omega arith)); spelled = tokens-line f h; words = h; depth = low },
)

-- words of capital letters
abbrev pub is_capital : ℕ → Bool
is_capital l = nat_le 65 l && nat_le l 90

capital_range : (l : ℕ) → is_capital l ≡ true → (65 ≤ l) × (l ≤ 90)
capital_range l h = let parts = and_parts _ _ h in (leb-true 65 l parts.0, leb-true l 90 parts.1)

all_capitals : (P : ℕ → Type 0) → ((l : ℕ) → 65 ≤ l → l ≤ 90 → P l) → (ls : List ℕ) → list_all is_capital ls ≡ true → All P ls
all_capitals P f [] h = none_left P
all_capitals P f (l ∷ ls) h =
    let parts = and_parts _ _ h in
    let range = capital_range l parts.0 in
    All-cons P l ls (f l range.0 range.1) (all_capitals P f ls parts.1)

capital_alphabetic : (l : ℕ) → 65 ≤ l → l ≤ 90 → is_ascii_alphabetic l ≡ true
capital_alphabetic l low high = grind (arith, nat_tests)

capital_starts : (l : ℕ) → 65 ≤ l → l ≤ 90 → is_xid_start l ≡ true
capital_starts l low high = is_xid_start-ascii l (omega arith) ∙ capital_alphabetic l low high

capital_continues : (l : ℕ) → 65 ≤ l → l ≤ 90 → is_xid_continue l ≡ true
capital_continues l low high = is_xid_start-is_xid_continue l (capital_starts l low high)

capital_word : (l : ℕ) (ls : List ℕ) → list_all is_capital (l ∷ ls) ≡ true → length (l ∷ ls) ≤ 64 → is_word (l ∷ ls) ≡ true
capital_word l ls h short =
    let parts = and_parts _ _ h in
    let range = capital_range l parts.0 in
    let ascii : IsAscii (l ∷ ls) = IsAscii-from_all (l ∷ ls) (all_capitals (λ b. b < 128) (λ b low high. omega arith) (l ∷ ls) h) in
    let scalars : All IsScalar (l ∷ ls) = scalars_of_text (l ∷ ls) (l ∷ ls) (IsUtf8-from_ascii (l ∷ ls) ascii) (encodes-IsAscii (l ∷ ls) ascii) in
    let continues = all_capitals (λ c. is_xid_continue c ≡ true) capital_continues ls parts.1 in
    ap is_word (sym (encodes-IsAscii (l ∷ ls) ascii)) ∙ is_word-encoded (l ∷ ls) (scalars, short, (capital_starts l range.0 range.1, continues))

letter_word : (l : ℕ) → 65 ≤ l → l ≤ 90 → is_word (l ∷ []) ≡ true
letter_word l low high = capital_word l [] (and_from _ _ (and_from _ _ (le-leb 65 l low) (le-leb l 90 high)) refl) (omega arith)

pub keyword : (l : ℕ) (ls : List ℕ) → list_all is_capital (l ∷ ls) ≡ true → nat_le (length (l ∷ ls)) 64 ≡ true → is_word (l ∷ ls) ≡ true
keyword l ls h short = capital_word l ls h (leb-true (length (l ∷ ls)) 64 short)

type_spelled_well : (s : SimpleType) → HasLetters s → IsWellSpelled (type_form s)
type_spelled_well (base_type l) h = letter_word l h.0 h.1
type_spelled_well (function_type r s) h = (type_spelled_well r h.0, (type_spelled_well s h.1, tt))

constant_spelled_well : (c : Constant) → ConstantHasLetters c → IsWellSpelled (constant_form c)
constant_spelled_well negation h = keyword 78 (codes "OT") refl refl
constant_spelled_well conjunction h = keyword 65 (codes "ND") refl refl
constant_spelled_well disjunction h = keyword 79 (codes "R") refl refl
constant_spelled_well implication h = keyword 73 (codes "MPLIES") refl refl
constant_spelled_well truth h = keyword 84 (codes "RUTH") refl refl
constant_spelled_well falsehood h = keyword 70 (codes "ALSEHOOD") refl refl
constant_spelled_well (forall s) h = (keyword 65 (codes "LL") refl refl, (type_spelled_well s h, tt))
constant_spelled_well (exists s) h = (keyword 83 (codes "OME") refl refl, (type_spelled_well s h, tt))

-- a typed term's indices are below the nesting of its form
pub term_spelled_well : (k : ℕ) (types : List SimpleType) (t : Term) (s : SimpleType) → k ≤ 2 ^ 64 → HasNames t → Typed types t s → length types + nesting (term_form t) ≤ k → IsWellSpelled (term_form t)
term_spelled_well k types (free name r) s most names h low = (keyword 86 [] refl refl, (is_word-encoded name names.0.0, (type_spelled_well r names.1, tt)))
term_spelled_well k types (bound i) s most names h low = let within : i < length types = slice_get_within types i s h in (keyword 66 [] refl refl, (omega arith, tt))
term_spelled_well k types (constant c) s most names h low = constant_spelled_well c names
term_spelled_well k types (application f a) s most names h low =
    (keyword 65 [] refl refl, (term_spelled_well k types f (function_type s h.0) most names.0 h.1 (omega arith), (term_spelled_well k types a h.0 most names.1 h.2 (omega arith), tt)))
term_spelled_well k types (abstraction r b) s most names h low =
    let more : length (r ∷ types) ≡ length types + 1 = omega arith in
    (keyword 76 [] refl refl, (type_spelled_well r names.0, (term_spelled_well k (r ∷ types) b h.0 most names.1 h.1 (omega arith), tt)))

pub typed_spelled : (t : Term) (s : SimpleType) → HasNames t → Typed [] t s → nesting (term_form t) ≤ 5000 → IsWellSpelled (term_form t)
typed_spelled t s names h low = term_spelled_well 5000 [] t s (omega arith) names h (omega arith)

pub type_read_again : (s : SimpleType) → HasLetters s → nesting (type_form s) ≤ 5000
    → IsTextOf (written (type_form s)) (type_form s) × ((f : Form) (t : SimpleType) → IsTextOf (written (type_form s)) f → IsFormOfType f t → t ≡ s)
type_read_again s h low =
    let text = (written_text (type_form s) (type_spelled_well s h) low).0 in
    (text, λ f t other is. same_type f t s is (one_form (written (type_form s)) f (type_form s) other text, h))

pub term_read_again : (t : Term) (s : SimpleType) → HasNames t → Typed [] t s → nesting (term_form t) ≤ 5000
    → IsTextOf (written (term_form t)) (term_form t) × ((f : Form) (u : Term) → IsTextOf (written (term_form t)) f → IsFormOfTerm f u → u ≡ t)
term_read_again t s names h low =
    let text = (written_text (term_form t) (typed_spelled t s names h low) low).0 in
    (text, λ f u other is. same_term f u t is (one_form (written (term_form t)) f (term_form t) other text, names))
