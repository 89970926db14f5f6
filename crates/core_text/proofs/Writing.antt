-- What is written for a form is a text of it.
use Rattle.std.proofs.Common.{◌≡◌, ℕ, ◌+◌, ◌^◌, ◌<◌, ◌≤◌, ◌==◌, true, false, List, [], ◌∷◌, ◌++◌, length, get_or, map, suc, decimal, refl, sym, ◌∙◌, ap, append-nil, append_assoc, arith}
use Rattle.std.specs.Prelude.{encode_utf8_all}
use Rattle.std.specs.List.{list_all}
use Rattle.std.specs.Str.{chars}
use Rattle.std.proofs.Math.Utf8.{encode}
use Rattle.std.proofs.lemmas.Bool.{and_from, and_parts, false≢true, ne_eqb}
use Rattle.std.proofs.lemmas.Fmt.{decimal_is_IsNumeral}
use Rattle.std.proofs.lemmas.List.Folds.{list_all-append}
use Rattle.std.proofs.lemmas.Str.{IsUtf8-from_is_utf8, chars-nil, encodes-chars, inside_one}
use Rattle.std.proofs.lemmas.Str.Parse.{digit_at}
use Rattle.unicode_ident.specs.Ident.{is_xid_continue}
use Rattle.unicode_ident.proofs.IdentLemmas.{is_xid_continue-ascii}
use Rattle.core_text.specs.Tokens.{Token, opening, closing, word, token, is_in_word, pieces, tokens}
use Rattle.core_text.specs.Words.{is_word, starts_identifier}
use Rattle.core_text.specs.Forms.{Form, word_form, number_form, list_form, Forms, no_forms, more_forms, spelling, spelling_of_all, IsWellSpelled, AreWellSpelled}
use Rattle.core_text.specs.Written.{written, written_members, written_others}
use Rattle.core_text.proofs.Runs.{EndsWord, whole_word}

-- a byte that is alone in its character is not one of a character that no identifier has
other : (v c b : ℕ) → is_xid_continue v ≡ false → v < 128 → is_xid_continue c ≡ true → (b < 128 → c ≡ b) → (b == v) ≡ false
other v c b never small continues same = ne_eqb b v (λ e. false≢true (sym never ∙ ap is_xid_continue (sym (same (omega arith) ∙ e)) ∙ continues))

byte_in_word : (c b : ℕ) → is_xid_continue c ≡ true → (b < 128 → c ≡ b) → is_in_word b ≡ true
byte_in_word c b continues same =
    let space = other 32 c b (is_xid_continue-ascii 32 (omega arith)) (omega arith) continues same in
    let tab = other 9 c b (is_xid_continue-ascii 9 (omega arith)) (omega arith) continues same in
    let line_feed = other 10 c b (is_xid_continue-ascii 10 (omega arith)) (omega arith) continues same in
    let carriage = other 13 c b (is_xid_continue-ascii 13 (omega arith)) (omega arith) continues same in
    let left = other 40 c b (is_xid_continue-ascii 40 (omega arith)) (omega arith) continues same in
    let right = other 41 c b (is_xid_continue-ascii 41 (omega arith)) (omega arith) continues same in
    rw (space, tab, line_feed, carriage, left, right) refl

bytes_in_word : (c : ℕ) (bs : List ℕ) → is_xid_continue c ≡ true → ((k : ℕ) → k < length bs → get_or bs k 0 < 128 → c ≡ get_or bs k 0) → list_all is_in_word bs ≡ true
bytes_in_word c [] continues same = refl
bytes_in_word c (b ∷ bs) continues same = and_from _ _ (byte_in_word c b continues (same 0 (omega arith))) (bytes_in_word c bs continues (λ k short. same (suc k) (omega arith)))

characters_in_word : (cs : List ℕ) → list_all is_xid_continue cs ≡ true → list_all is_in_word (encode_utf8_all cs) ≡ true
characters_in_word [] h = refl
characters_in_word (c ∷ cs) h =
    let parts = and_parts _ _ h in
    list_all-append is_in_word (encode c) (encode_utf8_all cs)
    ∙ and_from _ _ (bytes_in_word c (encode c) parts.0 (λ k. inside_one c [] (encode c) k (sym (append-nil (encode c))))) (characters_in_word cs parts.1)

some_byte : (w : List ℕ) → starts_identifier (chars w) ≡ true → 0 < length w
some_byte [] h = absurd (false≢true (ap starts_identifier (sym chars-nil) ∙ h))
some_byte (b ∷ w) h = omega arith

word_bytes : (w : List ℕ) → is_word w ≡ true → (0 < length w) × (list_all is_in_word w ≡ true)
word_bytes w h =
    let parts = and_parts _ _ h in
    let back = encodes-chars w (IsUtf8-from_is_utf8 w parts.0) in
    let identifier = and_parts _ _ (and_parts _ _ parts.1).1 in
    (some_byte w identifier.0, ap (list_all is_in_word) (sym back) ∙ characters_in_word (chars w) identifier.1)

digit_in_word : (d : ℕ) → 48 ≤ d → d ≤ 57 → is_in_word d ≡ true
digit_in_word d low high =
    rw (ne_eqb d 32 (λ e. omega arith), ne_eqb d 9 (λ e. omega arith), ne_eqb d 10 (λ e. omega arith), ne_eqb d 13 (λ e. omega arith), ne_eqb d 40 (λ e. omega arith), ne_eqb d 41 (λ e. omega arith)) refl

digits_in_word : (ds : List ℕ) → ((k : ℕ) → k < length ds → (48 ≤ get_or ds k 0) × (get_or ds k 0 ≤ 57)) → list_all is_in_word ds ≡ true
digits_in_word [] h = refl
digits_in_word (d ∷ ds) h =
    let first = h 0 (omega arith) in
    and_from _ _ (digit_in_word d first.0 first.1) (digits_in_word ds (λ k short. h (suc k) (omega arith)))

number_bytes : (n : ℕ) → n < 2 ^ 64 → (0 < length (decimal n)) × (list_all is_in_word (decimal n) ≡ true)
number_bytes n small =
    let digits = (decimal_is_IsNumeral n small).0 in
    (digits.0, digits_in_word (decimal n) (λ k short. let d = digit_at (decimal n) k digits.1 short in (d.0, d.1)))

-- the bytes, before what ends a word, have these tokens
abbrev Spells : List ℕ → List Token → Type 0
Spells bytes ts = (rest : List ℕ) (place : ℕ) → EndsWord rest → (q : ℕ) × (map token (pieces place (bytes ++ rest)) ≡ ts ++ map token (pieces q rest))

word_spells : (w : List ℕ) → (0 < length w) × (list_all is_in_word w ≡ true) → Spells w (word w ∷ [])
word_spells w h = λ rest place ends. (place + length w, ap (map token) (whole_word w rest place h.0 h.1 ends))

joined : (v w : List ℕ) (ts us : List Token) → Spells v ts → Spells w us → ((rest : List ℕ) → EndsWord rest → EndsWord (w ++ rest)) → Spells (v ++ w) (ts ++ us)
joined v w ts us s t e = λ rest place ends.
    let a = s (w ++ rest) place (e rest ends) in
    let b = t rest a.0 ends in
    (b.0, ap (λ l. map token (pieces place l)) (append_assoc v w rest) ∙ a.1 ∙ ap (λ l. ts ++ l) b.1 ∙ sym (append_assoc ts us (map token (pieces b.0 rest))))

others_end : (fs : Forms) (rest : List ℕ) → EndsWord rest → EndsWord (written_others fs ++ rest)
others_end no_forms rest ends = ends
others_end (more_forms f fs) rest ends = refl

mutual
  pub form_spells : (f : Form) → IsWellSpelled f → Spells (written f) (spelling f)
  form_spells (word_form w) h = word_spells w (word_bytes w h)
  form_spells (number_form n) h = word_spells (decimal n) (number_bytes n h)
  form_spells (list_form fs) h = λ rest place ends.
      let t = members_spell fs h (41 ∷ rest) (place + 1) refl in (
        t.0 + 1,
        ap (λ l. opening ∷ l) (ap (λ l. map token (pieces (place + 1) l)) (append_assoc (written_members fs) (41 ∷ []) rest) ∙ t.1
            ∙ sym (append_assoc (spelling_of_all fs) (closing ∷ []) (map token (pieces (t.0 + 1) rest)))),
      )

  members_spell : (fs : Forms) → AreWellSpelled fs → Spells (written_members fs) (spelling_of_all fs)
  members_spell no_forms h = λ rest place ends. (place, refl)
  members_spell (more_forms f fs) h =
      joined (written f) (written_others fs) (spelling f) (spelling_of_all fs) (form_spells f h.0) (others_spell fs h.1) (others_end fs)

  others_spell : (fs : Forms) → AreWellSpelled fs → Spells (written_others fs) (spelling_of_all fs)
  others_spell no_forms h = λ rest place ends. (place, refl)
  others_spell (more_forms f fs) h = λ rest place ends.
      joined (written f) (written_others fs) (spelling f) (spelling_of_all fs) (form_spells f h.0) (others_spell fs h.1) (others_end fs) rest (place + 1) ends

-- What is written for a well-spelled form has the tokens that spell it.
pub tokens-written : (f : Form) → IsWellSpelled f → tokens (written f) ≡ spelling f
tokens-written f h =
    let t = form_spells f h [] 0 tt in
    ap (λ l. map token (pieces 0 l)) (sym (append-nil (written f))) ∙ t.1 ∙ append-nil (spelling f)
