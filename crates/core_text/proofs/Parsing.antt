-- Tokens without a fault spell a form.
use Rattle.std.proofs.Common.{◌≡◌, ◌↔◌, ℕ, ◌+◌, ◌-◌, ◌^◌, ◌<◌, ◌==◌, ◌&&◌, ◌||◌, not, nat_lt, Bool, true, false, cond, List, [], ◌∷◌, ◌++◌, length, Option, Some, None, is_none, refl, sym, ◌∙◌, ap, append_assoc, arith}
use Rattle.std.specs.Char.{is_ascii_digit}
use Rattle.std.specs.List.{list_all}
use Rattle.std.specs.Str.{is_utf8}
use Rattle.std.specs.Str.Parse.{digits_value}
use Rattle.std.proofs.lemmas.Bool.{and_parts, eqb-true, leb-true, ltb-true}
use Rattle.std.proofs.lemmas.Str.{IsUtf8-from_is_utf8}
use Rattle.core_text.specs.Tokens.{Token, opening, closing, word, pieces, tokens}
use Rattle.core_text.specs.Words.{has_leading_zero, is_good, is_numeral, is_word}
use Rattle.core_text.specs.Forms.{Form, word_form, number_form, list_form, Forms, no_forms, more_forms, IsTextOf, spelling, spelling_of_all, nesting, IsWellSpelled, AreWellSpelled}
use Rattle.core_text.specs.Faults.{first_fault, form_fault}
use Rattle.core_text.specs.declared.faults.TextFault.TheVariants.{NotUtf8}
use Rattle.core_text.proofs.Balance.{balanced, none-first_fault}
use Rattle.core_text.proofs.Numerals.{decimal-digits}
use Rattle.core_text.proofs.Texts.{no_fault, whole_balance}

-- a word that may stand in a text spells a form
pub record Spelled (ts : List Token) : Type 0 where
  pub form : Form
  pub spells : ts ≡ spelling form
  pub words : IsWellSpelled form

numeral_small : (w : List ℕ) → is_numeral w ≡ true → digits_value 10 w < 2 ^ 64
numeral_small w h =
    let low = nat_lt (digits_value 10 w) (2 ^ 64) in
    let lead = not (has_leading_zero w) in
    let digits = list_all is_ascii_digit w in
    let some = and_parts (not (length w == 0)) (digits && (lead && low)) h in
    ltb-true (digits_value 10 w) (2 ^ 64) (and_parts lead low (and_parts digits (lead && low) some.1).1).1

good_word : (w : List ℕ) → is_good w ≡ true → Spelled (word w ∷ [])
good_word w h = go (is_numeral w) refl h
  where
    go : (b : Bool) → is_numeral w ≡ b → (b || is_word w) ≡ true → Spelled (word w ∷ [])
    go true e h = record { form = number_form (digits_value 10 w); spells = ap (λ (v : List ℕ). word v ∷ []) (sym (decimal-digits w e)); words = numeral_small w e }
    go false e h = record { form = word_form w; spells = refl; words = h }

-- the tokens that close open lists, the innermost first, to the end of the text
abbrev closings : List Forms → List Token
closings [] = []
closings (fs ∷ rest) = spelling_of_all fs ++ closing ∷ closings rest

abbrev AllWellSpelled : List Forms → Type 0
AllWellSpelled [] = Unit {0}
AllWellSpelled (fs ∷ rest) = AreWellSpelled fs × AllWellSpelled rest

record Closed (d : ℕ) (ts : List Token) : Type 0 where
  open_lists : List Forms
  many : length open_lists ≡ d
  spells : ts ≡ closings open_lists
  words : AllWellSpelled open_lists

open_some : (d : ℕ) → not (true && d == 0) ≡ true → d ≡ 0 → ⊥
open_some d h e = let none : (true && d == 0) ≡ true = rw e refl in let more : not (true && d == 0) ≡ false = ap not none in cc

-- one form more in the innermost open list
with_form : (d : ℕ) (ts us : List Token) → (d ≡ 0 → ⊥) → Spelled us → Closed d ts → Closed d (us ++ ts)
with_form d ts us some f c = go c.open_lists c.many c.spells c.words
  where
    go : (lists : List Forms) → length lists ≡ d → ts ≡ closings lists → AllWellSpelled lists → Closed d (us ++ ts)
    go [] many spells words = absurd (some (sym many))
    go (fs ∷ rest) many spells words = record {
      open_lists = more_forms f.form fs ∷ rest;
      many = many;
      spells =
          ap (λ l. us ++ l) spells ∙ ap (λ l. l ++ (spelling_of_all fs ++ closing ∷ closings rest)) f.spells
          ∙ sym (append_assoc (spelling f.form) (spelling_of_all fs) (closing ∷ closings rest));
      words = ((f.words, words.0), words.1);
    }

-- a list is opened
opened : (d : ℕ) (ts : List Token) → (d ≡ 0 → ⊥) → Closed (d + 1) ts → Closed d (opening ∷ ts)
opened d ts some c = go c.open_lists c.many c.spells c.words
  where
    go : (lists : List Forms) → length lists ≡ d + 1 → ts ≡ closings lists → AllWellSpelled lists → Closed d (opening ∷ ts)
    go [] many spells words = absurd (omega arith)
    go (fs ∷ []) many spells words = absurd (some (omega arith))
    go (fs ∷ gs ∷ rest) many spells words = record {
      open_lists = more_forms (list_form fs) gs ∷ rest;
      many = omega arith;
      spells =
          ap (λ l. opening ∷ l) (spells ∙ sym (append_assoc (spelling_of_all fs) (closing ∷ []) (spelling_of_all gs ++ closing ∷ closings rest)))
          ∙ sym (append_assoc (opening ∷ spelling_of_all fs ++ closing ∷ []) (spelling_of_all gs) (closing ∷ closings rest));
      words = ((words.0, words.1.0), words.1.1);
    }

-- and closed
unopened : (d : ℕ) (ts : List Token) → (d ≡ 0 → ⊥) → Closed (d - 1) ts → Closed d (closing ∷ ts)
unopened d ts some c = go c.open_lists c.many c.spells c.words
  where
    go : (lists : List Forms) → length lists ≡ d - 1 → ts ≡ closings lists → AllWellSpelled lists → Closed d (closing ∷ ts)
    go lists many spells words = record { open_lists = no_forms ∷ lists; many = omega arith; spells = ap (λ l. closing ∷ l) spells; words = (tt, words) }

closed : (ts : List Token) (d : ℕ) → balanced d true ts ≡ true → Closed d ts
closed [] d h = record { open_lists = []; many = sym (eqb-true d 0 h); spells = refl; words = tt }
closed (word w ∷ ts) d h =
    let parts = and_parts _ _ h in
    let here = and_parts _ _ parts.0 in
    with_form d ts (word w ∷ []) (open_some d here.1) (good_word w here.0) (closed ts d parts.1)
closed (opening ∷ ts) d h =
    let parts = and_parts _ _ h in
    let here = and_parts _ _ parts.0 in
    opened d ts (open_some d here.0) (closed ts (d + 1) parts.1)
closed (closing ∷ ts) d h =
    let parts = and_parts _ _ h in
    unopened d ts (open_some d parts.0) (closed ts (d - 1) parts.1)

-- nothing is after a whole form
ended : (ts : List Token) → Closed 0 ts → ts ≡ []
ended ts c = go c.open_lists c.many c.spells
  where
    go : (lists : List Forms) → length lists ≡ 0 → ts ≡ closings lists → ts ≡ []
    go [] many spells = spells
    go (fs ∷ rest) many spells = absurd (omega arith)

one_list : (ts : List Token) → Closed 1 ts → Spelled (opening ∷ ts)
one_list ts c = go c.open_lists c.many c.spells c.words
  where
    go : (lists : List Forms) → length lists ≡ 1 → ts ≡ closings lists → AllWellSpelled lists → Spelled (opening ∷ ts)
    go [] many spells words = absurd (omega arith)
    go (fs ∷ []) many spells words = record { form = list_form fs; spells = ap (λ l. opening ∷ l) spells; words = words.0 }
    go (fs ∷ gs ∷ rest) many spells words = absurd (omega arith)

spelled : (ts : List Token) → balanced 0 false ts ≡ true → Spelled ts
spelled [] h = cc
spelled (word w ∷ ts) h =
    let parts = and_parts _ _ h in
    let here = and_parts _ _ parts.0 in
    let f = good_word w here.0 in
    record { form = f.form; spells = ap (λ l. word w ∷ l) (ended ts (closed ts 0 parts.1)) ∙ f.spells; words = f.words }
spelled (opening ∷ ts) h = let parts = and_parts (not (false && 0 == 0) && not (0 == 5000)) (balanced 1 true ts) h in one_list ts (closed ts 1 parts.1)
spelled (closing ∷ ts) h = cc

is_none_of : {A : Type 0} (o : Option A) → o ≡ None → is_none o ≡ true
is_none_of (Some x) h = cc
is_none_of None h = refl

-- bytes of UTF-8 without a fault are a text
text_from : (bytes : List ℕ) → is_utf8 bytes ≡ true → first_fault 0 false (pieces 0 bytes) (length bytes) ≡ None → (f : Form) × IsTextOf bytes f
text_from bytes utf8 clean =
    let none = is_none_of _ clean in
    let s = spelled (tokens bytes) (sym (none-first_fault 0 false (pieces 0 bytes) (length bytes)) ∙ none) in
    let shallow = and_parts _ _ (sym (whole_balance bytes s.form s.words s.spells) ∙ none) in
    (s.form, record { utf8 = IsUtf8-from_is_utf8 bytes utf8; spelled = s.spells; words = s.words; depth = leb-true (nesting s.form) 5000 shallow.0 })

faultless : (bytes : List ℕ) → form_fault bytes ≡ None → (f : Form) × IsTextOf bytes f
faultless bytes h = go (is_utf8 bytes) refl h
  where
    go : (b : Bool) → is_utf8 bytes ≡ b → cond b (first_fault 0 false (pieces 0 bytes) (length bytes)) (Some NotUtf8) ≡ None → (f : Form) × IsTextOf bytes f
    go true e h = text_from bytes e h
    go false e h = cc

pub text_without_fault : (bytes : List ℕ) → (form_fault bytes ≡ None) ↔ ((f : Form) × IsTextOf bytes f)
text_without_fault bytes = (faultless bytes, λ t. no_fault bytes t.0 t.1)
