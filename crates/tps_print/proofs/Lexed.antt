-- The printed text of a term is cut into its tokens.
use Rattle.std.proofs.Common.{ℕ, zero, suc, ◌+◌, ◌<◌, ◌≤◌, List, [], ◌∷◌, ◌++◌, true, false, map, ◌≡◌, refl, sym, ap, subst, ◌∙◌, length, arith, append_assoc, codes, All}
use Rattle.std.specs.Prelude.{IsTrue, encode_utf8_all}
use Rattle.std.specs.Char.{IsScalar}
use Rattle.std.specs.List.{list_all}
use Rattle.std.proofs.lemmas.Bool.Decides.{nat_tests}
use Rattle.std.proofs.lemmas.List.Elements.{All-nil, All-cons, All-append}
use Rattle.std.specs.Str.{IsAscii}
use Rattle.std.proofs.lemmas.Str.{encodes-append, encodes-IsAscii}
use Rattle.std.proofs.lemmas.Str.Ascii.{IsAscii-nil}
use Rattle.unicode_ident.specs.Ident.{is_xid_start, is_xid_continue}
use Rattle.unicode_ident.proofs.IdentLemmas.{is_xid_start-ascii, is_xid_continue-ascii}
use Rattle.hol_terms.specs.Names.{IsWord}
use Rattle.core_text.specs.Tokens.{is_white}
use Rattle.std.proofs.lemmas.Bool.{and_from, and_parts}
use Rattle.hol_terms.specs.Terms.{SimpleType, base_type, function_type}
use Rattle.core_text.specs.CoreForms.{HasLetters}
use Rattle.tps_reader.specs.Grammar.{is_letter}
use Rattle.tps_print.specs.Pieces.{as_argument, in_parentheses, printed_type}
use Rattle.tps_print.specs.ShortWords.{HasShortArgument, HasShortRuns, run_behind}
use Rattle.tps_print.specs.Signs.{letters_before, letters_behind, signs_behind, type_signs, round_signs}
use Rattle.tps_reader.specs.Tokens.{Sign, open_square, close_square, open_round, close_round, dot, tilde, semicolon, number, word, Token, token, sign_of, Cuts, AreTokensOf, Spells, Stops}

-- what a sign is spelled by
abbrev pub sign_text : Sign → List ℕ
sign_text open_square = codes "["
sign_text close_square = codes "]"
sign_text open_round = codes "("
sign_text close_round = codes ")"
sign_text dot = codes "."
sign_text tilde = codes "~"
sign_text semicolon = codes ";"
sign_text (number n) = []
sign_text (word w) = w

-- white space and a sign
abbrev pub Mark : Type 0
Mark = List ℕ × Sign

abbrev pub mark_text : List ℕ → List Mark → List ℕ
mark_text tail [] = tail
mark_text tail (m ∷ ms) = m.0 ++ (sign_text m.1 ++ mark_text tail ms)

abbrev pub Good : List ℕ → List Mark → Type 0
Good tail [] = Unit {0}
Good tail (m ∷ ms) = (list_all is_white m.0 ≡ true) × Spells (sign_text m.1) (mark_text tail ms) m.1 × Good tail ms

pub record Cutting (place : ℕ) (tail : List ℕ) (ms : List Mark) : Type 0 where
  pub ts : List Token
  pub last : ℕ
  pub cuts : Cuts place (mark_text tail ms) ts last tail
  pub signs : map sign_of ts ≡ map (λ (m : Mark). m.1) ms

cut_marks : (place : ℕ) (tail : List ℕ) (ms : List Mark) → Good tail ms → Cutting place tail ms
cut_marks place tail [] good = record { ts = []; last = place; cuts = (refl, refl); signs = refl }
cut_marks place tail (m ∷ ms) good =
    let long : ℕ = length (encode_utf8_all (sign_text m.1)) in
    let more = cut_marks (place + length m.0 + length (encode_utf8_all (sign_text m.1))) tail ms good.2 in
    record {
      ts = token m.1 (place + length m.0) (length (encode_utf8_all (sign_text m.1))) ∷ more.ts;
      last = more.last;
      cuts = (mark_text tail ms, record { white = m.0; w = sign_text m.1; parts = refl; blank = good.0; spelled = good.1; at = refl; long = refl }, more.cuts);
      signs = ap (λ (l : List Sign). m.1 ∷ l) more.signs;
    }

-- bytes that are cut into tokens with these signs

pub record Prints (bytes : List ℕ) (signs : List Sign) : Type 0 where
  pub marks : List Mark
  pub tail : List ℕ
  pub good : Good tail marks
  pub white : list_all is_white tail ≡ true
  pub scalars : All IsScalar (mark_text tail marks)
  pub text : encode_utf8_all (mark_text tail marks) ≡ bytes
  pub same : map (λ (m : Mark). m.1) marks ≡ signs

-- and whose first character, if there is one, ends each word before it
pub record Halts (bytes : List ℕ) (signs : List Sign) : Type 0 where
  pub prints : Prints bytes signs
  pub stops : Stops is_xid_continue (mark_text prints.tail prints.marks)

pub tokens_of_prints : (bytes : List ℕ) (signs : List Sign) → Prints bytes signs → (ts : List Token) × AreTokensOf bytes ts × (map sign_of ts ≡ signs)
tokens_of_prints bytes signs p =
    let c = cut_marks 0 p.tail p.marks p.good in
    (c.ts, (mark_text p.tail p.marks, (p.text, p.scalars), (c.last, p.tail, c.cuts, p.white)), c.signs ∙ p.same)

pub prints_end : Halts [] []
prints_end = record { prints = record { marks = []; tail = []; good = tt; white = refl; scalars = All-nil IsScalar; text = refl; same = refl }; stops = tt }

-- a sign of one character

alone_ascii : (c : ℕ) → c < 128 → IsAscii (c ∷ [])
alone_ascii c low zero = omega (arith, low)
alone_ascii c low (suc i) = IsAscii-nil i

one_byte : (c : ℕ) (cs : List ℕ) → c < 128 → encode_utf8_all (c ∷ cs) ≡ c ∷ encode_utf8_all cs
one_byte c cs low = encodes-append (c ∷ []) cs ∙ ap (λ (l : List ℕ). l ++ encode_utf8_all cs) (encodes-IsAscii (c ∷ []) (alone_ascii c low))

small_mark : (c : ℕ) (s : Sign) (bytes : List ℕ) (signs : List Sign) → sign_text s ≡ c ∷ [] → c < 128 → is_xid_continue c ≡ false → ((others : List ℕ) → Spells (sign_text s) others s)
    → Prints bytes signs → Halts (c ∷ bytes) (s ∷ signs)
small_mark c s bytes signs spelled low never spells p =
    let text : mark_text p.tail (([], s) ∷ p.marks) ≡ c ∷ mark_text p.tail p.marks = ap (λ (w : List ℕ). w ++ mark_text p.tail p.marks) spelled in
    let scalar : IsScalar c = grind (arith, nat_tests) in
    record {
      prints = record {
        marks = ([], s) ∷ p.marks;
        tail = p.tail;
        good = (refl, spells (mark_text p.tail p.marks), p.good);
        white = p.white;
        scalars = subst (λ (l : List ℕ). All IsScalar l) (sym text) (All-cons IsScalar c (mark_text p.tail p.marks) scalar p.scalars);
        text = ap encode_utf8_all text ∙ one_byte c (mark_text p.tail p.marks) low ∙ ap (λ (l : List ℕ). c ∷ l) p.text;
        same = ap (λ (l : List Sign). s ∷ l) p.same;
      };
      stops = subst (Stops is_xid_continue) (sym text) never;
    }

-- a space
pub space : (bytes : List ℕ) (signs : List Sign) → Prints bytes signs → Halts (32 ∷ bytes) signs
space bytes signs p = go p.marks p.tail p.good p.white p.scalars p.text p.same
  where
    go : (marks : List Mark) (tail : List ℕ) → Good tail marks → list_all is_white tail ≡ true → All IsScalar (mark_text tail marks) → encode_utf8_all (mark_text tail marks) ≡ bytes
        → map (λ (m : Mark). m.1) marks ≡ signs → Halts (32 ∷ bytes) signs
    go [] tail good white scalars text same = record {
      prints = record {
        marks = [];
        tail = 32 ∷ tail;
        good = tt;
        white = white;
        scalars = All-cons IsScalar 32 tail refl scalars;
        text = one_byte 32 tail (omega arith) ∙ ap (λ (l : List ℕ). 32 ∷ l) text;
        same = same;
      };
      stops = is_xid_continue-ascii 32 (omega arith);
    }
    go (m ∷ ms) tail good white scalars text same = record {
      prints = record {
        marks = (32 ∷ m.0, m.1) ∷ ms;
        tail = tail;
        good = good;
        white = white;
        scalars = All-cons IsScalar 32 (mark_text tail (m ∷ ms)) refl scalars;
        text = one_byte 32 (mark_text tail (m ∷ ms)) (omega arith) ∙ ap (λ (l : List ℕ). 32 ∷ l) text;
        same = same;
      };
      stops = is_xid_continue-ascii 32 (omega arith);
    }

-- a word
pub a_word : (w : List ℕ) (bytes : List ℕ) (signs : List Sign) → IsWord w → Halts bytes signs → Prints (encode_utf8_all w ++ bytes) (word w ∷ signs)
a_word w bytes signs h p = record {
  marks = ([], word w) ∷ p.prints.marks;
  tail = p.prints.tail;
  good = (refl, (refl, h, p.stops), p.prints.good);
  white = p.prints.white;
  scalars = All-append IsScalar w (mark_text p.prints.tail p.prints.marks) h.0 p.prints.scalars;
  text = encodes-append w (mark_text p.prints.tail p.prints.marks) ∙ ap (λ (l : List ℕ). encode_utf8_all w ++ l) p.prints.text;
  same = ap (λ (l : List Sign). word w ∷ l) p.prints.same;
}

-- letters

letter_low : (c : ℕ) → is_letter c ≡ true → c < 128
letter_low c h = grind (arith, nat_tests)

letter_scalar : (c : ℕ) → is_letter c ≡ true → IsScalar c
letter_scalar c h = grind (arith, nat_tests)

letter_continues : (c : ℕ) → is_letter c ≡ true → IsTrue (is_xid_continue c)
letter_continues c h = let low : c < 128 = letter_low c h in is_xid_continue-ascii c low ∙ grind (arith, nat_tests)

letter_starts : (c : ℕ) → is_letter c ≡ true → IsTrue (is_xid_start c)
letter_starts c h = let low : c < 128 = letter_low c h in is_xid_start-ascii c low ∙ grind (arith, nat_tests)

letters_ascii : (w : List ℕ) → list_all is_letter w ≡ true → IsAscii w
letters_ascii [] h i = IsAscii-nil i
letters_ascii (c ∷ cs) h zero = let one : is_letter c ≡ true = (and_parts _ _ h).0 in letter_low c one
letters_ascii (c ∷ cs) h (suc i) = letters_ascii cs (and_parts _ _ h).1 i

letters_scalars : (w : List ℕ) → list_all is_letter w ≡ true → All IsScalar w
letters_scalars [] h = All-nil IsScalar
letters_scalars (c ∷ cs) h = let one : is_letter c ≡ true = (and_parts _ _ h).0 in All-cons IsScalar c cs (letter_scalar c one) (letters_scalars cs (and_parts _ _ h).1)

letters_continue : (w : List ℕ) → list_all is_letter w ≡ true → All (λ (c : ℕ). IsTrue (is_xid_continue c)) w
letters_continue [] h = All-nil (λ (c : ℕ). IsTrue (is_xid_continue c))
letters_continue (c ∷ cs) h =
    let one : is_letter c ≡ true = (and_parts _ _ h).0 in
    All-cons (λ (c : ℕ). IsTrue (is_xid_continue c)) c cs (letter_continues c one) (letters_continue cs (and_parts _ _ h).1)

letters_word : (l : ℕ) (ls : List ℕ) → list_all is_letter (l ∷ ls) ≡ true → length (l ∷ ls) ≤ 64 → IsWord (l ∷ ls)
letters_word l ls h short =
    let one : is_letter l ≡ true = (and_parts _ _ h).0 in
    (letters_scalars (l ∷ ls) h, short, (letter_starts l one, letters_continue ls (and_parts _ _ h).1))

-- a word of letters
pub a_letters : (l : ℕ) (ls bytes : List ℕ) (signs : List Sign) → list_all is_letter (l ∷ ls) ≡ true → length (l ∷ ls) ≤ 64 → Halts bytes signs → Prints (l ∷ (ls ++ bytes)) (word (l ∷ ls) ∷ signs)
a_letters l ls bytes signs h short p =
    let P : List ℕ → Type 0 = λ w. Prints (w ++ bytes) (word (l ∷ ls) ∷ signs) in
    subst P (encodes-IsAscii (l ∷ ls) (letters_ascii (l ∷ ls) h)) (a_word (l ∷ ls) bytes signs (letters_word l ls h short) p)

pub opens : (bytes : List ℕ) (signs : List Sign) → Prints bytes signs → Halts (91 ∷ bytes) (open_square ∷ signs)
opens bytes signs p = small_mark 91 open_square bytes signs refl (omega arith) (is_xid_continue-ascii 91 (omega arith)) (λ others. refl) p

pub closes : (bytes : List ℕ) (signs : List Sign) → Prints bytes signs → Halts (93 ∷ bytes) (close_square ∷ signs)
closes bytes signs p = small_mark 93 close_square bytes signs refl (omega arith) (is_xid_continue-ascii 93 (omega arith)) (λ others. refl) p

opens_round : (bytes : List ℕ) (signs : List Sign) → Prints bytes signs → Halts (40 ∷ bytes) (open_round ∷ signs)
opens_round bytes signs p = small_mark 40 open_round bytes signs refl (omega arith) (is_xid_continue-ascii 40 (omega arith)) (λ others. refl) p

closes_round : (bytes : List ℕ) (signs : List Sign) → Prints bytes signs → Halts (41 ∷ bytes) (close_round ∷ signs)
closes_round bytes signs p = small_mark 41 close_round bytes signs refl (omega arith) (is_xid_continue-ascii 41 (omega arith)) (λ others. refl) p

pub a_dot : (bytes : List ℕ) (signs : List Sign) → Prints bytes signs → Halts (46 ∷ bytes) (dot ∷ signs)
a_dot bytes signs p = small_mark 46 dot bytes signs refl (omega arith) (is_xid_continue-ascii 46 (omega arith)) (λ others. refl) p

pub a_tilde : (bytes : List ℕ) (signs : List Sign) → Prints bytes signs → Halts (126 ∷ bytes) (tilde ∷ signs)
a_tilde bytes signs p = small_mark 126 tilde bytes signs refl (omega arith) (is_xid_continue-ascii 126 (omega arith)) (λ others. refl) p

-- types

letter_of : (l : ℕ) (ls : List ℕ) → HasLetters (base_type l) → list_all is_letter ls ≡ true → list_all is_letter (l ∷ ls) ≡ true
letter_of l ls h all = and_from (is_letter l) (list_all is_letter ls) (grind (arith, nat_tests)) all

prints_letters : (ls bytes : List ℕ) (signs : List Sign) → list_all is_letter ls ≡ true → length ls ≤ 64 → Halts bytes signs → Prints (ls ++ bytes) (letters_before ls signs)
prints_letters [] bytes signs all short p = p.prints
prints_letters (l ∷ ls) bytes signs all short p = a_letters l ls bytes signs all short p

prints_type : (s : SimpleType) (ls bytes : List ℕ) (signs : List Sign) → HasLetters s → list_all is_letter ls ≡ true → HasShortRuns s (length ls) → Halts bytes signs
    → Prints (printed_type s ++ (ls ++ bytes)) (type_signs s ls signs)
prints_type (base_type l) ls bytes signs h all short p = a_letters l ls bytes signs (letter_of l ls h all) short p
prints_type (function_type r s) ls bytes signs h all short p = go s h.1 short.0 short.1 (λ sh q. prints_type s [] (41 ∷ (ls ++ bytes)) (close_round ∷ letters_before ls signs) h.1 refl sh q) (λ ls b g al sh q. prints_type r ls b g h.0 al sh q)
  where
    go : (s : SimpleType) → HasLetters s → HasShortRuns r (run_behind s (length ls)) → HasShortArgument s (length ls) (HasShortRuns s 0)
        → (HasShortRuns s 0 → Halts (41 ∷ (ls ++ bytes)) (close_round ∷ letters_before ls signs) → Prints (printed_type s ++ ([] ++ (41 ∷ (ls ++ bytes)))) (type_signs s [] (close_round ∷ letters_before ls signs)))
        → ((ks b : List ℕ) (g : List Sign) → list_all is_letter ks ≡ true → HasShortRuns r (length ks) → Halts b g → Prints (printed_type r ++ (ks ++ b)) (type_signs r ks g))
        → Prints ((printed_type r ++ as_argument s (printed_type s)) ++ (ls ++ bytes)) (type_signs r (letters_behind s ls) (signs_behind s signs (type_signs s [] (close_round ∷ letters_before ls signs))))
    go (base_type l) h first argument inner outer =
        subst (λ (b : List ℕ). Prints b (type_signs r (l ∷ ls) signs)) (sym (append_assoc (printed_type r) (l ∷ []) (ls ++ bytes))) (outer (l ∷ ls) bytes signs (letter_of l ls h all) first p)
    go (function_type a b) h first argument inner outer =
        let group = opens_round _ _ (inner argument.0 (closes_round _ _ (prints_letters ls bytes signs all argument.1 p))) in
        subst (λ (x : List ℕ). Prints x (type_signs r [] (open_round ∷ type_signs (function_type a b) [] (close_round ∷ letters_before ls signs))))
        (sym (append_assoc (printed_type r) (40 ∷ (printed_type (function_type a b) ++ 41 ∷ [])) (ls ++ bytes)
        ∙ ap (λ (x : List ℕ). printed_type r ++ (40 ∷ x)) (append_assoc (printed_type (function_type a b)) (41 ∷ []) (ls ++ bytes))))
        (outer [] _ _ refl first group)

pub prints_round : (s : SimpleType) (bytes : List ℕ) (signs : List Sign) → HasLetters s → HasShortRuns s 0 → Halts bytes signs → Halts (in_parentheses s ++ bytes) (round_signs s signs)
prints_round s bytes signs h short p =
    subst (λ (x : List ℕ). Halts (40 ∷ x) (round_signs s signs)) (sym (append_assoc (printed_type s) (41 ∷ []) bytes))
    (opens_round _ _ (prints_type s [] (41 ∷ bytes) (close_round ∷ signs) h refl short (closes_round bytes signs p.prints)))
