-- How characters spell a token: in one way at most.
use Rattle.std.proofs.Common.{◌≡◌, ℕ, ◌<◌, ◌≤◌, ◌==◌, ◌⊎◌, Bool, true, false, cond, List, [], ◌∷◌, ◌++◌, length, All, Option, Some, None, refl, sym, ◌∙◌, ap, subst, arith, inl, inr}
use Rattle.std.specs.Char.{IsScalar, is_ascii_digit, is_ascii_alphabetic}
use Rattle.std.specs.List.{list_all}
use Rattle.std.specs.Str.Parse.{digits_value}
use Rattle.std.proofs.lemmas.Bool.{and_parts, and_from, or_cases, ne_eqb, eqb-true, leb-true, both_ways, false_from_ne_true, false≢true}
use Rattle.std.proofs.lemmas.Bool.Decides.{nat_tests}
use Rattle.std.proofs.lemmas.List.Sums.{AllPass-from_list_all, list_all-from_AllPass}
use Rattle.unicode_ident.specs.Ident.{is_xid_start, is_xid_continue}
use Rattle.unicode_ident.proofs.IdentLemmas.{is_xid_start-ascii, is_xid_start-is_xid_continue}
use Rattle.hol_terms.specs.Names.{IsWord}
use Rattle.core_text.specs.Tokens.{is_white}
use Rattle.core_text.specs.Words.{is_numeral, numeral_of}
use Rattle.tps_reader.specs.Tokens.{Sign, open_square, close_square, open_round, close_round, dot, tilde, semicolon, number, word, Spells, Stops, BeginsNone}
use Rattle.tps_reader.specs.Lexed.{mark_of}

-- a longest run of characters with a property ends where it ends
pub run_same : (p : ℕ → Bool) (w v x y : List ℕ) → list_all p w ≡ true → list_all p v ≡ true → Stops p x → Stops p y → w ++ x ≡ v ++ y → (w ≡ v) × (x ≡ y)
run_same p [] [] x y g h s t e = (refl, e)
run_same p [] (d ∷ v) x y g h s t e = absurd (both_ways (p d) (subst (Stops p) e s) (and_parts _ _ h).0)
run_same p (c ∷ w) [] x y g h s t e = absurd (both_ways (p c) (subst (Stops p) (sym e) t) (and_parts _ _ g).0)
run_same p (c ∷ w) (d ∷ v) x y g h s t e =
    let heads : c ≡ d = cc in
    let tails : w ++ x ≡ v ++ y = cc in
    let more = run_same p w v x y (and_parts _ _ g).1 (and_parts _ _ h).1 s t tails in
    (rw (heads, more.0) refl, more.1)

-- the tests of one character
no_mark : (c : ℕ) → (c ≡ 91 → ⊥) → (c ≡ 93 → ⊥) → (c ≡ 40 → ⊥) → (c ≡ 41 → ⊥) → (c ≡ 46 → ⊥) → (c ≡ 126 → ⊥) → (c ≡ 59 → ⊥) → mark_of c ≡ None
no_mark c a b d e f g h = rw (ne_eqb c 91 a, ne_eqb c 93 b, ne_eqb c 40 d, ne_eqb c 41 e, ne_eqb c 46 f, ne_eqb c 126 g, ne_eqb c 59 h) refl

digit_range : (c : ℕ) → is_ascii_digit c ≡ true → (48 ≤ c) × (c ≤ 57)
digit_range c h = let parts = and_parts _ _ h in (leb-true 48 c parts.0, leb-true c 57 parts.1)

pub digit_no_mark : (c : ℕ) → is_ascii_digit c ≡ true → mark_of c ≡ None
digit_no_mark c h =
    let r = digit_range c h in
    no_mark c (λ e. omega (arith, r.0, r.1)) (λ e. omega (arith, r.0, r.1)) (λ e. omega (arith, r.0, r.1)) (λ e. omega (arith, r.0, r.1)) (λ e. omega (arith, r.0, r.1)) (λ e. omega (arith, r.0, r.1)) (λ e. omega (arith, r.0, r.1))

no_letter : (c : ℕ) → 48 ≤ c → c ≤ 57 → is_ascii_alphabetic c ≡ false
no_letter c low high = grind (arith, nat_tests)

pub digit_no_start : (c : ℕ) → is_ascii_digit c ≡ true → is_xid_start c ≡ false
digit_no_start c h = let r = digit_range c h in is_xid_start-ascii c (omega (arith, r.1)) ∙ no_letter c r.0 r.1

-- an ASCII character that is no letter doesn't start an identifier
other_start : (c k : ℕ) → k < 128 → is_ascii_alphabetic k ≡ false → is_xid_start c ≡ true → c ≡ k → ⊥
other_start c k low none h e = both_ways (is_xid_start c) (ap is_xid_start e ∙ is_xid_start-ascii k low ∙ none) h

pub start_no_mark : (c : ℕ) → is_xid_start c ≡ true → mark_of c ≡ None
start_no_mark c h =
    no_mark c (other_start c 91 (omega arith) refl h) (other_start c 93 (omega arith) refl h) (other_start c 40 (omega arith) refl h) (other_start c 41 (omega arith) refl h)
    (other_start c 46 (omega arith) refl h) (other_start c 126 (omega arith) refl h) (other_start c 59 (omega arith) refl h)

pub white_cases : (P : ℕ → Type 0) → P 32 → P 9 → P 10 → P 13 → (c : ℕ) → is_white c ≡ true → P c
white_cases P s t l r c h =
    elim (or_cases _ _ h) [
      | inl h ↦ elim (or_cases _ _ h) [
        | inl h ↦ elim (or_cases _ _ h) [ inl e ↦ subst P (sym (eqb-true c 32 e)) s | inr e ↦ subst P (sym (eqb-true c 9 e)) t ]
        | inr e ↦ subst P (sym (eqb-true c 10 e)) l
      ]
      | inr e ↦ subst P (sym (eqb-true c 13 e)) r
    ]

white_no_mark : (c : ℕ) → is_white c ≡ true → mark_of c ≡ None
white_no_mark = white_cases (λ c. mark_of c ≡ None) refl refl refl refl

white_no_digit : (c : ℕ) → is_white c ≡ true → is_ascii_digit c ≡ false
white_no_digit = white_cases (λ c. is_ascii_digit c ≡ false) refl refl refl refl

white_no_start : (c : ℕ) → is_white c ≡ true → is_xid_start c ≡ false
white_no_start = white_cases (λ c. is_xid_start c ≡ false) (is_xid_start-ascii 32 (omega arith)) (is_xid_start-ascii 9 (omega arith)) (is_xid_start-ascii 10 (omega arith)) (is_xid_start-ascii 13 (omega arith))

-- A token is a mark, a numeral or a word.
abbrev pub Read : List ℕ → List ℕ → Sign → Type 0
Read w others s =
    ((c : ℕ) × (w ≡ c ∷ []) × (mark_of c ≡ Some s))
    ⊎ (((n : ℕ) × (s ≡ number n) × (numeral_of w ≡ Some n) × Stops is_ascii_digit others)
    ⊎ ((s ≡ word w) × IsWord w × Stops is_xid_continue others))

pub read_as : (w others : List ℕ) (s : Sign) → Spells w others s → Read w others s
read_as w others open_square h = inl (91, h, refl)
read_as w others close_square h = inl (93, h, refl)
read_as w others open_round h = inl (40, h, refl)
read_as w others close_round h = inl (41, h, refl)
read_as w others dot h = inl (46, h, refl)
read_as w others tilde h = inl (126, h, refl)
read_as w others semicolon h = inl (59, h, refl)
read_as w others (number n) h = inr (inl (n, refl, h.0, h.1))
read_as w others (word v) h = inr (inr (ap word (sym h.0), h.1, h.2))

-- the other way for marks
pick : (c k : ℕ) (m s : Sign) (rest : Option Sign) (T : Type 0) → cond (c == k) (Some m) rest ≡ Some s → (c ≡ k → m ≡ s → T) → (rest ≡ Some s → T) → T
pick c k m s rest T h f g = go (c == k) refl h
  where
    go : (b : Bool) → (c == k) ≡ b → cond b (Some m) rest ≡ Some s → T
    go true e h = f (eqb-true c k e) cc
    go false e h = g h

pub mark_spells : (c : ℕ) (s : Sign) (others : List ℕ) → mark_of c ≡ Some s → Spells (c ∷ []) others s
mark_spells c s others h =
    pick c 91 open_square s _ (Spells (c ∷ []) others s) h (λ e m. subst (λ (s : Sign). Spells (c ∷ []) others s) m (ap (λ c. c ∷ []) e))
    (λ h. pick c 93 close_square s _ (Spells (c ∷ []) others s) h (λ e m. subst (λ (s : Sign). Spells (c ∷ []) others s) m (ap (λ c. c ∷ []) e))
    (λ h. pick c 40 open_round s _ (Spells (c ∷ []) others s) h (λ e m. subst (λ (s : Sign). Spells (c ∷ []) others s) m (ap (λ c. c ∷ []) e))
    (λ h. pick c 41 close_round s _ (Spells (c ∷ []) others s) h (λ e m. subst (λ (s : Sign). Spells (c ∷ []) others s) m (ap (λ c. c ∷ []) e))
    (λ h. pick c 46 dot s _ (Spells (c ∷ []) others s) h (λ e m. subst (λ (s : Sign). Spells (c ∷ []) others s) m (ap (λ c. c ∷ []) e))
    (λ h. pick c 126 tilde s _ (Spells (c ∷ []) others s) h (λ e m. subst (λ (s : Sign). Spells (c ∷ []) others s) m (ap (λ c. c ∷ []) e))
    (λ h. pick c 59 semicolon s _ (Spells (c ∷ []) others s) h (λ e m. subst (λ (s : Sign). Spells (c ∷ []) others s) m (ap (λ c. c ∷ []) e))
    (λ h. cc)))))))

numeral_is : (w : List ℕ) (n : ℕ) → numeral_of w ≡ Some n → is_numeral w ≡ true
numeral_is w n h = go (is_numeral w) (digits_value 10 w) h
  where
    go : (b : Bool) (x : ℕ) → cond b (Some x) None ≡ Some n → b ≡ true
    go true x h = refl
    go false x h = cc

pub numeral_digits : (w : List ℕ) (n : ℕ) → numeral_of w ≡ Some n → list_all is_ascii_digit w ≡ true
numeral_digits w n h = (and_parts _ _ (and_parts _ _ (numeral_is w n h)).1).0

numeral_first : (w : List ℕ) (n : ℕ) → numeral_of w ≡ Some n → (c : ℕ) × (v : List ℕ) × (w ≡ c ∷ v) × (is_ascii_digit c ≡ true)
numeral_first [] n h = absurd (false≢true (numeral_is [] n h))
numeral_first (c ∷ v) n h = (c, v, refl, (and_parts _ _ (numeral_digits (c ∷ v) n h)).0)

word_first : (w : List ℕ) → IsWord w → (c : ℕ) × (v : List ℕ) × (w ≡ c ∷ v) × (is_xid_start c ≡ true)
word_first [] h = absurd h.2
word_first (c ∷ v) h = (c, v, refl, h.2.0)

pub word_run : (w : List ℕ) → IsWord w → list_all is_xid_continue w ≡ true
word_run [] h = refl
word_run (c ∷ v) h = and_from _ _ (is_xid_start-is_xid_continue c h.2.0) (list_all-from_AllPass is_xid_continue v h.2.1)

-- two ways to begin a token in the same characters are one
pub spells_same : (w v x y : List ℕ) (s t : Sign) → Spells w x s → Spells v y t → w ++ x ≡ v ++ y → (w ≡ v) × (x ≡ y) × (s ≡ t)
spells_same w v x y s t g h e = go (read_as w x s g) (read_as v y t h)
  where
    marks : (c d : ℕ) → w ≡ c ∷ [] → v ≡ d ∷ [] → mark_of c ≡ Some s → mark_of d ≡ Some t → (w ≡ v) × (x ≡ y) × (s ≡ t)
    marks c d a b m n =
        let whole : c ∷ x ≡ d ∷ y = ap (λ l. l ++ x) (sym a) ∙ e ∙ ap (λ l. l ++ y) b in
        let heads : c ≡ d = cc in
        let tails : x ≡ y = cc in
        let signs : Some s ≡ Some t = sym m ∙ ap mark_of heads ∙ n in
        (a ∙ ap (λ c. c ∷ []) heads ∙ sym b, tails, cc)

    -- a mark and something else
    apart : (c d : ℕ) (rest others : List ℕ) (m : Sign) → c ∷ rest ≡ d ∷ others → mark_of c ≡ Some m → mark_of d ≡ None → ⊥
    apart c d rest others m e g h = let heads : c ≡ d = cc in let none : Some m ≡ None = sym g ∙ ap mark_of heads ∙ h in cc

    -- a numeral and a word
    digit_word : (c d : ℕ) (rest others : List ℕ) → c ∷ rest ≡ d ∷ others → is_ascii_digit c ≡ true → is_xid_start d ≡ true → ⊥
    digit_word c d rest others e g h = let heads : c ≡ d = cc in both_ways (is_xid_start d) (ap is_xid_start (sym heads) ∙ digit_no_start c g) h

    go : Read w x s → Read v y t → (w ≡ v) × (x ≡ y) × (s ≡ t)
    go (inl a) (inl b) = marks a.0 b.0 a.1 b.1 a.2 b.2
    go (inl a) (inr (inl b)) =
        let f = numeral_first v b.0 b.2 in
        absurd (apart a.0 f.0 x (f.1 ++ y) s (ap (λ l. l ++ x) (sym a.1) ∙ e ∙ ap (λ l. l ++ y) f.2) a.2 (digit_no_mark f.0 f.3))
    go (inl a) (inr (inr b)) =
        let f = word_first v b.1 in
        absurd (apart a.0 f.0 x (f.1 ++ y) s (ap (λ l. l ++ x) (sym a.1) ∙ e ∙ ap (λ l. l ++ y) f.2) a.2 (start_no_mark f.0 f.3))
    go (inr (inl a)) (inl b) =
        let f = numeral_first w a.0 a.2 in
        absurd (apart b.0 f.0 y (f.1 ++ x) t (ap (λ l. l ++ y) (sym b.1) ∙ sym e ∙ ap (λ l. l ++ x) f.2) b.2 (digit_no_mark f.0 f.3))
    go (inr (inl a)) (inr (inl b)) =
        let same = run_same is_ascii_digit w v x y (numeral_digits w a.0 a.2) (numeral_digits v b.0 b.2) a.3 b.3 e in
        let numbers : Some a.0 ≡ Some b.0 = sym a.2 ∙ ap numeral_of same.0 ∙ b.2 in
        let n : a.0 ≡ b.0 = cc in
        (same.0, same.1, a.1 ∙ ap number n ∙ sym b.1)
    go (inr (inl a)) (inr (inr b)) =
        let f = numeral_first w a.0 a.2 in
        let g = word_first v b.1 in
        absurd (digit_word f.0 g.0 (f.1 ++ x) (g.1 ++ y) (ap (λ l. l ++ x) (sym f.2) ∙ e ∙ ap (λ l. l ++ y) g.2) f.3 g.3)
    go (inr (inr a)) (inl b) =
        let f = word_first w a.1 in
        absurd (apart b.0 f.0 y (f.1 ++ x) t (ap (λ l. l ++ y) (sym b.1) ∙ sym e ∙ ap (λ l. l ++ x) f.2) b.2 (start_no_mark f.0 f.3))
    go (inr (inr a)) (inr (inl b)) =
        let f = word_first w a.1 in
        let g = numeral_first v b.0 b.2 in
        absurd (digit_word g.0 f.0 (g.1 ++ y) (f.1 ++ x) (ap (λ l. l ++ y) (sym g.2) ∙ sym e ∙ ap (λ l. l ++ x) f.2) g.3 f.3)
    go (inr (inr a)) (inr (inr b)) =
        let same = run_same is_xid_continue w v x y (word_run w a.1) (word_run v b.1) a.2 b.2 e in
        (same.0, same.1, a.0 ∙ ap word same.0 ∙ sym b.0)

-- a token doesn't begin with white space
pub first_dark : (w x : List ℕ) (s : Sign) → Spells w x s → (c : ℕ) × (v : List ℕ) × (w ≡ c ∷ v) × (is_white c ≡ false)
first_dark w x s h = go (read_as w x s h)
  where
    go : Read w x s → (c : ℕ) × (v : List ℕ) × (w ≡ c ∷ v) × (is_white c ≡ false)
    go (inl a) = (a.0, [], a.1, false_from_ne_true (is_white a.0) (λ e. let none : Some s ≡ None = sym a.2 ∙ white_no_mark a.0 e in cc))
    go (inr (inl a)) =
        let f = numeral_first w a.0 a.2 in
        (f.0, f.1, f.2, false_from_ne_true (is_white f.0) (λ e. both_ways (is_ascii_digit f.0) (white_no_digit f.0 e) f.3))
    go (inr (inr a)) =
        let f = word_first w a.1 in
        (f.0, f.1, f.2, false_from_ne_true (is_white f.0) (λ e. both_ways (is_xid_start f.0) (white_no_start f.0 e) f.3))

-- a character that is no mark, no digit and no start of an identifier
pub none_begins : (c : ℕ) (cs : List ℕ) → mark_of c ≡ None → is_ascii_digit c ≡ false → is_xid_start c ≡ false → BeginsNone (c ∷ cs)
none_begins c cs mark digit start w others s e h = go (read_as w others s h)
  where
    go : Read w others s → ⊥
    go (inl a) =
        let whole : c ∷ cs ≡ a.0 ∷ others = e ∙ ap (λ l. l ++ others) a.1 in
        let heads : c ≡ a.0 = cc in
        let none : Some s ≡ None = sym a.2 ∙ ap mark_of (sym heads) ∙ mark in
        cc
    go (inr (inl a)) =
        let f = numeral_first w a.0 a.2 in
        let whole : c ∷ cs ≡ f.0 ∷ f.1 ++ others = e ∙ ap (λ l. l ++ others) f.2 in
        let heads : c ≡ f.0 = cc in
        both_ways (is_ascii_digit c) digit (ap is_ascii_digit heads ∙ f.3)
    go (inr (inr a)) =
        let f = word_first w a.1 in
        let whole : c ∷ cs ≡ f.0 ∷ f.1 ++ others = e ∙ ap (λ l. l ++ others) f.2 in
        let heads : c ≡ f.0 = cc in
        both_ways (is_xid_start c) start (ap is_xid_start heads ∙ f.3)

-- a run of digits that is no numeral
pub bad_numeral : (c : ℕ) (v x : List ℕ) → list_all is_ascii_digit (c ∷ v) ≡ true → Stops is_ascii_digit x → numeral_of (c ∷ v) ≡ None → BeginsNone (c ∷ v ++ x)
bad_numeral c v x digits stop none w others s e h = go (read_as w others s h)
  where
    digit : is_ascii_digit c ≡ true
    digit = (and_parts _ _ digits).0

    go : Read w others s → ⊥
    go (inl a) =
        let whole : c ∷ v ++ x ≡ a.0 ∷ others = e ∙ ap (λ l. l ++ others) a.1 in
        let heads : c ≡ a.0 = cc in
        let clash : Some s ≡ None = sym a.2 ∙ ap mark_of (sym heads) ∙ digit_no_mark c digit in
        cc
    go (inr (inl a)) =
        let same = run_same is_ascii_digit (c ∷ v) w x others digits (numeral_digits w a.0 a.2) stop a.3 e in
        let clash : Some a.0 ≡ None = sym a.2 ∙ ap numeral_of (sym same.0) ∙ none in
        cc
    go (inr (inr a)) =
        let f = word_first w a.1 in
        let whole : c ∷ v ++ x ≡ f.0 ∷ f.1 ++ others = e ∙ ap (λ l. l ++ others) f.2 in
        let heads : c ≡ f.0 = cc in
        both_ways (is_xid_start c) (digit_no_start c digit) (ap is_xid_start heads ∙ f.3)

-- a run of characters of an identifier that is too long
pub bad_word : (c : ℕ) (v x : List ℕ) → is_xid_start c ≡ true → list_all is_xid_continue (c ∷ v) ≡ true → Stops is_xid_continue x → 64 < length (c ∷ v) → BeginsNone (c ∷ v ++ x)
bad_word c v x start run stop long w others s e h = go (read_as w others s h)
  where
    go : Read w others s → ⊥
    go (inl a) =
        let whole : c ∷ v ++ x ≡ a.0 ∷ others = e ∙ ap (λ l. l ++ others) a.1 in
        let heads : c ≡ a.0 = cc in
        let clash : Some s ≡ None = sym a.2 ∙ ap mark_of (sym heads) ∙ start_no_mark c start in
        cc
    go (inr (inl a)) =
        let f = numeral_first w a.0 a.2 in
        let whole : c ∷ v ++ x ≡ f.0 ∷ f.1 ++ others = e ∙ ap (λ l. l ++ others) f.2 in
        let heads : c ≡ f.0 = cc in
        both_ways (is_xid_start c) (digit_no_start c (ap is_ascii_digit heads ∙ f.3)) start
    go (inr (inr a)) =
        let same = run_same is_xid_continue (c ∷ v) w x others run (word_run w a.1) stop a.2 e in
        let short : length w ≤ 64 = a.1.1 in
        let n : length (c ∷ v) ≡ length w = ap length same.0 in
        omega (arith, short, n, long)

-- characters that start and continue an identifier, no more than 64
pub good_word : (c : ℕ) (v : List ℕ) → All IsScalar (c ∷ v) → is_xid_start c ≡ true → list_all is_xid_continue (c ∷ v) ≡ true → length (c ∷ v) ≤ 64 → IsWord (c ∷ v)
good_word c v scalars start run short = (scalars, short, (start, AllPass-from_list_all is_xid_continue v (and_parts _ _ run).1))
