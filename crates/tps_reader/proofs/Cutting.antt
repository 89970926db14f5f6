-- Lists of characters cut into tokens.
use Rattle.std.proofs.Common.{◌≡◌, ◌≢◌, ℕ, suc, ◌+◌, ◌-◌, ◌<◌, ◌≤◌, Bool, true, false, List, [], ◌∷◌, ◌++◌, length, All, take, drop, get_or, None, refl, sym, ◌∙◌, ap, subst, arith, inl, inr, append-nil}
use Rattle.std.specs.Prelude.{encode_utf8_all}
use Rattle.std.specs.Char.{IsScalar, is_ascii_digit, encode_utf8}
use Rattle.std.specs.List.{list_all}
use Rattle.std.specs.Str.{all_scalars}
use Rattle.std.proofs.lemmas.Bool.{and_parts, and_from, both_ways}
use Rattle.std.proofs.lemmas.Bool.Decides.{eqb_tells}
use Rattle.std.proofs.lemmas.List.{get_or-drop, length-drop, length-append, length-take-le, take-append-drop, take_more, drop-drop, drop_more, get_or_default}
use Rattle.std.proofs.lemmas.List.Elements.{All-take, All-drop, All-head, All-tail}
use Rattle.std.proofs.lemmas.List.Folds.{list_all-append}
use Rattle.std.proofs.lemmas.Str.{encodes_same, encodes-append, length-encode, len_utf8_ascii}
use Rattle.unicode_ident.specs.Ident.{is_xid_start, is_xid_continue}
use Rattle.unicode_ident.proofs.IdentLemmas.{is_xid_start-is_xid_continue}
use Rattle.hol_terms.specs.Names.{IsWord}
use Rattle.core_text.specs.Tokens.{is_white}
use Rattle.core_text.specs.Words.{numeral_of}
use Rattle.core_text.proofs.Runs.{run_more}
use Rattle.tps_reader.specs.Tokens.{Sign, Token, token, sign_of, token_place, token_length, Begins, BeginsNone, Cuts, HasBadCharacter, HasTokens, AreTokensOf, Spells, Stops}
use Rattle.tps_reader.specs.Faults.{IsTokenFault}
use Rattle.tps_reader.specs.declared.faults.RawFault.{RawFault}
use Rattle.tps_reader.specs.declared.faults.RawFault.TheVariants.{NotUtf8, BadCharacter, TooDeep, Unexpected, Memory}
use Rattle.tps_reader.specs.Views.{plain_token, plain_tokens}
use Rattle.tps_reader.specs.declared.lexemes.Lexeme.{Lexeme}
use Rattle.tps_reader.proofs.Signs.{bad_numeral, bad_word, first_dark, good_word, run_same, spells_same, white_cases}

-- the test of the character at an index
pub run_next : (p : ℕ → Bool) (cs : List ℕ) (from at c : ℕ) → from ≤ at → at < length cs → list_all p (take (at - from) (drop from cs)) ≡ true → c ≡ get_or cs at c → p c ≡ true → list_all p (take (at + 1 - from) (drop from cs)) ≡ true
run_next p cs from at c low high run is h = run_more p cs from at low high run (ap p (get_or_default cs at 0 c high ∙ sym is) ∙ h)

pub stops_at : (p : ℕ → Bool) (cs : List ℕ) (end : ℕ) → (end < length cs → p (get_or cs end 0) ≡ false) → Stops p (drop end cs)
stops_at p cs end h = go (drop end cs) (λ some. ap p (get_or-drop end cs 0 0 ∙ ap (λ n. get_or cs n 0) z) ∙ h (omega (arith, length-drop end cs)))
  where
    z : end + 0 ≡ end
    z = omega arith

    go : (l : List ℕ) → (0 < length l → p (get_or l 0 0) ≡ false) → Stops p l
    go [] h = tt
    go (c ∷ l) h = h (omega arith)

pub parts_at : (cs : List ℕ) (at end : ℕ) → at ≤ end → end ≤ length cs → take (end - at) (drop at cs) ++ drop end cs ≡ drop at cs
parts_at cs at end low high =
    let there : at + (end - at) ≡ end = omega arith in
    ap (λ n. take (end - at) (drop at cs) ++ drop n cs) (sym there) ∙ ap (λ l. take (end - at) (drop at cs) ++ l) (sym (drop-drop (end - at) at cs)) ∙ take-append-drop (end - at) (drop at cs)

pub length_at : (cs : List ℕ) (at end : ℕ) → at ≤ end → end ≤ length cs → length (take (end - at) (drop at cs)) ≡ end - at
length_at cs at end low high = length-take-le (end - at) (drop at cs) (omega (arith, length-drop at cs))

head_at : (cs : List ℕ) (at : ℕ) → at < length cs → drop at cs ≡ get_or cs at 0 ∷ drop (at + 1) cs
head_at cs at h = drop_more cs at 0 h

cut_head : (cs : List ℕ) (at end : ℕ) → at < end → end ≤ length cs → take (end - at) (drop at cs) ≡ get_or cs at 0 ∷ take (end - (at + 1)) (drop (at + 1) cs)
cut_head cs at end low high =
    let inside : at < length cs = omega (arith, low, high) in
    let n : end - at ≡ suc (end - (at + 1)) = omega (arith, low) in
    ap (take (end - at)) (head_at cs at inside) ∙ ap (λ k. take k (get_or cs at 0 ∷ drop (at + 1) cs)) n

grows : (p : ℕ → Bool) (cs : List ℕ) (at end : ℕ) → at < length cs → at ≤ end → p (get_or cs at 0) ≡ true → (end < length cs → p (get_or cs end 0) ≡ false) → at < end
grows p cs at end inside low first stop =
    elim (eqb_tells at end) [
      | inl h ↦ absurd (both_ways (p (get_or cs end 0)) (stop (rw (← h.1) inside)) (ap (λ n. p (get_or cs n 0)) (sym h.1) ∙ first))
      | inr h ↦ omega (arith, h.1, low)
    ]

pub bad_numeral_at : (cs : List ℕ) (at end : ℕ) → at < length cs → at ≤ end → end ≤ length cs → is_ascii_digit (get_or cs at 0) ≡ true → list_all is_ascii_digit (take (end - at) (drop at cs)) ≡ true
    → (end < length cs → is_ascii_digit (get_or cs end 0) ≡ false) → numeral_of (take (end - at) (drop at cs)) ≡ None → BeginsNone (drop at cs)
bad_numeral_at cs at end inside low high first run stop none =
    let more : at < end = grows is_ascii_digit cs at end inside low first stop in
    let w = cut_head cs at end more high in
    let c = get_or cs at 0 in
    let v = take (end - (at + 1)) (drop (at + 1) cs) in
    let parts : c ∷ v ++ drop end cs ≡ drop at cs = ap (λ l. l ++ drop end cs) (sym w) ∙ parts_at cs at end low high in
    subst BeginsNone parts (bad_numeral c v (drop end cs) (ap (list_all is_ascii_digit) (sym w) ∙ run) (stops_at is_ascii_digit cs end stop) (ap numeral_of (sym w) ∙ none))

pub bad_word_at : (cs : List ℕ) (at end : ℕ) → at < end → end ≤ length cs → is_xid_start (get_or cs at 0) ≡ true → list_all is_xid_continue (take (end - (at + 1)) (drop (at + 1) cs)) ≡ true
    → (end < length cs → is_xid_continue (get_or cs end 0) ≡ false) → 64 < end - at → BeginsNone (drop at cs)
bad_word_at cs at end low high first run stop long =
    let w = cut_head cs at end low high in
    let c = get_or cs at 0 in
    let v = take (end - (at + 1)) (drop (at + 1) cs) in
    let parts : c ∷ v ++ drop end cs ≡ drop at cs = ap (λ l. l ++ drop end cs) (sym w) ∙ parts_at cs at end (omega arith) high in
    let n : length (c ∷ v) ≡ end - at = ap length (sym w) ∙ length_at cs at end (omega arith) high in
    subst BeginsNone parts (bad_word c v (drop end cs) first (and_from _ _ (is_xid_start-is_xid_continue c first) run) (stops_at is_xid_continue cs end stop) (omega (arith, n, long)))

pub word_at_is : (cs : List ℕ) (at end : ℕ) → All IsScalar cs → at < end → end ≤ length cs → is_xid_start (get_or cs at 0) ≡ true → list_all is_xid_continue (take (end - (at + 1)) (drop (at + 1) cs)) ≡ true
    → end - at ≤ 64 → IsWord (take (end - at) (drop at cs))
word_at_is cs at end scalars low high first run short =
    let w = cut_head cs at end low high in
    let c = get_or cs at 0 in
    let v = take (end - (at + 1)) (drop (at + 1) cs) in
    let all : All IsScalar (take (end - at) (drop at cs)) = All-take IsScalar (end - at) (drop at cs) (All-drop IsScalar at cs scalars) in
    let n : length (c ∷ v) ≡ end - at = ap length (sym w) ∙ length_at cs at end (omega arith) high in
    subst IsWord (sym w) (good_word c v (subst (λ (l : List ℕ). All IsScalar l) w all) first (and_from _ _ (is_xid_start-is_xid_continue c first) run) (omega (arith, n, short)))

-- bytes of characters
white_low : (c : ℕ) → is_white c ≡ true → c < 128
white_low = white_cases (λ c. c < 128) (omega arith) (omega arith) (omega arith) (omega arith)

blank_bytes : (ws : List ℕ) → list_all is_white ws ≡ true → length (encode_utf8_all ws) ≡ length ws
blank_bytes [] h = refl
blank_bytes (c ∷ ws) h =
    let parts = and_parts _ _ h in
    let more = blank_bytes ws parts.1 in
    let one : length (encode_utf8 c) ≡ 1 = length-encode c ∙ len_utf8_ascii c (white_low c parts.0) in
    let both = length-append (encode_utf8 c) (encode_utf8_all ws) in
    omega (arith, both, one, more)

pub bytes_at : (cs : List ℕ) (at end : ℕ) → at ≤ end → end ≤ length cs → length (encode_utf8_all (drop at cs)) ≡ length (encode_utf8_all (take (end - at) (drop at cs))) + length (encode_utf8_all (drop end cs))
bytes_at cs at end low high =
    ap (λ l. length (encode_utf8_all l)) (sym (parts_at cs at end low high)) ∙ ap length (encodes-append (take (end - at) (drop at cs)) (drop end cs))
    ∙ length-append (encode_utf8_all (take (end - at) (drop at cs))) (encode_utf8_all (drop end cs))

pub blank_at : (cs : List ℕ) (at end : ℕ) → at ≤ end → end ≤ length cs → list_all is_white (take (end - at) (drop at cs)) ≡ true → length (encode_utf8_all (drop at cs)) ≡ (end - at) + length (encode_utf8_all (drop end cs))
blank_at cs at end low high h =
    let a = bytes_at cs at end low high in
    let b = blank_bytes (take (end - at) (drop at cs)) h in
    let c = length_at cs at end low high in
    omega (arith, a, b, c)

-- one more character counted
pub bytes_next : (cs : List ℕ) (i c : ℕ) → i < length cs → c ≡ get_or cs i c → length (encode_utf8_all (take (i + 1) cs)) ≡ length (encode_utf8_all (take i cs)) + length (encode_utf8 c)
bytes_next cs i c inside is =
    let here : get_or cs i 0 ≡ c = get_or_default cs i 0 c inside ∙ sym is in
    let one : encode_utf8_all (get_or cs i 0 ∷ []) ≡ encode_utf8 c = append-nil (encode_utf8 (get_or cs i 0)) ∙ ap encode_utf8 here in
    ap (λ l. length (encode_utf8_all l)) (take_more cs i 0 inside) ∙ ap length (encodes-append (take i cs) (get_or cs i 0 ∷ [])) ∙ length-append (encode_utf8_all (take i cs)) (encode_utf8_all (get_or cs i 0 ∷ []))
    ∙ ap (λ l. length (encode_utf8_all (take i cs)) + length l) one

pub encode_next : (cs : List ℕ) (i c : ℕ) → i < length cs → c ≡ get_or cs i c → encode_utf8_all (take (i + 1) cs) ≡ encode_utf8_all (take i cs) ++ encode_utf8 c
encode_next cs i c inside is =
    let here : get_or cs i 0 ≡ c = get_or_default cs i 0 c inside ∙ sym is in
    let one : encode_utf8_all (get_or cs i 0 ∷ []) ≡ encode_utf8 c = append-nil (encode_utf8 (get_or cs i 0)) ∙ ap encode_utf8 here in
    ap encode_utf8_all (take_more cs i 0 inside) ∙ encodes-append (take i cs) (get_or cs i 0 ∷ []) ∙ ap (λ l. encode_utf8_all (take i cs) ++ l) one

pub bytes_upto : (cs : List ℕ) (i : ℕ) → length (encode_utf8_all (take i cs)) ≤ length (encode_utf8_all cs)
bytes_upto cs i =
    let whole = ap (λ l. length (encode_utf8_all l)) (sym (take-append-drop i cs)) ∙ ap length (encodes-append (take i cs) (drop i cs)) ∙ length-append (encode_utf8_all (take i cs)) (encode_utf8_all (drop i cs)) in
    omega (arith, whole)

-- a token after others
pub begins_at : (cs : List ℕ) (at start end place long : ℕ) (s : Sign) → at ≤ start → start ≤ end → end ≤ length cs → list_all is_white (take (start - at) (drop at cs)) ≡ true → Spells (take (end - start) (drop start cs)) (drop end cs) s
    → long ≡ length (encode_utf8_all (take (end - start) (drop start cs))) → Begins place (drop at cs) (token s (place + (start - at)) long) (drop end cs)
begins_at cs at start end place long s low middle high blank spelled n = record {
  white = take (start - at) (drop at cs);
  w = take (end - start) (drop start cs);
  parts = sym (parts_at cs at start low (omega (arith, middle, high))) ∙ ap (λ l. take (start - at) (drop at cs) ++ l) (sym (parts_at cs start end middle high));
  blank = blank;
  spelled = spelled;
  at = ap (λ k. place + k) (sym (length_at cs at start low (omega (arith, middle, high))));
  long = n;
}

pub cuts_push : (place : ℕ) (cs : List ℕ) (ts : List Token) (last : ℕ) (others : List ℕ) (t : Token) (rest : List ℕ) → Cuts place cs ts last others → Begins last others t rest → Cuts place cs (ts ++ t ∷ []) (token_place t + token_length t) rest
cuts_push place cs [] last others t rest h b =
    let here : Begins place cs t rest = subst (λ (p : ℕ). Begins p cs t rest) (sym h.0) (subst (λ (l : List ℕ). Begins last l t rest) (sym h.1) b) in
    (rest, here, (refl, refl))
cuts_push place cs (u ∷ ts) last others t rest h b = (h.0, h.1, cuts_push (token_place u + token_length u) h.0 ts last others t rest h.2 b)

-- the tokens are determined
begins_same : (place : ℕ) (cs : List ℕ) (t u : Token) (x y : List ℕ) → Begins place cs t x → Begins place cs u y → (t ≡ u) × (x ≡ y)
begins_same place cs (token s j m) (token r k n) x y g h =
    let f = first_dark g.w x s g.spelled in
    let d = first_dark h.w y r h.spelled in
    let same : g.white ++ (g.w ++ x) ≡ h.white ++ (h.w ++ y) = sym g.parts ∙ h.parts in
    let stop : (w others : List ℕ) → (c : ℕ) × (v : List ℕ) × (w ≡ c ∷ v) × (is_white c ≡ false) → Stops is_white (w ++ others) = λ w others f. subst (λ (w : List ℕ). Stops is_white (w ++ others)) (sym f.2) f.3 in
    let cut = run_same is_white g.white h.white (g.w ++ x) (h.w ++ y) g.blank h.blank (stop g.w x f) (stop h.w y d) same in
    let one = spells_same g.w h.w x y s r g.spelled h.spelled cut.1 in
    let places : j ≡ k = g.at ∙ ap (λ l. place + length l) cut.0 ∙ sym h.at in
    let lengths : m ≡ n = g.long ∙ ap (λ l. length (encode_utf8_all l)) one.0 ∙ sym h.long in
    (rw (one.2, places, lengths) refl, one.1)

-- white space alone has no token
blank_none : (place : ℕ) (cs : List ℕ) (t : Token) (rest : List ℕ) → list_all is_white cs ≡ true → Begins place cs t rest → ⊥
blank_none place cs t rest h b =
    let f = first_dark b.w rest (sign_of t) b.spelled in
    let parts = and_parts _ _ (sym (list_all-append is_white b.white (b.w ++ rest)) ∙ ap (list_all is_white) (sym b.parts) ∙ h) in
    let front : list_all is_white (f.0 ∷ f.1 ++ rest) ≡ true = ap (λ (w : List ℕ). list_all is_white (w ++ rest)) (sym f.2) ∙ parts.1 in
    both_ways (is_white f.0) f.3 (and_parts _ _ front).0

cuts_same : (place : ℕ) (cs : List ℕ) (ts us : List Token) (l m : ℕ) (x y : List ℕ) → Cuts place cs ts l x → list_all is_white x ≡ true → Cuts place cs us m y → list_all is_white y ≡ true → ts ≡ us
cuts_same place cs [] [] l m x y g a h b = refl
cuts_same place cs [] (u ∷ us) l m x y g a h b = absurd (blank_none place cs u h.0 (ap (list_all is_white) g.1 ∙ a) h.1)
cuts_same place cs (t ∷ ts) [] l m x y g a h b = absurd (blank_none place cs t g.0 (ap (list_all is_white) h.1 ∙ b) g.1)
cuts_same place cs (t ∷ ts) (u ∷ us) l m x y g a h b =
    let one = begins_same place cs t u g.0 h.0 g.1 h.1 in
    let there : Cuts (token_place t + token_length t) g.0 us m y = subst (λ (v : Token). Cuts (token_place v + token_length v) g.0 us m y) (sym one.0) (subst (λ (c : List ℕ). Cuts (token_place u + token_length u) c us m y) (sym one.1) h.2) in
    let more = cuts_same (token_place t + token_length t) g.0 ts us l m x y g.2 a there b in
    rw (one.0, more) refl

-- characters have one list of tokens at most
pub tokens_same : (cs : List ℕ) (ts us : List Token) → HasTokens cs ts → HasTokens cs us → ts ≡ us
tokens_same cs ts us g h = cuts_same 0 cs ts us g.0 h.0 g.1 h.1 g.2 g.3 h.2 h.3

bad_none : (place : ℕ) (cs white after : List ℕ) (bad : ℕ) (t : Token) (rest : List ℕ) → cs ≡ white ++ bad ∷ after → list_all is_white white ≡ true → is_white bad ≡ false → BeginsNone (bad ∷ after) → Begins place cs t rest → ⊥
bad_none place cs white after bad t rest e blank dark none b =
    let f = first_dark b.w rest (sign_of t) b.spelled in
    let stop : Stops is_white (b.w ++ rest) = subst (λ (w : List ℕ). Stops is_white (w ++ rest)) (sym f.2) f.3 in
    let same = run_same is_white white b.white (bad ∷ after) (b.w ++ rest) blank b.blank dark stop (sym e ∙ b.parts) in
    none b.w rest (sign_of t) same.1 b.spelled

bad_blank : (white after : List ℕ) (bad : ℕ) → is_white bad ≡ false → list_all is_white (white ++ bad ∷ after) ≡ true → ⊥
bad_blank white after bad dark h =
    let parts = and_parts _ _ (sym (list_all-append is_white white (bad ∷ after)) ∙ h) in
    both_ways (is_white bad) dark (and_parts _ _ parts.1).0

bad_cuts : (place : ℕ) (cs : List ℕ) (ts us : List Token) (l m : ℕ) (x y white after : List ℕ) (bad : ℕ) → x ≡ white ++ bad ∷ after → list_all is_white white ≡ true → is_white bad ≡ false → BeginsNone (bad ∷ after)
    → Cuts place cs ts l x → Cuts place cs us m y → list_all is_white y ≡ true → ⊥
bad_cuts place cs [] [] l m x y white after bad e blank dark none g h b = bad_blank white after bad dark (ap (list_all is_white) (sym e ∙ sym g.1 ∙ h.1) ∙ b)
bad_cuts place cs [] (u ∷ us) l m x y white after bad e blank dark none g h b = bad_none place cs white after bad u h.0 (g.1 ∙ e) blank dark none h.1
bad_cuts place cs (t ∷ ts) [] l m x y white after bad e blank dark none g h b = blank_none place cs t g.0 (ap (list_all is_white) h.1 ∙ b) g.1
bad_cuts place cs (t ∷ ts) (u ∷ us) l m x y white after bad e blank dark none g h b =
    let one = begins_same place cs t u g.0 h.0 g.1 h.1 in
    let there : Cuts (token_place t + token_length t) g.0 us m y = subst (λ (v : Token). Cuts (token_place v + token_length v) g.0 us m y) (sym one.0) (subst (λ (c : List ℕ). Cuts (token_place u + token_length u) c us m y) (sym one.1) h.2) in
    bad_cuts (token_place t + token_length t) g.0 ts us l m x y white after bad e blank dark none g.2 there b

-- and none where a character is bad
pub bad_no_tokens : (cs : List ℕ) (place : ℕ) (ts : List Token) → HasBadCharacter cs place → HasTokens cs ts → ⊥
bad_no_tokens cs place ts g h = bad_cuts 0 cs g.before ts g.last h.0 g.others h.1 g.white g.after g.bad g.parts g.blank g.no_white g.none g.cut h.2 h.3

-- a bad character after tokens
pub bad_at : (cs : List ℕ) (ts : List Token) (place at start : ℕ) → Cuts 0 cs ts place (drop at cs) → at ≤ start → start < length cs → list_all is_white (take (start - at) (drop at cs)) ≡ true → is_white (get_or cs start 0) ≡ false
    → BeginsNone (drop start cs) → HasBadCharacter cs (place + (start - at))
bad_at cs ts place at start cut low inside blank dark none =
    let head = head_at cs start inside in
    record {
      before = ts;
      last = place;
      others = drop at cs;
      cut = cut;
      white = take (start - at) (drop at cs);
      bad = get_or cs start 0;
      after = drop (start + 1) cs;
      parts = sym (parts_at cs at start low (omega (arith, inside))) ∙ ap (λ l. take (start - at) (drop at cs) ++ l) head;
      blank = blank;
      no_white = dark;
      none = subst BeginsNone head none;
      at = ap (λ k. place + k) (sym (length_at cs at start low (omega (arith, inside))));
    }

-- one token more
pub cut_more : (cs : List ℕ) (ts : List Token) (place at start end long : ℕ) (s : Sign) → Cuts 0 cs ts place (drop at cs) → at ≤ start → start ≤ end → end ≤ length cs → list_all is_white (take (start - at) (drop at cs)) ≡ true
    → Spells (take (end - start) (drop start cs)) (drop end cs) s → long ≡ length (encode_utf8_all (take (end - start) (drop start cs)))
    → Cuts 0 cs (ts ++ token s (place + (start - at)) long ∷ []) (place + (start - at) + long) (drop end cs)
cut_more cs ts place at start end long s cut low middle high blank spelled n =
    cuts_push 0 cs ts place (drop at cs) (token s (place + (start - at)) long) (drop end cs) cut (begins_at cs at start end place long s low middle high blank spelled n)

-- the bytes up to a token, its own and those after it
pub bytes_cut : (cs : List ℕ) (at start end place total : ℕ) → place + length (encode_utf8_all (drop at cs)) ≡ total → at ≤ start → start ≤ end → end ≤ length cs → list_all is_white (take (start - at) (drop at cs)) ≡ true
    → place + (start - at) + length (encode_utf8_all (take (end - start) (drop start cs))) + length (encode_utf8_all (drop end cs)) ≡ total
bytes_cut cs at start end place total h low middle high blank =
    let a = blank_at cs at start low (omega (arith, middle, high)) blank in
    let b = bytes_at cs start end middle high in
    omega (arith, a, b, h)

pub tokens_push : (lexemes : List Lexeme) (lexeme : Lexeme) → plain_tokens (lexemes ++ lexeme ∷ []) ≡ plain_tokens lexemes ++ plain_token lexeme ∷ []
tokens_push [] lexeme = refl
tokens_push (l ∷ lexemes) lexeme = ap (λ ts. plain_token l ∷ ts) (tokens_push lexemes lexeme)

scalars_from : (cs : List ℕ) → All IsScalar cs → all_scalars cs ≡ true
scalars_from [] h = refl
scalars_from (c ∷ cs) h = and_from _ _ (All-head IsScalar c cs h) (scalars_from cs (All-tail IsScalar c cs h))

-- a text has one list of tokens at most
pub one_reading : (bytes : List ℕ) (ts us : List Token) → AreTokensOf bytes ts → AreTokensOf bytes us → us ≡ ts
one_reading bytes ts us g h =
    let same : h.0 ≡ g.0 = encodes_same h.0 g.0 (h.1.0 ∙ sym g.1.0) in
    tokens_same g.0 us ts (subst (λ (cs : List ℕ). HasTokens cs us) same h.2) g.2

-- and none where there is a fault
pub no_reading : (bytes : List ℕ) (fault : RawFault) (ts : List Token) → IsTokenFault bytes fault → fault ≢ Memory → AreTokensOf bytes ts → ⊥
no_reading bytes NotUtf8 ts f real h = f (h.0, (scalars_from h.0 h.1.1, h.1.0))
no_reading bytes (BadCharacter place) ts f real h =
    let same : h.0 ≡ f.0 = encodes_same h.0 f.0 (h.1.0 ∙ sym f.1.0) in
    bad_no_tokens f.0 place ts f.2 (subst (λ (cs : List ℕ). HasTokens cs ts) same h.2)
no_reading bytes (TooDeep depth) ts f real h = f
no_reading bytes (Unexpected place) ts f real h = f
no_reading bytes Memory ts f real h = real refl
