-- The places of tokens rise.
use Rattle.std.proofs.Common.{◌≡◌, ℕ, zero, suc, ◌+◌, ◌<◌, ◌≤◌, true, List, [], ◌∷◌, ◌++◌, length, drop, refl, ◌∙◌, ap, arith}
use Rattle.std.specs.Prelude.{encode_utf8_all}
use Rattle.std.specs.Char.{encode_utf8}
use Rattle.std.specs.List.{list_all}
use Rattle.std.proofs.lemmas.Bool.{and_parts}
use Rattle.std.proofs.lemmas.List.{length-append}
use Rattle.std.proofs.lemmas.Str.{encodes-append, len_utf8_ascii, length-encode}
use Rattle.core_text.specs.Tokens.{is_white}
use Rattle.tps_reader.specs.Tokens.{AreTokensOf, Begins, Cuts, Token, token_length, token_place}
use Rattle.tps_reader.proofs.Signs.{white_cases}
use Rattle.script_text.specs.Grammar.{first_place}
use Rattle.script_text.specs.Tails.{Rises}

pub rises_lower : (a b : ℕ) (ts : List Token) (last : ℕ) → a ≤ b → Rises b ts last → Rises a ts last
rises_lower a b [] last low h = omega (arith, low, h)
rises_lower a b (t ∷ ts) last low h = let l : a ≤ token_place t = omega (arith, low, h.0) in (l, h.1)

pub rises_drop : (n : ℕ) (ts : List Token) (last : ℕ) → Rises 0 ts last → Rises 0 (drop n ts) last
rises_drop zero ts last h = h
rises_drop (suc n) [] last h = h
rises_drop (suc n) (t ∷ ts) last h = rises_drop n ts last (rises_lower 0 (token_place t) ts last (omega arith) h.1)

pub rises_end : (a : ℕ) (ts : List Token) (last : ℕ) → Rises a ts last → a ≤ last
rises_end a [] last h = h
rises_end a (t ∷ ts) last h = let more = rises_end (token_place t) ts last h.1 in omega (arith, more, h.0)

pub rises_front : (a : ℕ) (front back : List Token) (t : Token) (last : ℕ) → Rises a (front ++ (t ∷ back)) last → Rises a front (token_place t)
rises_front a [] back t last h = h.0
rises_front a (u ∷ front) back t last h = (h.0, rises_front (token_place u) front back t last h.1)

pub rises_at : (a : ℕ) (front back : List Token) (t : Token) (last : ℕ) → Rises a (front ++ (t ∷ back)) last → (a ≤ token_place t) × (token_place t ≤ last)
rises_at a [] back t last h = (h.0, rises_end (token_place t) back last h.1)
rises_at a (u ∷ front) back t last h =
    let more = rises_at (token_place u) front back t last h.1 in
    let low : a ≤ token_place t = omega (arith, more.0, h.0) in
    (low, more.1)

pub first_low : (ts : List Token) (last : ℕ) → Rises 0 ts last → first_place ts ≤ last
first_low [] last h = omega arith
first_low (t ∷ ts) last h = rises_end (token_place t) ts last h.1

pub first_at : (front back : List Token) (t : Token) (last : ℕ) → Rises 0 (front ++ (t ∷ back)) last → (first_place (front ++ (t ∷ back)) ≤ token_place t) × (token_place t ≤ last)
first_at [] back t last h = (omega arith, rises_end (token_place t) back last h.1)
first_at (u ∷ front) back t last h = rises_at (token_place u) front back t last h.1

-- white space is one byte each
white_low : (c : ℕ) → is_white c ≡ true → c < 128
white_low = white_cases (λ c. c < 128) (omega arith) (omega arith) (omega arith) (omega arith)

blank_bytes : (ws : List ℕ) → list_all is_white ws ≡ true → length (encode_utf8_all ws) ≡ length ws
blank_bytes [] h = refl
blank_bytes (c ∷ ws) h =
    let parts = and_parts _ _ h in
    let more = blank_bytes ws parts.1 in
    let one : length (encode_utf8 c) ≡ 1 = length-encode c ∙ len_utf8_ascii c (white_low c parts.0) in
    let both = length-append (encode_utf8 c) (encode_utf8_all ws) in
    omega (arith, both, one, more)

-- the bytes of the characters from a token's end on
bytes_left : (place : ℕ) (characters : List ℕ) (t : Token) (rest : List ℕ) (total : ℕ) → Begins place characters t rest → place + length (encode_utf8_all characters) ≡ total
    → token_place t + token_length t + length (encode_utf8_all rest) ≡ total
bytes_left place characters t rest total b e =
    let whole : length (encode_utf8_all characters) ≡ length (encode_utf8_all (b.white ++ (b.w ++ rest))) = ap (λ (l : List ℕ). length (encode_utf8_all l)) b.parts in
    let first : length (encode_utf8_all (b.white ++ (b.w ++ rest))) ≡ length (encode_utf8_all b.white) + length (encode_utf8_all (b.w ++ rest)) =
    ap length (encodes-append b.white (b.w ++ rest)) ∙ length-append (encode_utf8_all b.white) (encode_utf8_all (b.w ++ rest)) in
    let second : length (encode_utf8_all (b.w ++ rest)) ≡ length (encode_utf8_all b.w) + length (encode_utf8_all rest) =
    ap length (encodes-append b.w rest) ∙ length-append (encode_utf8_all b.w) (encode_utf8_all rest) in
    let blank = blank_bytes b.white b.blank in
    let at = b.at in
    let long = b.long in
    omega (arith, whole, first, second, blank, at, long, e)

cuts_rise : (ts : List Token) (place : ℕ) (characters : List ℕ) (last : ℕ) (others : List ℕ) (total : ℕ) → Cuts place characters ts last others → place + length (encode_utf8_all characters) ≡ total → Rises place ts total
cuts_rise [] place characters last others total h e = omega (arith, e)
cuts_rise (t ∷ ts) place characters last others total h e =
    let at : place ≤ token_place t = omega (arith, h.1.at) in
    let more : Rises (token_place t + token_length t) ts total = cuts_rise ts (token_place t + token_length t) h.0 last others total h.2 (bytes_left place characters t h.0 total h.1 e) in
    (at, rises_lower (token_place t) (token_place t + token_length t) ts total (omega arith) more)

-- the tokens of a text
pub text_rises : (bytes : List ℕ) (ts : List Token) → AreTokensOf bytes ts → Rises 0 ts (length bytes)
text_rises bytes ts h =
    let total : 0 + length (encode_utf8_all h.0) ≡ length bytes = let e : length (encode_utf8_all h.0) ≡ length bytes = ap length h.1.0 in omega (arith, e) in
    cuts_rise ts 0 h.0 h.2.0 h.2.1 (length bytes) h.2.2 total
