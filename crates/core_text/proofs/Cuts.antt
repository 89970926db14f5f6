-- The prefix of a text is no text.
use Rattle.std.proofs.Common.{◌≡◌, ℕ, ◌+◌, ◌==◌, Bool, true, false, cond, List, [], ◌∷◌, ◌++◌, length, map, decimal, refl, sym, ◌∙◌, ap, subst, append-nil, append_assoc, arith}
use Rattle.core_text.specs.Tokens.{Token, opening, closing, word, Piece, piece, token, is_white, onto, pieces}
use Rattle.core_text.specs.Forms.{Form, word_form, number_form, list_form, IsTextOf, IsWellSpelled, spelling, spelling_of_all}
use Rattle.core_text.proofs.Spellings.{map_append, same_form}

onto_before : (b q k : ℕ) (ps rest : List Piece) → onto b q (ps ++ piece closing k ∷ rest) ≡ onto b q ps ++ piece closing k ∷ rest
onto_before b q k [] rest = refl
onto_before b q k (piece opening j ∷ ps) rest = refl
onto_before b q k (piece closing j ∷ ps) rest = refl
onto_before b q k (piece (word w) j ∷ ps) rest = go (j == q + 1)
  where
    go : (t : Bool) → cond t (piece (word (b ∷ w)) q ∷ ps ++ piece closing k ∷ rest) (piece (word (b ∷ [])) q ∷ piece (word w) j ∷ ps ++ piece closing k ∷ rest)
        ≡ cond t (piece (word (b ∷ w)) q ∷ ps) (piece (word (b ∷ [])) q ∷ piece (word w) j ∷ ps) ++ piece closing k ∷ rest
    go true = refl
    go false = refl

-- the pieces before a closing bracket are those of the front
cut_pieces : (q : ℕ) (front back : List ℕ) → pieces q (front ++ 41 ∷ back) ≡ pieces q front ++ piece closing (q + length front) ∷ pieces (q + length front + 1) back
cut_pieces q [] back = let z : q ≡ q + 0 = omega arith in ap (λ n. piece closing n ∷ pieces (n + 1) back) z
cut_pieces q (b ∷ front) back =
    let n : q + 1 + length front ≡ q + length (b ∷ front) = omega arith in
    ap (λ l. cond (is_white b) l (cond (b == 40) (piece opening q ∷ l) (cond (b == 41) (piece closing q ∷ l) (onto b q l)))) (cut_pieces (q + 1) front back)
    ∙ go (is_white b) (b == 40) (b == 41) (pieces (q + 1) front) (q + 1 + length front) (pieces (q + 1 + length front + 1) back)
    ∙ ap (λ k. pieces q (b ∷ front) ++ piece closing k ∷ pieces (k + 1) back) n
  where
    go : (s o c : Bool) (ps : List Piece) (k : ℕ) (rest : List Piece)
        → cond s (ps ++ piece closing k ∷ rest) (cond o (piece opening q ∷ ps ++ piece closing k ∷ rest) (cond c (piece closing q ∷ ps ++ piece closing k ∷ rest) (onto b q (ps ++ piece closing k ∷ rest))))
        ≡ cond s ps (cond o (piece opening q ∷ ps) (cond c (piece closing q ∷ ps) (onto b q ps))) ++ piece closing k ∷ rest
    go true o c ps k rest = refl
    go false true c ps k rest = refl
    go false false true ps k rest = refl
    go false false false ps k rest = onto_before b q k ps rest

pub no_front : (f g : Form) (rest : List Token) → IsWellSpelled f → IsWellSpelled g → spelling f ++ rest ≡ spelling g → (f ≡ g) × (rest ≡ [])
no_front f g rest p q h = same_form f g rest [] p q (h ∙ sym (append-nil (spelling g)))

-- the tokens don't end in a word
abbrev IsParted : List Token → Type 0
IsParted [] = Unit {0}
IsParted (word w ∷ []) = ⊥
IsParted (opening ∷ []) = Unit {0}
IsParted (closing ∷ []) = Unit {0}
IsParted (t ∷ u ∷ ts) = IsParted (u ∷ ts)

parted_rest : (t : Token) (ts : List Token) → IsParted (t ∷ ts) → IsParted ts
parted_rest t [] h = tt
parted_rest t (u ∷ ts) h = h

parted_closing : (ts : List Token) → IsParted (ts ++ closing ∷ [])
parted_closing [] = tt
parted_closing (t ∷ []) = tt
parted_closing (t ∷ u ∷ ts) = parted_closing (u ∷ ts)

other_word : (v w : List ℕ) (ts : List Token) → IsParted (word v ∷ ts) → IsParted (word w ∷ ts)
other_word v w [] h = absurd h
other_word v w (u ∷ ts) h = h

-- before a byte of a word
onto_parted : (b q : ℕ) (ps : List Piece) → IsParted (map token (onto b q ps)) → IsParted (map token ps)
onto_parted b q [] h = absurd h
onto_parted b q (piece opening k ∷ ps) h = h
onto_parted b q (piece closing k ∷ ps) h = h
onto_parted b q (piece (word w) k ∷ ps) h = go (k == q + 1) h
  where
    go : (t : Bool) → IsParted (map token (cond t (piece (word (b ∷ w)) q ∷ ps) (piece (word (b ∷ [])) q ∷ piece (word w) k ∷ ps))) → IsParted (word w ∷ map token ps)
    go true h = other_word (b ∷ w) w (map token ps) h
    go false h = h

onto_with : (b q : ℕ) (ps rest : List Piece) → IsParted (map token (onto b q ps)) → onto b q (ps ++ rest) ≡ onto b q ps ++ rest
onto_with b q [] rest h = absurd h
onto_with b q (piece opening k ∷ ps) rest h = refl
onto_with b q (piece closing k ∷ ps) rest h = refl
onto_with b q (piece (word w) k ∷ ps) rest h = go (k == q + 1)
  where
    go : (t : Bool) → cond t (piece (word (b ∷ w)) q ∷ ps ++ rest) (piece (word (b ∷ [])) q ∷ piece (word w) k ∷ ps ++ rest)
        ≡ cond t (piece (word (b ∷ w)) q ∷ ps) (piece (word (b ∷ [])) q ∷ piece (word w) k ∷ ps) ++ rest
    go true = refl
    go false = refl

-- the pieces of a front that doesn't end in a word stay, whatever follows it
pieces_with : (q : ℕ) (front more : List ℕ) → IsParted (map token (pieces q front)) → pieces q (front ++ more) ≡ pieces q front ++ pieces (q + length front) more
pieces_with q [] more h = let z : q ≡ q + 0 = omega arith in ap (λ n. pieces n more) z
pieces_with q (b ∷ front) more h =
    let n : q + 1 + length front ≡ q + length (b ∷ front) = omega arith in
    go (is_white b) (b == 40) (b == 41) (pieces_with (q + 1) front more) h ∙ ap (λ k. pieces q (b ∷ front) ++ pieces k more) n
  where
    go : (s o c : Bool)
        → (IsParted (map token (pieces (q + 1) front)) → pieces (q + 1) (front ++ more) ≡ pieces (q + 1) front ++ pieces (q + 1 + length front) more)
        → IsParted (map token (cond s (pieces (q + 1) front) (cond o (piece opening q ∷ pieces (q + 1) front) (cond c (piece closing q ∷ pieces (q + 1) front) (onto b q (pieces (q + 1) front))))))
        → cond s (pieces (q + 1) (front ++ more)) (cond o (piece opening q ∷ pieces (q + 1) (front ++ more)) (cond c (piece closing q ∷ pieces (q + 1) (front ++ more)) (onto b q (pieces (q + 1) (front ++ more)))))
        ≡ cond s (pieces (q + 1) front) (cond o (piece opening q ∷ pieces (q + 1) front) (cond c (piece closing q ∷ pieces (q + 1) front) (onto b q (pieces (q + 1) front)))) ++ pieces (q + 1 + length front) more
    go true o c rest h = rest h
    go false true c rest h = ap (λ l. piece opening q ∷ l) (rest (parted_rest opening (map token (pieces (q + 1) front)) h))
    go false false true rest h = ap (λ l. piece closing q ∷ l) (rest (parted_rest closing (map token (pieces (q + 1) front)) h))
    go false false false rest h =
        ap (onto b q) (rest (onto_parted b q (pieces (q + 1) front) h))
        ∙ onto_with b q (pieces (q + 1) front) (pieces (q + 1 + length front) more) h

-- the first token is an opening bracket, or it is no word
abbrev StartsOpening : List Token → Type 0
StartsOpening [] = ⊥
StartsOpening (opening ∷ ts) = Unit {0}
StartsOpening (closing ∷ ts) = ⊥
StartsOpening (word w ∷ ts) = ⊥

abbrev StartsWithoutWord : List Token → Type 0
StartsWithoutWord [] = Unit {0}
StartsWithoutWord (opening ∷ ts) = Unit {0}
StartsWithoutWord (closing ∷ ts) = Unit {0}
StartsWithoutWord (word w ∷ ts) = ⊥

onto_is_word : (b q : ℕ) (ps : List Piece) → StartsOpening (map token (onto b q ps)) → ⊥
onto_is_word b q [] h = h
onto_is_word b q (piece opening k ∷ ps) h = h
onto_is_word b q (piece closing k ∷ ps) h = h
onto_is_word b q (piece (word w) k ∷ ps) h = go (k == q + 1) h
  where
    go : (t : Bool) → StartsOpening (map token (cond t (piece (word (b ∷ w)) q ∷ ps) (piece (word (b ∷ [])) q ∷ piece (word w) k ∷ ps))) → ⊥
    go true h = h
    go false h = h

-- a front of what starts with an opening bracket starts with no word
front_start : (q : ℕ) (front more : List ℕ) → StartsOpening (map token (pieces q (front ++ more))) → StartsWithoutWord (map token (pieces q front))
front_start q [] more h = tt
front_start q (b ∷ front) more h = go (is_white b) (b == 40) (b == 41) (pieces (q + 1) (front ++ more)) (pieces (q + 1) front) (front_start (q + 1) front more) h
  where
    go : (s o c : Bool) (whole ps : List Piece) → (StartsOpening (map token whole) → StartsWithoutWord (map token ps))
        → StartsOpening (map token (cond s whole (cond o (piece opening q ∷ whole) (cond c (piece closing q ∷ whole) (onto b q whole)))))
        → StartsWithoutWord (map token (cond s ps (cond o (piece opening q ∷ ps) (cond c (piece closing q ∷ ps) (onto b q ps)))))
    go true o c whole ps rest h = rest h
    go false true c whole ps rest h = tt
    go false false true whole ps rest h = absurd h
    go false false false whole ps rest h = absurd (onto_is_word b q whole h)

not_none : (xs ys : List Token) → xs ++ closing ∷ ys ≡ [] → ⊥
not_none [] ys h = cc
not_none (x ∷ xs) ys h = cc

not_one_word : (w : List ℕ) (xs ys : List Token) → xs ++ closing ∷ ys ≡ word w ∷ [] → ⊥
not_one_word w [] ys h = cc
not_one_word w (x ∷ xs) ys h = let rest : xs ++ closing ∷ ys ≡ [] = cc in not_none xs ys rest

-- a form with a closing bracket is a list
starts_opening : (f : Form) (xs ys : List Token) → xs ++ closing ∷ ys ≡ spelling f → StartsOpening (spelling f)
starts_opening (word_form w) xs ys h = absurd (not_one_word w xs ys h)
starts_opening (number_form n) xs ys h = absurd (not_one_word (decimal n) xs ys h)
starts_opening (list_form fs) xs ys h = tt

-- the tokens of bytes with a closing bracket
with_closing : (q : ℕ) (front back : List ℕ) → (xs : List Token) × (ys : List Token) × (map token (pieces q (front ++ 41 ∷ back)) ≡ xs ++ closing ∷ ys)
with_closing q front back = (
  map token (pieces q front),
  map token (pieces (q + length front + 1) back),
  ap (map token) (cut_pieces q front back) ∙ map_append (pieces q front) (piece closing (q + length front) ∷ pieces (q + length front + 1) back),
)

-- a form that the front spells, before a closing bracket of the whole
front_of : (g f : Form) (front middle back : List ℕ) → IsTextOf (front ++ (middle ++ 41 ∷ back)) f → IsTextOf front g → StartsWithoutWord (spelling g) → ⊥
front_of (word_form w) f front middle back whole part start = start
front_of (number_form n) f front middle back whole part start = start
front_of (list_form gs) f front middle back whole part start =
    let g = list_form gs in
    let more = pieces (0 + length front) (middle ++ 41 ∷ back) in
    let parted = subst IsParted (sym part.spelled) (parted_closing (opening ∷ spelling_of_all gs)) in
    let both = ap (map token) (pieces_with 0 front (middle ++ 41 ∷ back) parted) ∙ map_append (pieces 0 front) more in
    let spelled : spelling g ++ map token more ≡ spelling f = ap (λ l. l ++ map token more) (sym part.spelled) ∙ sym both ∙ whole.spelled in
    let none = (no_front g f (map token more) part.words whole.words spelled).1 in
    let rest = with_closing (0 + length front) middle back in
    not_none rest.0 rest.1 (sym rest.2 ∙ none)

pub cut : (front middle back : List ℕ) (f g : Form) → IsTextOf (front ++ (middle ++ 41 ∷ back)) f → IsTextOf front g → ⊥
cut front middle back f g whole part =
    let rest = with_closing 0 (front ++ middle) back in
    let closes = sym rest.2 ∙ ap (λ l. map token (pieces 0 l)) (append_assoc front middle (41 ∷ back)) ∙ whole.spelled in
    let starts = subst StartsOpening (sym whole.spelled) (starts_opening f rest.0 rest.1 closes) in
    front_of g f front middle back whole part (subst StartsWithoutWord part.spelled (front_start 0 front (middle ++ 41 ∷ back) starts))
