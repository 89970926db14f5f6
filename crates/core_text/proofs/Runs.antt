-- Laws of words as longest runs.
use Rattle.std.proofs.Common.{◌≡◌, ℕ, ◌+◌, ◌-◌, ◌<◌, ◌≤◌, ◌==◌, ◌||◌, ◌&&◌, not, Bool, true, false, cond, List, [], ◌∷◌, ◌++◌, length, take, drop, get_or, refl, sym, ◌∙◌, ap, arith, eq-eqb, inl, inr}
use Rattle.std.specs.List.{list_all}
use Rattle.std.proofs.lemmas.List.{take_more, get_or-drop, length-drop, length-take-le, take-append-drop, drop-drop}
use Rattle.std.proofs.lemmas.Bool.{and_parts, ne_eqb, false≢true}
use Rattle.std.proofs.lemmas.Bool.Decides.{eqb_tells}
use Rattle.std.proofs.lemmas.List.Folds.{list_all-append}
use Rattle.core_text.specs.Tokens.{Piece, piece, opening, closing, word, is_white, is_in_word, onto, pieces}

-- one more byte of a word
pub run_more : (p : ℕ → Bool) (xs : List ℕ) (from at : ℕ) → from ≤ at → at < length xs → list_all p (take (at - from) (drop from xs)) ≡ true → p (get_or xs at 0) ≡ true → list_all p (take (at + 1 - from) (drop from xs)) ≡ true
run_more p xs from at low high h g =
    let next : at + 1 - from ≡ (at - from) + 1 = omega arith in
    let here : from + (at - from) ≡ at = omega arith in
    rw (next, take_more (drop from xs) (at - from) 0 (omega (arith, length-drop from xs)), get_or-drop from xs (at - from) 0, here, list_all-append p (take (at - from) (drop from xs)) (get_or xs at 0 ∷ []), h, g) refl

cond_at : {A : Type 0} (P : A → Type 0) (b : Bool) (x y : A) → P x → P y → P (cond b x y)
cond_at P true x y f g = f
cond_at P false x y f g = g

-- the first word, if a word is first, is not before this place
abbrev AtLeast : ℕ → List Piece → Type 0
AtLeast q [] = Unit {0}
AtLeast q (piece opening k ∷ ps) = Unit {0}
AtLeast q (piece closing k ∷ ps) = Unit {0}
AtLeast q (piece (word w) k ∷ ps) = q ≤ k

at_least-more : (q : ℕ) (ps : List Piece) → AtLeast (q + 1) ps → AtLeast q ps
at_least-more q [] h = tt
at_least-more q (piece opening k ∷ ps) h = tt
at_least-more q (piece closing k ∷ ps) h = tt
at_least-more q (piece (word w) k ∷ ps) h = omega arith

at_least-onto : (b q : ℕ) (ps : List Piece) → AtLeast q (onto b q ps)
at_least-onto b q [] = omega arith
at_least-onto b q (piece opening k ∷ ps) = omega arith
at_least-onto b q (piece closing k ∷ ps) = omega arith
at_least-onto b q (piece (word w) k ∷ ps) = cond_at (AtLeast q) (k == q + 1) _ _ (omega arith) (omega arith)

at_least : (bs : List ℕ) (q : ℕ) → AtLeast q (pieces q bs)
at_least [] q = tt
at_least (b ∷ bs) q =
    cond_at (AtLeast q) (is_white b) _ _ (at_least-more q (pieces (q + 1) bs) (at_least bs (q + 1)))
    (cond_at (AtLeast q) (b == 40) _ _ tt (cond_at (AtLeast q) (b == 41) _ _ tt (at_least-onto b q (pieces (q + 1) bs))))

-- the bytes begin with no byte of a word
abbrev pub EndsWord : List ℕ → Type 0
EndsWord [] = Unit {0}
EndsWord (b ∷ bs) = is_in_word b ≡ false

in_word : (a b c : Bool) → (not a && not (b || c)) ≡ true → (a ≡ false) × (b ≡ false) × (c ≡ false)
in_word false false false h = (refl, refl, refl)
in_word false false true h = cc
in_word false true c h = cc
in_word true b c h = cc

later : (b q : ℕ) (ps : List Piece) → AtLeast (q + 1 + 1) ps → onto b q ps ≡ piece (word (b ∷ [])) q ∷ ps
later b q [] g = refl
later b q (piece opening k ∷ ps) g = refl
later b q (piece closing k ∷ ps) g = refl
later b q (piece (word w) k ∷ ps) g = rw (ne_eqb k (q + 1) (λ e. omega arith)) refl

-- a byte of a word before what begins with none
onto_end : (b q : ℕ) (bs : List ℕ) → EndsWord bs → onto b q (pieces (q + 1) bs) ≡ piece (word (b ∷ [])) q ∷ pieces (q + 1) bs
onto_end b q [] h = refl
onto_end b q (c ∷ bs) h = go (is_white c) (c == 40) (c == 41) h
  where
    go : (s o e : Bool) → (not s && not (o || e)) ≡ false → onto b q (cond s (pieces (q + 1 + 1) bs) (cond o (piece opening (q + 1) ∷ pieces (q + 1 + 1) bs) (cond e (piece closing (q + 1) ∷ pieces (q + 1 + 1) bs) (onto c (q + 1) (pieces (q + 1 + 1) bs)))))
        ≡ piece (word (b ∷ [])) q ∷ cond s (pieces (q + 1 + 1) bs) (cond o (piece opening (q + 1) ∷ pieces (q + 1 + 1) bs) (cond e (piece closing (q + 1) ∷ pieces (q + 1 + 1) bs) (onto c (q + 1) (pieces (q + 1 + 1) bs))))
    go true o e h = later b q (pieces (q + 1 + 1) bs) (at_least bs (q + 1 + 1))
    go false true e h = refl
    go false false true h = refl
    go false false false h = cc

-- a whole word is one piece
words : (b : ℕ) (w bs : List ℕ) (place : ℕ) → list_all is_in_word (b ∷ w) ≡ true → EndsWord bs → pieces place (b ∷ w ++ bs) ≡ piece (word (b ∷ w)) place ∷ pieces (place + 1 + length w) bs
words b [] bs place h e =
    let t = in_word (is_white b) (b == 40) (b == 41) (and_parts _ _ h).0 in
    let z : place + 1 ≡ place + 1 + 0 = omega arith in
    rw (t.0, t.1, t.2) (onto_end b place bs e ∙ ap (λ n. piece (word (b ∷ [])) place ∷ pieces n bs) z)
words b (c ∷ w) bs place h e =
    let t = in_word (is_white b) (b == 40) (b == 41) (and_parts _ _ h).0 in
    let z : place + 1 + 1 + length w ≡ place + 1 + length (c ∷ w) = omega arith in
    rw (t.0, t.1, t.2) (ap (onto b place) (words c w bs (place + 1) (and_parts _ _ h).1 e)
    ∙ rw (eq-eqb (place + 1) (place + 1) refl) (ap (λ n. piece (word (b ∷ c ∷ w)) place ∷ pieces n bs) z))

pub whole_word : (w bs : List ℕ) (place : ℕ) → 0 < length w → list_all is_in_word w ≡ true → EndsWord bs → pieces place (w ++ bs) ≡ piece (word w) place ∷ pieces (place + length w) bs
whole_word [] bs place some h e = absurd (omega arith)
whole_word (b ∷ w) bs place some h e =
    let z : place + 1 + length w ≡ place + length (b ∷ w) = omega arith in
    words b w bs place h e ∙ ap (λ n. piece (word (b ∷ w)) place ∷ pieces n bs) z

ends : (bs : List ℕ) → (0 < length bs → is_in_word (get_or bs 0 0) ≡ false) → EndsWord bs
ends [] h = tt
ends (b ∷ bs) h = h (omega arith)

-- the piece of a word that ends here
pub word_piece : (xs : List ℕ) (at end : ℕ) → at < end → end ≤ length xs → list_all is_in_word (take (end - at) (drop at xs)) ≡ true → (end < length xs → is_in_word (get_or xs end 0) ≡ false)
    → pieces at (drop at xs) ≡ piece (word (take (end - at) (drop at xs))) at ∷ pieces end (drop end xs)
word_piece xs at end low high h stop =
    let long : length (take (end - at) (drop at xs)) ≡ end - at = length-take-le (end - at) (drop at xs) (omega (arith, length-drop at xs)) in
    let there : at + (end - at) ≡ end = omega arith in
    let parts : take (end - at) (drop at xs) ++ drop end xs ≡ drop at xs =
    ap (λ n. take (end - at) (drop at xs) ++ drop n xs) (sym there) ∙ ap (λ l. take (end - at) (drop at xs) ++ l) (sym (drop-drop (end - at) at xs)) ∙ take-append-drop (end - at) (drop at xs) in
    let zero_more : end + 0 ≡ end = omega arith in
    let e : EndsWord (drop end xs) = ends (drop end xs) (λ some. ap is_in_word (get_or-drop end xs 0 0 ∙ ap (λ n. get_or xs n 0) zero_more) ∙ stop (omega (arith, length-drop end xs))) in
    ap (pieces at) (sym parts) ∙ whole_word (take (end - at) (drop at xs)) (drop end xs) at (omega arith) h e
    ∙ ap (λ n. piece (word (take (end - at) (drop at xs))) at ∷ pieces n (drop end xs)) (ap (λ n. at + n) long ∙ there)

-- a word that begins here has a byte
pub grows : (xs : List ℕ) (at end : ℕ) → at < length xs → at ≤ end → is_white (get_or xs at 0) ≡ false → (get_or xs at 0 ≡ 40 → ⊥) → (get_or xs at 0 ≡ 41 → ⊥) → (end < length xs → is_in_word (get_or xs end 0) ≡ false) → at < end
grows xs at end low up space left right stop =
    elim (eqb_tells at end) [
      | inl h ↦ absurd (false≢true (sym (stop (rw (← h.1) low)) ∙ ap (λ n. is_in_word (get_or xs n 0)) (sym h.1) ∙ rw (space, ne_eqb _ _ left, ne_eqb _ _ right) refl))
      | inr h ↦ omega (arith, h.1)
    ]
