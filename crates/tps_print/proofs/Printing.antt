-- Pieces that are printed one after the other.
use Rattle.std.proofs.Common.{ℕ, List, [], ◌∷◌, ◌++◌, Bool, true, false, cond, ◌≡◌, refl, sym, ap, ap₂, ◌∙◌, ◌+◌, length, arith, append_assoc, append-nil, length-append}
use Rattle.std.specs.Prelude.{Contains, codes, encode_utf8_all}
use Rattle.std.specs.List.{list_any}
use Rattle.hol_terms.specs.Terms.{Variable}
use Rattle.hol_terms.specs.Collected.{with_variable}
use Rattle.hol_terms.specs.Computed.{same_variable}
use Rattle.hol_terms.proofs.Placing.{with_variable_held, with_variable_put}
use Rattle.tps_print.specs.Outputs.{State, after, with_piece}
use Rattle.tps_print.specs.Pieces.{Piece, fixed, occurrence, bracketed, first_type, in_parentheses, written}

pub after_both : (state : State) (ps qs : List Piece) → after state (ps ++ qs) ≡ after (after state ps) qs
after_both state [] qs = refl
after_both state (p ∷ ps) qs = after_both (with_piece state p) ps qs

-- what was printed is what is written
pub after_writes : (state : State) (ps : List Piece) → (after state ps).0 ≡ state.0 ++ written state.1 ps
after_writes state [] = sym (append-nil state.0)
after_writes state (fixed bytes ∷ ps) = after_writes (state.0 ++ bytes, state.1) ps ∙ append_assoc state.0 bytes (written state.1 ps)
after_writes state (occurrence v ∷ ps) =
    after_writes (state.0 ++ (encode_utf8_all v.0 ++ first_type state.1 v), with_variable state.1 v) ps
    ∙ append_assoc state.0 (encode_utf8_all v.0 ++ first_type state.1 v) (written (with_variable state.1 v) ps)
    ∙ ap (λ (l : List ℕ). state.0 ++ l) (append_assoc (encode_utf8_all v.0) (first_type state.1 v) (written (with_variable state.1 v) ps))

-- an occurrence of a variable

no_longer : (xs : List Variable) (v : Variable) → xs ≡ xs ++ v ∷ [] → ⊥
no_longer xs v e = let longer : length xs ≡ length xs + 1 = ap length e ∙ length-append xs (v ∷ []) in absurd (omega (arith, longer))

pub first_type_held : (xs : List Variable) (v : Variable) → Contains xs v → first_type xs v ≡ []
first_type_held xs v held = by_test (list_any (same_variable v) xs) (with_variable_held v xs xs held refl)
  where
    by_test : (b : Bool) → xs ≡ cond b xs (xs ++ v ∷ []) → cond b [] (in_parentheses v.1) ≡ []
    by_test true e = refl
    by_test false e = absurd (no_longer xs v e)

pub first_type_new : (xs : List Variable) (v : Variable) → (Contains xs v → ⊥) → first_type xs v ≡ in_parentheses v.1
first_type_new xs v none = by_test (list_any (same_variable v) xs) (with_variable_put v xs (xs ++ v ∷ []) none refl)
  where
    by_test : (b : Bool) → xs ++ v ∷ [] ≡ cond b xs (xs ++ v ∷ []) → cond b [] (in_parentheses v.1) ≡ in_parentheses v.1
    by_test true e = absurd (no_longer xs v (sym e))
    by_test false e = refl

pub variable_known : (state : State) (v : Variable) (text : List ℕ) (seen : List Variable)
    → text ≡ state.0 ++ encode_utf8_all v.0 → Contains state.1 v × (seen ≡ state.1) → (text, seen) ≡ with_piece state (occurrence v)
variable_known state v text seen named known =
    let pair : List ℕ → List Variable → State = λ t s. (t, s) in
    ap₂ pair
    (named ∙ ap (λ (l : List ℕ). state.0 ++ l) (sym (append-nil (encode_utf8_all v.0)) ∙ ap (λ (l : List ℕ). encode_utf8_all v.0 ++ l) (sym (first_type_held state.1 v known.0))))
    (with_variable_held v state.1 seen known.0 known.1)

pub variable_put : (state : State) (v : Variable) (text whole : List ℕ) (seen : List Variable)
    → text ≡ state.0 ++ encode_utf8_all v.0 → whole ≡ text ++ in_parentheses v.1 → (Contains state.1 v → ⊥) × (seen ≡ state.1 ++ v ∷ [])
    → (whole, seen) ≡ with_piece state (occurrence v)
variable_put state v text whole seen named typed put =
    let pair : List ℕ → List Variable → State = λ t s. (t, s) in
    ap₂ pair
    (typed ∙ ap (λ (l : List ℕ). l ++ in_parentheses v.1) named ∙ append_assoc state.0 (encode_utf8_all v.0) (in_parentheses v.1)
    ∙ ap (λ (l : List ℕ). state.0 ++ (encode_utf8_all v.0 ++ l)) (sym (first_type_new state.1 v put.0)))
    (with_variable_put v state.1 seen put.0 put.1)

-- brackets

pub no_bytes : (state : State) → after state (fixed [] ∷ []) ≡ state
no_bytes state = let pair : List ℕ → State = λ t. (t, state.1) in ap pair (append-nil state.0)

pub after_bracketed : (b : Bool) (state : State) (ps : List Piece)
    → after state (bracketed b ps) ≡ after (after (after state (fixed (cond b (codes "[") []) ∷ [])) ps) (fixed (cond b (codes "]") []) ∷ [])
after_bracketed true state ps = after_both (with_piece state (fixed (codes "["))) ps (fixed (codes "]") ∷ [])
after_bracketed false state ps =
    sym (no_bytes (after (after state (fixed [] ∷ [])) ps) ∙ ap (λ (s : State). after s ps) (no_bytes state))

abbrev opening : Bool → Piece
opening b = fixed (cond b (codes "[") [])

abbrev closing : Bool → Piece
closing b = fixed (cond b (codes "]") [])

-- bytes and then pieces, in brackets where they are wanted
pub around_one : (b : Bool) (state opened started done closed : State) (word : List ℕ) (ps : List Piece)
    → opened ≡ after state (opening b ∷ []) → started ≡ after opened (fixed word ∷ []) → done ≡ after started ps → closed ≡ after done (closing b ∷ [])
    → closed ≡ after state (bracketed b (fixed word ∷ ps))
around_one b state opened started done closed word ps e f g h =
    h ∙ ap (λ (s : State). after s (closing b ∷ [])) (g ∙ ap (λ (s : State). after s ps) (f ∙ ap (λ (s : State). after s (fixed word ∷ [])) e))
    ∙ sym (after_bracketed b state (fixed word ∷ ps))

-- pieces, bytes and pieces, in brackets where they are wanted
pub around_two : (b : Bool) (state opened first joined second closed : State) (ps qs : List Piece) (word : List ℕ)
    → opened ≡ after state (opening b ∷ []) → first ≡ after opened ps → joined ≡ after first (fixed word ∷ []) → second ≡ after joined qs → closed ≡ after second (closing b ∷ [])
    → closed ≡ after state (bracketed b (ps ++ (fixed word ∷ qs)))
around_two b state opened first joined second closed ps qs word e f g h i =
    i ∙ ap (λ (s : State). after s (closing b ∷ []))
    (h ∙ ap (λ (s : State). after s qs) (g ∙ ap (λ (s : State). after s (fixed word ∷ [])) (f ∙ ap (λ (s : State). after s ps) e))
    ∙ sym (after_both (after state (opening b ∷ [])) ps (fixed word ∷ qs)))
    ∙ sym (after_bracketed b state (ps ++ (fixed word ∷ qs)))
