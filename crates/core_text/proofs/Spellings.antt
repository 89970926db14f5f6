-- The tokens of a text spell one form at most.
use Rattle.std.proofs.Common.{◌≡◌, ℕ, ◌^◌, ◌<◌, IsTrue, List, [], ◌∷◌, ◌++◌, decimal, refl, sym, ◌∙◌, ap, append_assoc, map}
use Rattle.std.proofs.lemmas.Fmt.{decimal_injective}
use Rattle.core_text.specs.Tokens.{Token, opening, closing, word, Piece, piece, token}
use Rattle.core_text.specs.Words.{is_word}
use Rattle.core_text.specs.Forms.{Form, word_form, number_form, list_form, Forms, no_forms, more_forms, spelling, spelling_of_all, IsWellSpelled, AreWellSpelled}
use Rattle.core_text.specs.Placed.{Placed, word_at, number_at, list_at, PlacedAll, none_at, more_at, form, forms, kept, layout, layout_of_all}
use Rattle.core_text.proofs.Identifiers.{word_is_no_numeral}

word_same : (v w : List ℕ) (x y : List Token) → word v ∷ x ≡ word w ∷ y → (v ≡ w) × (x ≡ y)
word_same v w x y h = (cc, cc)

no_number : (w : List ℕ) (n : ℕ) → IsTrue (is_word w) → n < 2 ^ 64 → w ≡ decimal n → ⊥
no_number w n h small e = word_is_no_numeral n small (rw (← e) h)

-- a form does not begin with a closing bracket
not_closing : (f : Form) (x y : List Token) → closing ∷ y ≡ spelling f ++ x → ⊥
not_closing (word_form w) x y h = cc
not_closing (number_form n) x y h = cc
not_closing (list_form fs) x y h = cc

mutual
  -- Two forms that spell prefixes of one list of tokens are the same. So no form is a proper prefix of another.
  pub same_form : (f g : Form) (x y : List Token) → IsWellSpelled f → IsWellSpelled g → spelling f ++ x ≡ spelling g ++ y → (f ≡ g) × (x ≡ y)
  same_form (word_form v) (word_form w) x y p q h = let t = word_same v w x y h in (ap word_form t.0, t.1)
  same_form (word_form v) (number_form n) x y p q h = absurd (no_number v n p q (word_same v (decimal n) x y h).0)
  same_form (word_form v) (list_form gs) x y p q h = cc
  same_form (number_form n) (word_form w) x y p q h = absurd (no_number w n q p (sym (word_same (decimal n) w x y h).0))
  same_form (number_form m) (number_form n) x y p q h = let t = word_same (decimal m) (decimal n) x y h in (ap number_form (decimal_injective m n p q t.0), t.1)
  same_form (number_form n) (list_form gs) x y p q h = cc
  same_form (list_form fs) (word_form w) x y p q h = cc
  same_form (list_form fs) (number_form n) x y p q h = cc
  same_form (list_form fs) (list_form gs) x y p q h =
      let tail : (spelling_of_all fs ++ closing ∷ []) ++ x ≡ (spelling_of_all gs ++ closing ∷ []) ++ y = cc in
      let t = same_forms fs gs x y p q (sym (append_assoc (spelling_of_all fs) (closing ∷ []) x) ∙ tail ∙ append_assoc (spelling_of_all gs) (closing ∷ []) y) in
      (ap list_form t.0, t.1)

  same_forms : (fs gs : Forms) (x y : List Token) → AreWellSpelled fs → AreWellSpelled gs → spelling_of_all fs ++ closing ∷ x ≡ spelling_of_all gs ++ closing ∷ y → (fs ≡ gs) × (x ≡ y)
  same_forms no_forms no_forms x y p q h = (refl, cc)
  same_forms no_forms (more_forms g gs) x y p q h = absurd (not_closing g (spelling_of_all gs ++ closing ∷ y) x (h ∙ append_assoc (spelling g) (spelling_of_all gs) (closing ∷ y)))
  same_forms (more_forms f fs) no_forms x y p q h = absurd (not_closing f (spelling_of_all fs ++ closing ∷ x) y (sym h ∙ append_assoc (spelling f) (spelling_of_all fs) (closing ∷ x)))
  same_forms (more_forms f fs) (more_forms g gs) x y p q h =
      let s = same_form f g (spelling_of_all fs ++ closing ∷ x) (spelling_of_all gs ++ closing ∷ y) p.0 q.0 (sym (append_assoc (spelling f) (spelling_of_all fs) (closing ∷ x)) ∙ h ∙ append_assoc (spelling g) (spelling_of_all gs) (closing ∷ y)) in
      let t = same_forms fs gs x y p.1 q.1 s.1 in
      (rw (s.0, t.0) refl, t.1)

-- forgetting places
pub token-kept : (ps : List Piece) → map token (map kept ps) ≡ map token ps
token-kept [] = refl
token-kept (piece opening k ∷ ps) = ap (λ l. opening ∷ l) (token-kept ps)
token-kept (piece closing k ∷ ps) = ap (λ l. closing ∷ l) (token-kept ps)
token-kept (piece (word w) k ∷ ps) = ap (λ l. word w ∷ l) (token-kept ps)

pub map_append : (xs ys : List Piece) → map token (xs ++ ys) ≡ map token xs ++ map token ys
map_append [] ys = refl
map_append (p ∷ xs) ys = ap (λ l. token p ∷ l) (map_append xs ys)

mutual
  -- the layout of a form has the tokens that spell it
  pub token-layout : (f : Placed) → map token (layout f) ≡ spelling (form f)
  token-layout (word_at w k) = refl
  token-layout (number_at n k) = refl
  token-layout (list_at fs k) = ap (λ l. opening ∷ l) (map_append (layout_of_all fs) (piece closing 0 ∷ []) ∙ ap (λ l. l ++ closing ∷ []) (token-layout_of_all fs))

  token-layout_of_all : (fs : PlacedAll) → map token (layout_of_all fs) ≡ spelling_of_all (forms fs)
  token-layout_of_all none_at = refl
  token-layout_of_all (more_at f fs) = map_append (layout f) (layout_of_all fs) ∙ rw (token-layout f, token-layout_of_all fs) refl
