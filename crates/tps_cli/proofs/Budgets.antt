-- How the options of `prove` stand.
use Rattle.std.proofs.Common.{◌≡◌, ◌⊎◌, ◌<◌, ◌≤◌, ◌∙◌, ℕ, List, [], ◌∷◌, ◌++◌, Some, Global, MatchOption, Option, None, String, ap, codes, inl, inr, length, map, refl, slice_index_or, string_bytes, sym}
use native.Mathlib.Omega.{arith}
use Rattle.std.proofs.lemmas.List.{length-map}
use Rattle.core_text.specs.Words.{numeral_of}
use Rattle.tps_cli.specs.Options.{AreBudget, AreOptions, IsNumberUpTo, IsOption}
use Rattle.tps_cli.specs.declared.options.Budget.{Budget}

-- none, one of them, or both in one order or the other
pub data Standing (b : Budget) (words : List (List ℕ)) : Type 0 where
  no_option : words ≡ [] → b.weight ≡ 6 → b.level ≡ 1 → Standing b words
  weight_alone : (w : List ℕ) → words ≡ codes "--weight" ∷ w ∷ [] → IsNumberUpTo 64 w b.weight → b.level ≡ 1 → Standing b words
  level_alone : (l : List ℕ) → words ≡ codes "--level" ∷ l ∷ [] → b.weight ≡ 6 → IsNumberUpTo 2 l b.level → Standing b words
  weight_first : (w l : List ℕ) → words ≡ codes "--weight" ∷ w ∷ codes "--level" ∷ l ∷ [] → AreBudget b w l → Standing b words
  level_first : (w l : List ℕ) → words ≡ codes "--level" ∷ l ∷ codes "--weight" ∷ w ∷ [] → AreBudget b w l → Standing b words

joined : (ws ls us vs : List (List ℕ)) → ws ≡ us → ls ≡ vs → ws ++ ls ≡ us ++ vs
joined ws ls us vs e f = ap (λ (x : List (List ℕ)). x ++ ls) e ∙ ap (λ (x : List (List ℕ)). us ++ x) f

by_cases :
    (b : Budget) (words ws ls : List (List ℕ)) → IsOption (codes "--weight") 6 64 b.weight ws
    → IsOption (codes "--level") 1 2 b.level ls → (words ≡ ws ++ ls) ⊎ (words ≡ ls ++ ws) → Standing b words
by_cases b words ws ls (inl (e, u)) (inl (f, v)) (inl both) = no_option (both ∙ joined ws ls _ _ e f) u v
by_cases b words ws ls (inl (e, u)) (inl (f, v)) (inr both) = no_option (both ∙ joined ls ws _ _ f e) u v
by_cases b words ws ls (inl (e, u)) (inr (l, f, v)) (inl both) = level_alone l (both ∙ joined ws ls _ _ e f) u v
by_cases b words ws ls (inl (e, u)) (inr (l, f, v)) (inr both) = level_alone l (both ∙ joined ls ws _ _ f e) u v
by_cases b words ws ls (inr (w, e, u)) (inl (f, v)) (inl both) = weight_alone w (both ∙ joined ws ls _ _ e f) u v
by_cases b words ws ls (inr (w, e, u)) (inl (f, v)) (inr both) = weight_alone w (both ∙ joined ls ws _ _ f e) u v
by_cases b words ws ls (inr (w, e, u)) (inr (l, f, v)) (inl both) = weight_first w l (both ∙ joined ws ls _ _ e f) (u, v)
by_cases b words ws ls (inr (w, e, u)) (inr (l, f, v)) (inr both) = level_first w l (both ∙ joined ls ws _ _ f e) (u, v)

pub standing : (b : Budget) (words : List (List ℕ)) → AreOptions b words → Standing b words
standing b words o = by_cases b words o.weight_words o.level_words o.weight o.level o.both

budgets : (b c : Budget) → b.weight ≡ c.weight → b.level ≡ c.level → b ≡ c
budgets b c e f = ap (λ (w : ℕ). record { weight = w; level = b.level }) e ∙ ap (λ (l : ℕ). record { weight = c.weight; level = l }) f

number_one : (greatest : ℕ) (v w : List ℕ) (m n : ℕ) → v ≡ w → IsNumberUpTo greatest v m → IsNumberUpTo greatest w n → m ≡ n
number_one greatest v w m n same (e, within) (f, within') =
    let numbers : Some m ≡ Some n = sym e ∙ ap numeral_of same ∙ f in cc

both_one : (b c : Budget) (v w k l : List ℕ) → v ≡ w → k ≡ l → AreBudget b v k → AreBudget c w l → b ≡ c
both_one b c v w k l e f (m, n) (m', n') = budgets b c (number_one 64 v w _ _ e m m') (number_one 2 k l _ _ f n n')

one : (b c : Budget) (words : List (List ℕ)) → Standing b words → Standing c words → b ≡ c
one b c words (no_option e u v) (no_option f u' v') = budgets b c (u ∙ sym u') (v ∙ sym v')
one b c words (no_option e u v) (weight_alone w f u' v') = cc
one b c words (no_option e u v) (level_alone l f u' v') = cc
one b c words (no_option e u v) (weight_first w l f n) = cc
one b c words (no_option e u v) (level_first w l f n) = cc
one b c words (weight_alone w e u v) (no_option f u' v') = cc
one b c words (weight_alone w e u v) (weight_alone w' f u' v') =
    let same : w ≡ w' = cc in budgets b c (number_one 64 w w' _ _ same u u') (v ∙ sym v')
one b c words (weight_alone w e u v) (level_alone l f u' v') = cc
one b c words (weight_alone w e u v) (weight_first w' l f n) = cc
one b c words (weight_alone w e u v) (level_first w' l f n) = cc
one b c words (level_alone l e u v) (no_option f u' v') = cc
one b c words (level_alone l e u v) (weight_alone w f u' v') = cc
one b c words (level_alone l e u v) (level_alone l' f u' v') =
    let same : l ≡ l' = cc in budgets b c (u ∙ sym u') (number_one 2 l l' _ _ same v v')
one b c words (level_alone l e u v) (weight_first w l' f n) = cc
one b c words (level_alone l e u v) (level_first w l' f n) = cc
one b c words (weight_first w l e m) (no_option f u' v') = cc
one b c words (weight_first w l e m) (weight_alone w' f u' v') = cc
one b c words (weight_first w l e m) (level_alone l' f u' v') = cc
one b c words (weight_first w l e m) (weight_first w' l' f n) =
    let same : w ≡ w' = cc in
    let same' : l ≡ l' = cc in both_one b c w w' l l' same same' m n
one b c words (weight_first w l e m) (level_first w' l' f n) = cc
one b c words (level_first w l e m) (no_option f u' v') = cc
one b c words (level_first w l e m) (weight_alone w' f u' v') = cc
one b c words (level_first w l e m) (level_alone l' f u' v') = cc
one b c words (level_first w l e m) (weight_first w' l' f n) = cc
one b c words (level_first w l e m) (level_first w' l' f n) =
    let same : w ≡ w' = cc in
    let same' : l ≡ l' = cc in both_one b c w w' l l' same same' m n

-- words are the options of one budget
pub options_one : (b c : Budget) (words : List (List ℕ)) → AreOptions b words → AreOptions c words → b ≡ c
options_one b c words o p = one b c words (standing b words o) (standing c words p)

within : (b : Budget) (words : List (List ℕ)) → Standing b words → (b.weight ≤ 64) × (b.level ≤ 2)
within b words (no_option e u v) = (omega (arith, u), omega (arith, v))
within b words (weight_alone w e u v) = (u.1, omega (arith, v))
within b words (level_alone l e u v) = (omega (arith, u), v.1)
within b words (weight_first w l e n) = (n.0.1, n.1.1)
within b words (level_first w l e n) = (n.0.1, n.1.1)

pub options_within : (b : Budget) (words : List (List ℕ)) → AreOptions b words → (b.weight ≤ 64) × (b.level ≤ 2)
options_within b words o = within b words (standing b words o)

-- Two words and four

abbrev pub IsOne : Budget → List ℕ → List ℕ → Type 0
IsOne b name number =
    ((name ≡ codes "--weight") × IsNumberUpTo 64 number b.weight × (b.level ≡ 1))
    ⊎ ((name ≡ codes "--level") × (b.weight ≡ 6) × IsNumberUpTo 2 number b.level)

one_of : (b : Budget) (name number : List ℕ) → Standing b (name ∷ number ∷ []) → IsOne b name number
one_of b name number (no_option e u v) = cc
one_of b name number (weight_alone w e u v) =
    let same : name ≡ codes "--weight" = cc in
    let same' : w ≡ number = cc in inl (same, rw same' at u, v)
one_of b name number (level_alone l e u v) =
    let same : name ≡ codes "--level" = cc in
    let same' : l ≡ number = cc in inr (same, u, rw same' at v)
one_of b name number (weight_first w l e n) = cc
one_of b name number (level_first w l e n) = cc

pub one_option : (b : Budget) (name number : List ℕ) → AreOptions b (name ∷ number ∷ []) → IsOne b name number
one_option b name number o = one_of b name number (standing b _ o)

abbrev pub AreTwo : Budget → List ℕ → List ℕ → List ℕ → List ℕ → Type 0
AreTwo b first number second other =
    ((first ≡ codes "--weight") × (second ≡ codes "--level") × AreBudget b number other)
    ⊎ ((first ≡ codes "--level") × (second ≡ codes "--weight") × AreBudget b other number)

two_of : (b : Budget) (first number second other : List ℕ) → Standing b (first ∷ number ∷ second ∷ other ∷ []) → AreTwo b first number second other
two_of b first number second other (no_option e u v) = cc
two_of b first number second other (weight_alone w e u v) = cc
two_of b first number second other (level_alone l e u v) = cc
two_of b first number second other (weight_first w l e n) =
    let same : w ≡ number = cc in
    let same' : l ≡ other = cc in
    let front : first ≡ codes "--weight" = cc in
    let back : second ≡ codes "--level" = cc in inl (front, back, rw same at rw same' at n)
two_of b first number second other (level_first w l e n) =
    let same : w ≡ other = cc in
    let same' : l ≡ number = cc in
    let front : first ≡ codes "--level" = cc in
    let back : second ≡ codes "--weight" = cc in inr (front, back, rw same at rw same' at n)

pub two_options :
    (b : Budget) (first number second other : List ℕ) → AreOptions b (first ∷ number ∷ second ∷ other ∷ []) → AreTwo b first number second other
two_options b first number second other o = two_of b first number second other (standing b _ o)

pub weight_set : (b : Budget) (number : List ℕ) → IsNumberUpTo 64 number b.weight → b.level ≡ 1 → AreOptions b (codes "--weight" ∷ number ∷ [])
weight_set b number u v =
    record { weight_words = codes "--weight" ∷ number ∷ []; level_words = []; weight = inr (number, refl, u); level = inl (refl, v); both = inl refl }

pub level_set : (b : Budget) (number : List ℕ) → b.weight ≡ 6 → IsNumberUpTo 2 number b.level → AreOptions b (codes "--level" ∷ number ∷ [])
level_set b number u v =
    record { weight_words = []; level_words = codes "--level" ∷ number ∷ []; weight = inl (refl, u); level = inr (number, refl, v); both = inl refl }

pub both_set : (b : Budget) (w l : List ℕ) → AreBudget b w l → AreOptions b (codes "--weight" ∷ w ∷ codes "--level" ∷ l ∷ [])
both_set b w l n =
    record {
      weight_words = codes "--weight" ∷ w ∷ [];
      level_words = codes "--level" ∷ l ∷ [];
      weight = inr (w, refl, n.0);
      level = inr (l, refl, n.1);
      both = inl refl;
    }

pub both_set_turned : (b : Budget) (w l : List ℕ) → AreBudget b w l → AreOptions b (codes "--level" ∷ l ∷ codes "--weight" ∷ w ∷ [])
both_set_turned b w l n =
    record {
      weight_words = codes "--weight" ∷ w ∷ [];
      level_words = codes "--level" ∷ l ∷ [];
      weight = inr (w, refl, n.0);
      level = inr (l, refl, n.1);
      both = inr refl;
    }

pub none_set : (b : Budget) → b.weight ≡ 6 → b.level ≡ 1 → AreOptions b []
none_set b u v = record { weight_words = []; level_words = []; weight = inl (refl, u); level = inl (refl, v); both = inl refl }

-- both are set exactly where both numbers are
pub both_match :
    (found : Option Budget) (n o : List ℕ) → MatchOption found ((b : Budget) → AreBudget b n o → ⊥) (λ b. AreBudget b n o)
    → MatchOption found ((b : Budget) → AreOptions b (codes "--weight" ∷ n ∷ codes "--level" ∷ o ∷ []) → ⊥)
    (λ b. AreOptions b (codes "--weight" ∷ n ∷ codes "--level" ∷ o ∷ []))
both_match None n o h = λ b options. elim (two_options b _ _ _ _ options) [ inl (x, y, m) ↦ h b m | inr (x, y, m) ↦ cc ]
both_match (Some b) n o h = both_set b n o h

pub both_match_turned :
    (found : Option Budget) (n o : List ℕ) → MatchOption found ((b : Budget) → AreBudget b n o → ⊥) (λ b. AreBudget b n o)
    → MatchOption found ((b : Budget) → AreOptions b (codes "--level" ∷ o ∷ codes "--weight" ∷ n ∷ []) → ⊥)
    (λ b. AreOptions b (codes "--level" ∷ o ∷ codes "--weight" ∷ n ∷ []))
both_match_turned None n o h = λ b options. elim (two_options b _ _ _ _ options) [ inl (x, y, m) ↦ cc | inr (x, y, m) ↦ h b m ]
both_match_turned (Some b) n o h = both_set_turned b n o h

-- Words in a slice

abbrev Words : Type 0
Words = List (String Global)

pub two_words :
    (l : Words) (a b : String Global) (x y : List ℕ) → a ≡ slice_index_or l 0 a → b ≡ slice_index_or l 1 b → 2 ≤ length l → length l < 3
    → x ≡ string_bytes a → y ≡ string_bytes b → map string_bytes l ≡ x ∷ y ∷ []
two_words [] a b x y e f low high u v = absurd (omega (arith, low))
two_words (a' ∷ []) a b x y e f low high u v = absurd (omega (arith, low))
two_words (a' ∷ b' ∷ []) a b x y e f low high u v = cc
two_words (a' ∷ b' ∷ c' ∷ l) a b x y e f low high u v = absurd (omega (arith, high))

pub four_words :
    (l : Words) (a b c d : String Global) (x y z w : List ℕ) → a ≡ slice_index_or l 0 a → b ≡ slice_index_or l 1 b → c ≡ slice_index_or l 2 c
    → d ≡ slice_index_or l 3 d → 4 ≤ length l → length l < 5 → x ≡ string_bytes a → y ≡ string_bytes b → z ≡ string_bytes c → w ≡ string_bytes d
    → map string_bytes l ≡ x ∷ y ∷ z ∷ w ∷ []
four_words [] a b c d x y z w e f g h low high p q r s = absurd (omega (arith, low))
four_words (a' ∷ []) a b c d x y z w e f g h low high p q r s = absurd (omega (arith, low))
four_words (a' ∷ b' ∷ []) a b c d x y z w e f g h low high p q r s = absurd (omega (arith, low))
four_words (a' ∷ b' ∷ c' ∷ []) a b c d x y z w e f g h low high p q r s = absurd (omega (arith, low))
four_words (a' ∷ b' ∷ c' ∷ d' ∷ []) a b c d x y z w e f g h low high p q r s = cc
four_words (a' ∷ b' ∷ c' ∷ d' ∷ e' ∷ l) a b c d x y z w e f g h low high p q r s = absurd (omega (arith, high))

pub no_words : (b : Budget) (l : Words) → length l < 1 → b.weight ≡ 6 → b.level ≡ 1 → AreOptions b (map string_bytes l)
no_words b [] low u v = none_set b u v
no_words b (a ∷ l) low u v = absurd (omega (arith, low))

-- options are none, one or two, each of two words
counted : (b : Budget) (words : List (List ℕ)) → Standing b words → (length words ≡ 0) ⊎ ((length words ≡ 2) ⊎ (length words ≡ 4))
counted b words (no_option e u v) = inl (ap length e)
counted b words (weight_alone w e u v) = inr (inl (ap length e))
counted b words (level_alone l e u v) = inr (inl (ap length e))
counted b words (weight_first w l e n) = inr (inr (ap length e))
counted b words (level_first w l e n) = inr (inr (ap length e))

pub option_count :
    (b : Budget) (l : Words) → AreOptions b (map string_bytes l) → (length l ≡ 0) ⊎ ((length l ≡ 2) ⊎ (length l ≡ 4))
option_count b l o =
    let same : length (map string_bytes l) ≡ length l = length-map l string_bytes in
    elim (counted b _ (standing b _ o)) [ inl e ↦ inl (sym same ∙ e) | inr h ↦ elim h [ inl e ↦ inr (inl (sym same ∙ e)) | inr e ↦ inr (inr (sym same ∙ e)) ] ]
