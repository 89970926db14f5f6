-- Lines and their parts, written one after the other.
use Rattle.std.proofs.Common.{◌≡◌, ℕ, List, [], ◌∷◌, ◌++◌, codes, decimal, refl, ◌∙◌, ap, append_assoc}
use Rattle.hol_terms.specs.Terms.{Term}
use Rattle.core_text.specs.CoreForms.{term_form, triple_form}
use Rattle.core_text.specs.Forms.{list_form, number_form, word_form}
use Rattle.core_text.specs.Written.{written, written_others}
use Rattle.nd_rules.specs.Lines.{DeductionLine}
use Rattle.nd_check.specs.Forms.{derivation_form, line_form, line_forms, number_forms, why_form}

-- a word, a number and a term
pub with_term_written : (entry w a b c d e f g : List ℕ) (n : ℕ) (t : Term) → a ≡ entry ++ 40 ∷ [] → b ≡ a ++ w → c ≡ b ++ 32 ∷ [] → d ≡ c ++ decimal n → e ≡ d ++ 32 ∷ [] → f ≡ e ++ written (term_form t) → g ≡ f ++ 41 ∷ []
    → g ≡ entry ++ written (triple_form (word_form w) (number_form n) (term_form t))
with_term_written entry w a b c d e f g n t ea eb ec ed ee ef eg = eg ∙ ap (λ l. l ++ 41 ∷ []) (ef ∙ ap (λ l. l ++ written (term_form t)) (ee ∙ ap (λ l. l ++ 32 ∷ []) (ed ∙ ap (λ l. l ++ decimal n) (ec ∙ ap (λ l. l ++ 32 ∷ []) (eb ∙ ap (λ l. l ++ w) ea)))))
    ∙ joined (decimal n) (written (term_form t))
  where
    joined : (m u : List ℕ) → ((((((entry ++ 40 ∷ []) ++ w) ++ 32 ∷ []) ++ m) ++ 32 ∷ []) ++ u) ++ 41 ∷ [] ≡ entry ++ (40 ∷ (w ++ (32 ∷ m ++ (32 ∷ u ++ []))) ++ 41 ∷ [])
    joined m u = simp append_assoc refl

-- the parts of a line
pub line_written : (l : DeductionLine) (entry a b c d e f g h i : List ℕ) → a ≡ entry ++ 40 ∷ [] → b ≡ a ++ decimal l.number → c ≡ b ++ 32 ∷ [] → d ≡ c ++ written (list_form (number_forms l.hypotheses)) → e ≡ d ++ 32 ∷ []
    → f ≡ e ++ written (term_form l.formula) → g ≡ f ++ 32 ∷ [] → h ≡ g ++ written (why_form l.why) → i ≡ h ++ 41 ∷ [] → i ≡ entry ++ written (line_form l)
line_written l entry a b c d e f g h i ea eb ec ed ee ef eg eh ei =
    ei ∙ ap (λ x. x ++ 41 ∷ []) (eh ∙ ap (λ x. x ++ written (why_form l.why)) (eg ∙ ap (λ x. x ++ 32 ∷ []) (ef ∙ ap (λ x. x ++ written (term_form l.formula)) (ee ∙ ap (λ x. x ++ 32 ∷ [])
    (ed ∙ ap (λ x. x ++ written (list_form (number_forms l.hypotheses))) (ec ∙ ap (λ x. x ++ 32 ∷ []) (eb ∙ ap (λ x. x ++ decimal l.number) ea)))))))
    ∙ joined (decimal l.number) (written (list_form (number_forms l.hypotheses))) (written (term_form l.formula)) (written (why_form l.why))
  where
    joined : (n hs t w : List ℕ) → ((((((((entry ++ 40 ∷ []) ++ n) ++ 32 ∷ []) ++ hs) ++ 32 ∷ []) ++ t) ++ 32 ∷ []) ++ w) ++ 41 ∷ [] ≡ entry ++ (40 ∷ (n ++ (32 ∷ hs ++ (32 ∷ t ++ (32 ∷ w ++ [])))) ++ 41 ∷ [])
    joined n hs t w = simp append_assoc refl

-- the parts of a derivation
pub derivation_written : (ls : List DeductionLine) (entry a b c d : List ℕ) → a ≡ entry ++ codes "(DERIVATION " → b ≡ a ++ decimal 1 → c ≡ b ++ written_others (line_forms ls) → d ≡ c ++ 41 ∷ [] → d ≡ entry ++ written (derivation_form ls)
derivation_written ls entry a b c d ea eb ec ed =
    ed ∙ ap (λ x. x ++ 41 ∷ []) (ec ∙ ap (λ x. x ++ written_others (line_forms ls)) (eb ∙ ap (λ x. x ++ decimal 1) ea)) ∙ joined (decimal 1) (written_others (line_forms ls))
  where
    joined : (n m : List ℕ) → (((entry ++ codes "(DERIVATION ") ++ n) ++ m) ++ 41 ∷ [] ≡ entry ++ (40 ∷ (codes "DERIVATION" ++ (32 ∷ n ++ m)) ++ 41 ∷ [])
    joined n m = simp append_assoc refl
