-- Pairs and the parts of a proof, written one after the other.
use Rattle.std.proofs.Common.{◌≡◌, ℕ, ◌+◌, ◌<◌, ◌^◌, List, [], ◌∷◌, ◌++◌, length, take, get_or, codes, decimal, refl, sym, ◌∙◌, ap, subst, append-nil, append_assoc}
use Rattle.std.proofs.lemmas.List.{take_more}
use Rattle.core_text.specs.CoreForms.{pair_form, term_form}
use Rattle.core_text.specs.Forms.{AreWellSpelled, number_form}
use Rattle.core_text.specs.Written.{written, written_others}
use Rattle.proof_text.specs.Forms.{mating_form, pair_forms, tree_form}
use Rattle.proof_text.specs.Texts.{Proof, proof_form}

others_more : (ps : List (ℕ × ℕ)) (p : ℕ × ℕ) → written_others (pair_forms (ps ++ p ∷ [])) ≡ written_others (pair_forms ps) ++ 32 ∷ written (pair_form (number_form p.0) (number_form p.1))
others_more [] p = ap (λ l. 32 ∷ l) (append-nil (written (pair_form (number_form p.0) (number_form p.1))))
others_more (q ∷ ps) p =
    ap (λ l. 32 ∷ written (pair_form (number_form q.0) (number_form q.1)) ++ l) (others_more ps p)
    ∙ ap (λ l. 32 ∷ l) (sym (append_assoc (written (pair_form (number_form q.0) (number_form q.1))) (written_others (pair_forms ps)) (32 ∷ written (pair_form (number_form p.0) (number_form p.1)))))

-- one pair more
pub pair_written : (entry old pushed new : List ℕ) (pairs : List (ℕ × ℕ)) (i : ℕ) (d : ℕ × ℕ) → i < length pairs → old ≡ entry ++ written_others (pair_forms (take i pairs)) → pushed ≡ old ++ 32 ∷ []
    → new ≡ pushed ++ written (pair_form (number_form (get_or pairs i d).0) (number_form (get_or pairs i d).1)) → new ≡ entry ++ written_others (pair_forms (take (i + 1) pairs))
pair_written entry old pushed new pairs i d short e f g =
    let w = written (pair_form (number_form (get_or pairs i d).0) (number_form (get_or pairs i d).1)) in
    let front = written_others (pair_forms (take i pairs)) in
    g ∙ ap (λ l. l ++ w) (f ∙ ap (λ l. l ++ 32 ∷ []) e)
    ∙ append_assoc (entry ++ front) (32 ∷ []) w ∙ append_assoc entry front (32 ∷ w)
    ∙ ap (λ l. entry ++ l) (sym (others_more (take i pairs) (get_or pairs i d)) ∙ ap (λ ps. written_others (pair_forms ps)) (sym (take_more pairs i d short)))

-- one pair more has 64 bits in each number
spelled_more : (ps : List (ℕ × ℕ)) (p : ℕ × ℕ) → AreWellSpelled (pair_forms ps) → p.0 < 2 ^ 64 → p.1 < 2 ^ 64 → AreWellSpelled (pair_forms (ps ++ p ∷ []))
spelled_more [] p h a b = ((a, (b, tt)), tt)
spelled_more (q ∷ ps) p h a b = (h.0, spelled_more ps p h.1 a b)

pub pair_spelled : (pairs : List (ℕ × ℕ)) (i : ℕ) (d : ℕ × ℕ) → i < length pairs → AreWellSpelled (pair_forms (take i pairs)) → (get_or pairs i d).0 < 2 ^ 64 → (get_or pairs i d).1 < 2 ^ 64 → AreWellSpelled (pair_forms (take (i + 1) pairs))
pair_spelled pairs i d short h a b =
    let P : List (ℕ × ℕ) → Type 0 = λ ps. AreWellSpelled (pair_forms ps) in
    subst P (sym (take_more pairs i d short)) (spelled_more (take i pairs) (get_or pairs i d) h a b)

closed : (n f t m : List ℕ) → (n ++ (32 ∷ f ++ (32 ∷ t ++ (32 ∷ m ++ [])))) ++ 41 ∷ [] ≡ n ++ (32 ∷ f ++ (32 ∷ t ++ (32 ∷ m ++ 41 ∷ [])))
closed n f t m =
    append_assoc n (32 ∷ f ++ (32 ∷ t ++ (32 ∷ m ++ []))) (41 ∷ [])
    ∙ ap (λ l. n ++ 32 ∷ l) (append_assoc f (32 ∷ t ++ (32 ∷ m ++ [])) (41 ∷ []) ∙ ap (λ l. f ++ 32 ∷ l) (append_assoc t (32 ∷ m ++ []) (41 ∷ []) ∙ ap (λ l. t ++ (32 ∷ l ++ 41 ∷ [])) (append-nil m)))

joined : (entry n f t m : List ℕ) → ((((((((entry ++ codes "(PROOF ") ++ n) ++ 32 ∷ []) ++ f) ++ 32 ∷ []) ++ t) ++ 32 ∷ []) ++ m) ++ 41 ∷ [] ≡ entry ++ (40 ∷ (codes "PROOF" ++ (32 ∷ n ++ (32 ∷ f ++ (32 ∷ t ++ (32 ∷ m ++ []))))) ++ 41 ∷ [])
joined entry n f t m =
    let left : ((((((((entry ++ codes "(PROOF ") ++ n) ++ 32 ∷ []) ++ f) ++ 32 ∷ []) ++ t) ++ 32 ∷ []) ++ m) ++ 41 ∷ [] ≡ entry ++ (40 ∷ (codes "PROOF" ++ (32 ∷ (n ++ (32 ∷ f ++ (32 ∷ t ++ (32 ∷ m ++ 41 ∷ []))))))) = simp append_assoc refl in
    left ∙ ap (λ l. entry ++ (40 ∷ (codes "PROOF" ++ (32 ∷ l)))) (sym (closed n f t m))

-- the parts of a proof, one after the other
pub proof_written : (p : Proof) (entry a b c d e g h i j : List ℕ) → a ≡ entry ++ codes "(PROOF " → b ≡ a ++ decimal 1 → c ≡ b ++ 32 ∷ [] → d ≡ c ++ written (term_form p.formula) → e ≡ d ++ 32 ∷ [] → g ≡ e ++ written (tree_form p.tree) → h ≡ g ++ 32 ∷ []
    → i ≡ h ++ written (mating_form p.mating) → j ≡ i ++ 41 ∷ [] → j ≡ entry ++ written (proof_form p)
proof_written p entry a b c d e g h i j ea eb ec ed ee eg eh ei ej =
    ej ∙ ap (λ l. l ++ 41 ∷ []) (ei ∙ ap (λ l. l ++ written (mating_form p.mating)) (eh ∙ ap (λ l. l ++ 32 ∷ []) (eg ∙ ap (λ l. l ++ written (tree_form p.tree)) (ee ∙ ap (λ l. l ++ 32 ∷ [])
    (ed ∙ ap (λ l. l ++ written (term_form p.formula)) (ec ∙ ap (λ l. l ++ 32 ∷ []) (eb ∙ ap (λ l. l ++ decimal 1) ea)))))))
    ∙ joined entry (decimal 1) (written (term_form p.formula)) (written (tree_form p.tree)) (written (mating_form p.mating))
