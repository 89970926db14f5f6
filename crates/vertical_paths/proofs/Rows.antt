-- Laws of tables of partners.
use Rattle.std.proofs.Common.{Vec, Global, ◌≡◌, ℕ, ◌<◌, ◌==◌, List, [], ◌∷◌, ◌++◌, cond, get_or, set, length, sym, ◌∙◌, ap, refl, inl, inr}
use Rattle.std.proofs.lemmas.Bool.{eq-eqb, ne_eqb}
use Rattle.std.proofs.lemmas.Bool.Decides.{eqb_tells}
use Rattle.std.proofs.lemmas.List.{append-nil, get_or-set_same, get_or-set_other, get_or-map}
use Rattle.vertical_paths.specs.Partners.{partners, ArePartnerRows}

-- a row that gets one more number, as each row is then
pub put_row : (rows : List (List ℕ)) (leaf partner : ℕ) (row : List ℕ) (n : ℕ) → leaf < length rows → row ≡ get_or rows leaf [] → get_or (set rows leaf (row ++ partner ∷ [])) n [] ≡ get_or rows n [] ++ cond (leaf == n) (partner ∷ []) []
put_row rows leaf partner row n within e =
    elim (eqb_tells n leaf) [
      | inl t ↦ rw (t.1, eq-eqb leaf leaf refl) (get_or-set_same rows leaf (row ++ partner ∷ []) [] within ∙ ap (λ l. l ++ partner ∷ []) e)
      | inr t ↦ (let other = ne_eqb leaf n (λ h. t.1 (sym h)) in rw other (get_or-set_other rows leaf n (row ++ partner ∷ []) [] t.1 ∙ sym (append-nil (get_or rows n []))))
    ]

-- the row of a leaf
pub row_is : (bound : ℕ) (pairs : List (ℕ × ℕ)) (rows : List (Vec ℕ Global)) (leaf : ℕ) (row : Vec ℕ Global) → ArePartnerRows bound pairs rows → leaf < bound → row ≡ get_or rows leaf row → row.items ≡ partners pairs leaf
row_is bound pairs rows leaf row h less e =
    let list : Vec ℕ Global → List ℕ = λ row. row.items in
    let within : leaf < length rows = rw h.many less in
    ap list e ∙ sym (get_or-map list rows leaf row [] within) ∙ h.each leaf less
