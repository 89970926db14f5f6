-- A text has its form at one place each.
use Rattle.std.proofs.Common.{◌≡◌, ℕ, List, [], ◌∷◌, ◌++◌, refl, sym, ◌∙◌, append-nil, append_assoc}
use mathlib.Core.Path.{ap₂}
use Rattle.core_text.specs.Tokens.{closing, Piece, piece}
use Rattle.core_text.specs.Placed.{IsPlacedText, Placed, word_at, number_at, list_at, PlacedAll, none_at, more_at, form, forms, layout, layout_of_all}
use Rattle.core_text.proofs.Texts.{one_form}

mutual
  same_placed : (p q : Placed) (x y : List Piece) → form p ≡ form q → layout p ++ x ≡ layout q ++ y → (p ≡ q) × (x ≡ y)
  same_placed (word_at v j) (word_at w k) x y e h =
      let same : v ≡ w = cc in
      let there : j ≡ k = cc in
      (ap₂ word_at same there, cc)
  same_placed (word_at v j) (number_at n k) x y e h = cc
  same_placed (word_at v j) (list_at qs k) x y e h = cc
  same_placed (number_at m j) (word_at w k) x y e h = cc
  same_placed (number_at m j) (number_at n k) x y e h =
      let same : m ≡ n = cc in
      let there : j ≡ k = cc in
      (ap₂ number_at same there, cc)
  same_placed (number_at m j) (list_at qs k) x y e h = cc
  same_placed (list_at ps j) (word_at w k) x y e h = cc
  same_placed (list_at ps j) (number_at n k) x y e h = cc
  same_placed (list_at ps j) (list_at qs k) x y e h =
      let there : j ≡ k = cc in
      let tail : (layout_of_all ps ++ piece closing 0 ∷ []) ++ x ≡ (layout_of_all qs ++ piece closing 0 ∷ []) ++ y = cc in
      let members : forms ps ≡ forms qs = cc in
      let t = same_all ps qs (piece closing 0 ∷ x) (piece closing 0 ∷ y) members (sym (append_assoc (layout_of_all ps) (piece closing 0 ∷ []) x) ∙ tail ∙ append_assoc (layout_of_all qs) (piece closing 0 ∷ []) y) in
      let rest = t.1 in
      (ap₂ list_at t.0 there, cc)

  same_all : (ps qs : PlacedAll) (x y : List Piece) → forms ps ≡ forms qs → layout_of_all ps ++ x ≡ layout_of_all qs ++ y → (ps ≡ qs) × (x ≡ y)
  same_all none_at none_at x y e h = (refl, h)
  same_all none_at (more_at q qs) x y e h = cc
  same_all (more_at p ps) none_at x y e h = cc
  same_all (more_at p ps) (more_at q qs) x y e h =
      let first : form p ≡ form q = cc in
      let others : forms ps ≡ forms qs = cc in
      let s = same_placed p q (layout_of_all ps ++ x) (layout_of_all qs ++ y) first (sym (append_assoc (layout p) (layout_of_all ps) x) ∙ h ∙ append_assoc (layout q) (layout_of_all qs) y) in
      let t = same_all ps qs x y others s.1 in
      (ap₂ more_at s.0 t.0, t.1)

pub one_placed_form : (bytes : List ℕ) (f g : Placed) → IsPlacedText bytes f → IsPlacedText bytes g → f ≡ g
one_placed_form bytes f g s t =
    (same_placed f g [] [] (one_form bytes (form f) (form g) s.text t.text) (append-nil (layout f) ∙ s.places ∙ sym t.places ∙ sym (append-nil (layout g)))).0
