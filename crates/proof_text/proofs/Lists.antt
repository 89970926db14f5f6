-- How a placed list looks, whose form is known.
use Rattle.std.proofs.Common.{◌≡◌, ℕ, refl}
use Rattle.core_text.specs.Forms.{Form, list_form, Forms, more_forms}
use Rattle.core_text.specs.Placed.{Placed, word_at, number_at, list_at, PlacedAll, none_at, more_at, form, forms}

-- a list with a first member
pub record IsList (p : Placed) (f : Form) (fs : Forms) : Type 0 where
  pub first : Placed
  pub rest : PlacedAll
  pub place : ℕ
  pub is : p ≡ list_at (more_at first rest) place
  pub is_first : form first ≡ f
  pub is_rest : forms rest ≡ fs

list_in : (ps : PlacedAll) (k : ℕ) (f : Form) (fs : Forms) → forms ps ≡ more_forms f fs → IsList (list_at ps k) f fs
list_in none_at k f fs e = cc
list_in (more_at a ps) k f fs e = record { first = a; rest = ps; place = k; is = refl; is_first = cc; is_rest = cc }

pub list_shape : (p : Placed) (f : Form) (fs : Forms) → form p ≡ list_form (more_forms f fs) → IsList p f fs
list_shape (word_at w k) f fs e = cc
list_shape (number_at n k) f fs e = cc
list_shape (list_at ps k) f fs e = list_in ps k f fs cc
