-- How a placed form looks, whose form is known.
use Rattle.std.proofs.Common.{◌≡◌, ℕ, List, refl, ap}
use Rattle.core_text.specs.Forms.{Form, word_form, number_form, no_forms, more_forms}
use Rattle.core_text.specs.Placed.{Placed, word_at, number_at, list_at, PlacedAll, none_at, more_at, form, forms}
use Rattle.core_text.specs.CoreForms.{pair_form, triple_form}

pub word_shape : (p : Placed) (w : List ℕ) → form p ≡ word_form w → (k : ℕ) × (p ≡ word_at w k)
word_shape (word_at v k) w e = let same : v ≡ w = cc in (k, ap (λ u. word_at u k) same)
word_shape (number_at n k) w e = cc
word_shape (list_at fs k) w e = cc

pub number_shape : (p : Placed) (n : ℕ) → form p ≡ number_form n → (k : ℕ) × (p ≡ number_at n k)
number_shape (word_at v k) n e = cc
number_shape (number_at m k) n e = let same : m ≡ n = cc in (k, ap (λ u. number_at u k) same)
number_shape (list_at fs k) n e = cc

-- a list of two members
pub record IsPair (p : Placed) (f g : Form) : Type 0 where
  pub first : Placed
  pub second : Placed
  pub place : ℕ
  pub is : p ≡ list_at (more_at first (more_at second none_at)) place
  pub is_first : form first ≡ f
  pub is_second : form second ≡ g

pair_in : (ps : PlacedAll) (k : ℕ) (f g : Form) → forms ps ≡ more_forms f (more_forms g no_forms) → IsPair (list_at ps k) f g
pair_in none_at k f g e = cc
pair_in (more_at a none_at) k f g e = cc
pair_in (more_at a (more_at b none_at)) k f g e = record { first = a; second = b; place = k; is = refl; is_first = cc; is_second = cc }
pair_in (more_at a (more_at b (more_at c ps))) k f g e = cc

pub pair_shape : (p : Placed) (f g : Form) → form p ≡ pair_form f g → IsPair p f g
pair_shape (word_at w k) f g e = cc
pair_shape (number_at n k) f g e = cc
pair_shape (list_at ps k) f g e = pair_in ps k f g cc

-- a list of three members
pub record IsTriple (p : Placed) (f g h : Form) : Type 0 where
  pub first : Placed
  pub second : Placed
  pub third : Placed
  pub place : ℕ
  pub is : p ≡ list_at (more_at first (more_at second (more_at third none_at))) place
  pub is_first : form first ≡ f
  pub is_second : form second ≡ g
  pub is_third : form third ≡ h

triple_in : (ps : PlacedAll) (k : ℕ) (f g h : Form) → forms ps ≡ more_forms f (more_forms g (more_forms h no_forms)) → IsTriple (list_at ps k) f g h
triple_in none_at k f g h e = cc
triple_in (more_at a none_at) k f g h e = cc
triple_in (more_at a (more_at b none_at)) k f g h e = cc
triple_in (more_at a (more_at b (more_at c none_at))) k f g h e = record { first = a; second = b; third = c; place = k; is = refl; is_first = cc; is_second = cc; is_third = cc }
triple_in (more_at a (more_at b (more_at c (more_at d ps)))) k f g h e = cc

pub triple_shape : (p : Placed) (f g h : Form) → form p ≡ triple_form f g h → IsTriple p f g h
triple_shape (word_at w k) f g h e = cc
triple_shape (number_at n k) f g h e = cc
triple_shape (list_at ps k) f g h e = triple_in ps k f g h cc
