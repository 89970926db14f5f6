-- How a placed list looks, whose form is known.
use Rattle.std.proofs.Common.{◌≡◌, ◌∙◌, ℕ, ap, refl}
use Rattle.core_text.specs.Forms.{Form, list_form, Forms, no_forms, more_forms}
use Rattle.core_text.specs.Placed.{Placed, word_at, number_at, list_at, PlacedAll, none_at, more_at, form, forms}

-- a list by its members
pub record IsList (p : Placed) (fs : Forms) : Type 0 where
  pub members : PlacedAll
  pub place : ℕ
  pub is : p ≡ list_at members place
  pub is_members : forms members ≡ fs

pub list_shape : (p : Placed) (fs : Forms) → form p ≡ list_form fs → IsList p fs
list_shape (word_at w k) fs e = cc
list_shape (number_at n k) fs e = cc
list_shape (list_at ps k) fs e = record { members = ps; place = k; is = refl; is_members = cc }

-- members with a first one
pub record IsMore (ps : PlacedAll) (f : Form) (fs : Forms) : Type 0 where
  pub first : Placed
  pub rest : PlacedAll
  pub is : ps ≡ more_at first rest
  pub is_first : form first ≡ f
  pub is_rest : forms rest ≡ fs

pub more_shape : (ps : PlacedAll) (f : Form) (fs : Forms) → forms ps ≡ more_forms f fs → IsMore ps f fs
more_shape none_at f fs e = cc
more_shape (more_at p ps) f fs e = record { first = p; rest = ps; is = refl; is_first = cc; is_rest = cc }

pub none_shape : (ps : PlacedAll) → forms ps ≡ no_forms → ps ≡ none_at
none_shape none_at e = refl
none_shape (more_at p ps) e = cc

-- four members
pub record AreFour (ps : PlacedAll) (f g h i : Form) : Type 0 where
  pub first : Placed
  pub second : Placed
  pub third : Placed
  pub fourth : Placed
  pub is : ps ≡ more_at first (more_at second (more_at third (more_at fourth none_at)))
  pub is_first : form first ≡ f
  pub is_second : form second ≡ g
  pub is_third : form third ≡ h
  pub is_fourth : form fourth ≡ i

four_joined : (ps qs rs ss ts : PlacedAll) (a b c d : Placed) → ps ≡ more_at a qs → qs ≡ more_at b rs → rs ≡ more_at c ss → ss ≡ more_at d ts → ts ≡ none_at → ps ≡ more_at a (more_at b (more_at c (more_at d none_at)))
four_joined ps qs rs ss ts a b c d e f g h i = e ∙ ap (more_at a) (f ∙ ap (more_at b) (g ∙ ap (more_at c) (h ∙ ap (more_at d) i)))

pub four_shape : (ps : PlacedAll) (f g h i : Form) → forms ps ≡ more_forms f (more_forms g (more_forms h (more_forms i no_forms))) → AreFour ps f g h i
four_shape ps f g h i e =
    let a = more_shape ps f (more_forms g (more_forms h (more_forms i no_forms))) e in
    let b = more_shape a.rest g (more_forms h (more_forms i no_forms)) a.is_rest in
    let c = more_shape b.rest h (more_forms i no_forms) b.is_rest in
    let d = more_shape c.rest i no_forms c.is_rest in
    record {
      first = a.first;
      second = b.first;
      third = c.first;
      fourth = d.first;
      is = four_joined ps a.rest b.rest c.rest d.rest a.first b.first c.first d.first a.is b.is c.is d.is (none_shape d.rest d.is_rest);
      is_first = a.is_first;
      is_second = b.is_first;
      is_third = c.is_first;
      is_fourth = d.is_first;
    }
