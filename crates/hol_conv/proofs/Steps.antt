-- Typing under raised and replaced indices, and conversion under the term formers.
use Rattle.std.proofs.Common.{ℕ, ◌+◌, List, ◌∷◌, refl, inl, inr}
use Rattle.hol_terms.specs.Terms.{SimpleType, function_type, Term, free, bound, constant, application, abstraction}
use Rattle.hol_terms.specs.Typing.{Typed}
use Rattle.hol_terms.specs.Indices.{raise}
use Rattle.hol_conv.specs.Conversion.{in_function, in_argument, in_body, Conv, done, next, Form, neutral, long, HasForm}
use Rattle.hol_terms.proofs.TypingLaws.{Shifted, shifted_under}

pub form-raise : (d c : ℕ) (form : Form) (types new : List SimpleType) (a : Term) (t : SimpleType) → Shifted d c types new → HasForm form types a t → HasForm form new (raise d c a) t
form-raise d c form types new (free n s) t w h = h
form-raise d c form types new (bound i) t w h = (h.0, w i t h.1)
form-raise d c form types new (constant k) t w h = h
form-raise d c form types new (application f a) t w h =
    (h.0, (h.1.0, form-raise d c neutral types new f (function_type t h.1.0) w h.1.1, form-raise d c long types new a h.1.0 w h.1.2))
form-raise d c neutral types new (abstraction s b) t w h = elim h [ ]
form-raise d c long types new (abstraction s b) t w h =
    (h.0, form-raise d (c + 1) long (s ∷ types) (s ∷ new) b h.0 (shifted_under d c types new s w) h.1, h.2)

-- conversion is closed under the term formers
pub conv-trans : (types : List SimpleType) (t : SimpleType) (a b c : Term) → Conv types t a b → Conv types t b c → Conv types t a c
conv-trans types t _ _ c (done a h) k = k
conv-trans types t _ _ c (next a b d h n rest) k = next a b c h n (conv-trans types t b d c rest k)

pub conv-in-function : (types : List SimpleType) (t s : SimpleType) (f g a : Term) → Typed types a s → Conv types (function_type t s) f g → Conv types t (application f a) (application g a)
conv-in-function types t s _ _ a ha (done f h) = done (application f a) (s, h, ha)
conv-in-function types t s _ _ a ha (next f g d h (inl n) rest) =
    next (application f a) (application g a) (application d a) (s, h, ha) (inl (in_function f g a n)) (conv-in-function types t s g d a ha rest)
conv-in-function types t s _ _ a ha (next f g d h (inr n) rest) =
    next (application f a) (application g a) (application d a) (s, h, ha) (inr (in_function g f a n)) (conv-in-function types t s g d a ha rest)

pub conv-in-argument : (types : List SimpleType) (t s : SimpleType) (f a b : Term) → Typed types f (function_type t s) → Conv types s a b → Conv types t (application f a) (application f b)
conv-in-argument types t s f _ _ hf (done a h) = done (application f a) (s, hf, h)
conv-in-argument types t s f _ _ hf (next a b d h (inl n) rest) =
    next (application f a) (application f b) (application f d) (s, hf, h) (inl (in_argument f a b n)) (conv-in-argument types t s f b d hf rest)
conv-in-argument types t s f _ _ hf (next a b d h (inr n) rest) =
    next (application f a) (application f b) (application f d) (s, hf, h) (inr (in_argument f b a n)) (conv-in-argument types t s f b d hf rest)

pub conv-in-body : (types : List SimpleType) (r s : SimpleType) (b c : Term) → Conv (s ∷ types) r b c → Conv types (function_type r s) (abstraction s b) (abstraction s c)
conv-in-body types r s _ _ (done b h) = done (abstraction s b) (r, h, refl)
conv-in-body types r s _ _ (next b c d h (inl n) rest) =
    next (abstraction s b) (abstraction s c) (abstraction s d) (r, h, refl) (inl (in_body s b c n)) (conv-in-body types r s c d rest)
conv-in-body types r s _ _ (next b c d h (inr n) rest) =
    next (abstraction s b) (abstraction s c) (abstraction s d) (r, h, refl) (inr (in_body s c b n)) (conv-in-body types r s c d rest)
