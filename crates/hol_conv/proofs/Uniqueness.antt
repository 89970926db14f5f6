-- Each typed term has exactly one long normal form.
use Rattle.std.proofs.Common.{List, [], ◌≡◌, ◌↔◌, sym, subst, inl, inr}
use Rattle.hol_terms.specs.Terms.{SimpleType, Term}
use Rattle.hol_terms.specs.Typing.{Typed}
use Rattle.hol_conv.specs.Conversion.{Conv, done, next, IsNormalOf}
use Rattle.hol_conv.specs.NormalForms.{normal_form}
use Rattle.hol_conv.proofs.Model.{unique, conv-first}
use Rattle.hol_conv.proofs.Steps.{conv-trans}
use Rattle.hol_conv.proofs.Existence.{normal_form-becomes}

pub conv-last : (types : List SimpleType) (t : SimpleType) (a b : Term) → Conv types t a b → Typed types b t
conv-last types t _ _ (done a h) = h
conv-last types t _ c (next a b _ h n rest) = conv-last types t b c rest

conv-back : (types : List SimpleType) (t : SimpleType) (a b c : Term) → Conv types t a b → Conv types t a c → Conv types t b c
conv-back types t _ _ c (done a h) k = k
conv-back types t _ d c (next a b _ h (inl st) rest) k = conv-back types t b d c rest (next b a c (conv-first types t b d rest) (inr st) k)
conv-back types t _ d c (next a b _ h (inr st) rest) k = conv-back types t b d c rest (next b a c (conv-first types t b d rest) (inl st) k)

pub conv-sym : (types : List SimpleType) (t : SimpleType) (a b : Term) → Conv types t a b → Conv types t b a
conv-sym types t a b c = conv-back types t a b a c (done a (conv-first types t a b c))

pub normal_form_is : (a : Term) (t : SimpleType) → Typed [] a t → IsNormalOf [] t (normal_form [] a) a
normal_form_is a t h = let x = normal_form-becomes [] a t h in (x.0, conv-sym [] t a (normal_form [] a) x.1)

pub equal_normals : (q : SimpleType) (s t n m : Term) → IsNormalOf [] q n s → IsNormalOf [] q m t → (n ≡ m) ↔ Conv [] q s t
equal_normals q s t n m hn hm = (
  (λ e. conv-trans [] q s n t (conv-sym [] q n s hn.1) (subst (λ (n : Term). Conv [] q n t) (sym e) hm.1)),
  (λ c. unique [] q n m hn.0 hm.0 (conv-trans [] q n s m hn.1 (conv-trans [] q s t m c (conv-sym [] q m t hm.1)))),
)
