-- The computed type is the type of the relation.
use Rattle.std.proofs.Common.{List, ◌∷◌, Bool, true, false, cond, ◌≡◌, refl, sym, ap, ap₂, ◌∙◌, Option, Some, None}
use Rattle.hol_terms.specs.Terms.{SimpleType, base_type, function_type, Term, free, bound, constant, application, abstraction}
use Rattle.hol_terms.specs.Typing.{Typed}
use Rattle.hol_terms.specs.Computed.{type_in, is_found, applied, abstracted}
use Rattle.hol_terms.proofs.Same.{same_type_only, same_type_refl}

found-same : (o : Option SimpleType) (s : SimpleType) → is_found o s ≡ true → o ≡ Some s
found-same None s e = cc
found-same (Some r) s e = ap (λ (s : SimpleType). Some s) (same_type_only r s e)

applied-parts : (f a : Option SimpleType) (t : SimpleType) → applied f a ≡ Some t → (s : SimpleType) × (f ≡ Some (function_type t s)) × (a ≡ Some s)
applied-parts None a t e = cc
applied-parts (Some (base_type l)) a t e = cc
applied-parts (Some (function_type r s)) a t e = go (is_found a s) refl
  where
    go : (b : Bool) → is_found a s ≡ b → (p : SimpleType) × (Some (function_type r s) ≡ Some (function_type t p)) × (a ≡ Some p)
    go true h =
        let got : Some r ≡ Some t = ap (λ (b : Bool). cond b (Some r) None) (sym h) ∙ e in
        let one : r ≡ t = cc in
        (s, ap₂ (λ (r s : SimpleType). Some (function_type r s)) one refl, found-same a s h)
    go false h = let got : None ≡ Some t = ap (λ (b : Bool). cond b (Some r) None) (sym h) ∙ e in cc

abstracted-parts : (s : SimpleType) (b : Option SimpleType) (t : SimpleType) → abstracted s b ≡ Some t → (r : SimpleType) × (b ≡ Some r) × (function_type r s ≡ t)
abstracted-parts s None t e = cc
abstracted-parts s (Some r) t e = (r, refl, cc)

pub typed_from : (types : List SimpleType) (a : Term) (t : SimpleType) → type_in types a ≡ Some t → Typed types a t
typed_from types (free n s) t e = cc
typed_from types (bound i) t e = e
typed_from types (constant c) t e = cc
typed_from types (application f a) t e =
    let p = applied-parts (type_in types f) (type_in types a) t e in
    (p.0, typed_from types f (function_type t p.0) p.1, typed_from types a p.0 p.2)
typed_from types (abstraction s b) t e =
    let p = abstracted-parts s (type_in (s ∷ types) b) t e in
    (p.0, typed_from (s ∷ types) b p.0 p.1, p.2)

pub typed_to : (types : List SimpleType) (a : Term) (t : SimpleType) → Typed types a t → type_in types a ≡ Some t
typed_to types (free n s) t h = ap (λ (s : SimpleType). Some s) h
typed_to types (bound i) t h = h
typed_to types (constant c) t h = ap (λ (s : SimpleType). Some s) h
typed_to types (application f a) t h =
    ap₂ applied (typed_to types f (function_type t h.0) h.1) (typed_to types a h.0 h.2)
    ∙ ap (λ (b : Bool). cond b (Some t) None) (same_type_refl h.0)
typed_to types (abstraction s b) t h = ap (abstracted s) (typed_to (s ∷ types) b h.0 h.1) ∙ ap (λ (t : SimpleType). Some t) h.2
