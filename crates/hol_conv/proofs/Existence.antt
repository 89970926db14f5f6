-- Hereditary substitution gives a long term that is convertible with the plain instance.
use Rattle.std.proofs.Common.{ℕ, zero, suc, ◌+◌, ◌-◌, ◌<◌, List, [], ◌∷◌, ◌≡◌, refl, sym, subst, slice_get, Some, arith, inl, inr, ◌⊎◌}
use Rattle.std.proofs.lemmas.Bool.Decides.{nat_tests}
use Rattle.hol_terms.specs.Terms.{SimpleType, base_type, function_type, Term, free, bound, constant, application, abstraction}
use Rattle.hol_terms.specs.Typing.{type_of_constant, Typed}
use Rattle.hol_terms.specs.Indices.{raise, put, put_index}
use Rattle.hol_conv.specs.Conversion.{beta, eta, Conv, done, next, IsBase, neutral, long, Long, Neutral}
use Rattle.hol_terms.proofs.IndexLaws.{raise-none, raise-by_suc, put_index-same, put_index-less, put_index-more}
use Rattle.hol_conv.proofs.Model.{form-typed}
use Rattle.hol_terms.proofs.TypingLaws.{shifted_one, Filled, typed-put}
use Rattle.hol_conv.proofs.Lookups.{lookup_some}
use Rattle.hol_conv.proofs.Steps.{form-raise, conv-trans, conv-in-function, conv-in-argument, conv-in-body}
use Rattle.hol_conv.specs.NormalForms.{apply_all, put_long_index, put_long, apply_long, hereditary, long_form, long_head, type_of_index, apply_abstraction, apply_abstractions, normal_with, normal_form}

-- the arguments that a type asks for, each long, and the type that is left
abbrev pub Spine : List SimpleType → SimpleType → List Term → SimpleType → Type 0
Spine types q [] t = q ≡ t
Spine types q (a ∷ rest) t = (r : SimpleType) × (s : SimpleType) × (q ≡ function_type r s) × Long types a s × Spine types r rest t

spine-conv : (types : List SimpleType) (q t : SimpleType) (rest : List Term) (f g : Term) → Spine types q rest t → Conv types q f g → Conv types t (apply_all f rest) (apply_all g rest)
spine-conv types q t [] f g h c = subst (λ (t : SimpleType). Conv types t f g) h c
spine-conv types q t (a ∷ rest) f g h c =
    spine-conv types h.0 t rest (application f a) (application g a) h.4
    (conv-in-function types h.0 h.1 f g a (form-typed long types a h.1 h.3) (subst (λ (q : SimpleType). Conv types q f g) h.2 c))

base_type-only : (types : List SimpleType) (a : Term) (t : SimpleType) → Neutral types a t → IsBase t → Long types a t
base_type-only types (free n s) t h e = (e, h.1)
base_type-only types (bound i) t h e = (e, h.1)
base_type-only types (constant c) t h e = (e, h.1)
base_type-only types (application f a) t h e = (e, h.1)
base_type-only types (abstraction s b) t h e = elim h [ ]

-- a neutral term with all its arguments
spine-form : (types : List SimpleType) (q t : SimpleType) (rest : List Term) (f : Term) → Neutral types f q → Spine types q rest t → IsBase t → Long types (apply_all f rest) t
spine-form types q t [] f n h e = base_type-only types f t (subst (Neutral types f) h n) e
spine-form types q t (a ∷ rest) f n h e =
    spine-form types h.0 t rest (application f a) (tt, (h.1, subst (Neutral types f) h.2 n, h.3)) h.4 e

-- what is promised of a long term and what it stands for
abbrev pub Becomes : List SimpleType → SimpleType → Term → Term → Type 0
Becomes types t a b = Long types b t × Conv types t a b

neutral-becomes : (types : List SimpleType) (q t : SimpleType) (rest : List Term) (f : Term) → Neutral types f q → Spine types q rest t → IsBase t → Becomes types t (apply_all f rest) (apply_all f rest)
neutral-becomes types q t rest f n h e =
    let w = spine-form types q t rest f n h e in (w, done (apply_all f rest) (form-typed long types (apply_all f rest) t w))

-- a way to apply long terms of one type to arguments
abbrev pub Applies : SimpleType → (Term → List Term → Term) → Type 0
Applies s apply = (types : List SimpleType) (f : Term) (rest : List Term) (t : SimpleType) → Long types f s → Spine types s rest t → IsBase t → Becomes types t (apply_all f rest) (apply f rest)

-- what becomes of the types where index k of type s is taken out
abbrev pub Removed : ℕ → SimpleType → List SimpleType → List SimpleType → Type 0
Removed k s types new = (i : ℕ) (t : SimpleType) → slice_get types i ≡ Some t
    → ((i < k) × (slice_get new i ≡ Some t)) ⊎ (((i ≡ k) × (s ≡ t)) ⊎ ((k < i) × (slice_get new (i - 1) ≡ Some t)))

pub removed-push : (k : ℕ) (s q : SimpleType) (types new : List SimpleType) → Removed k s types new → Removed (k + 1) s (q ∷ types) (q ∷ new)
removed-push k s q types new h zero t e = inl (omega arith, e)
removed-push k s q types new h (suc i) t e = by_place (h i t e)
  where
    by_place : ((i < k) × (slice_get new i ≡ Some t)) ⊎ (((i ≡ k) × (s ≡ t)) ⊎ ((k < i) × (slice_get new (i - 1) ≡ Some t)))
        → ((suc i < k + 1) × (slice_get (q ∷ new) (suc i) ≡ Some t)) ⊎ (((suc i ≡ k + 1) × (s ≡ t)) ⊎ ((k + 1 < suc i) × (slice_get (q ∷ new) (suc i - 1) ≡ Some t)))
    by_place (inl p) = inl (omega arith, p.1)
    by_place (inr (inl p)) = inr (inl (omega arith, p.1))
    by_place (inr (inr p)) =
        let step : suc i - 1 ≡ suc (i - 1) = omega arith in
        inr (inr (omega arith, rw step p.1))

pub removed-instance : (s : SimpleType) (types : List SimpleType) → Removed 0 s (s ∷ types) types
removed-instance s types zero t e = inr (inl (refl, cc))
removed-instance s types (suc i) t e = let less : suc i - 1 ≡ i = omega arith in inr (inr (omega arith, rw less e))

removed-filled : (k : ℕ) (s : SimpleType) (u : Term) (types new : List SimpleType) → Removed k s types new → Typed new (raise k 0 u) s → Filled k u types new
removed-filled k s u types new h hu i t e = by_place (h i t e)
  where
    by_place : ((i < k) × (slice_get new i ≡ Some t)) ⊎ (((i ≡ k) × (s ≡ t)) ⊎ ((k < i) × (slice_get new (i - 1) ≡ Some t))) → Typed new (put_index k u i) t
    by_place (inl p) = let lt : i < k = p.0 in rw (put_index-less k u i lt) p.1
    by_place (inr (inl p)) =
        let e' : put_index k u i ≡ raise k 0 u = subst (λ (j : ℕ). put_index k u j ≡ raise k 0 u) (sym p.0) (put_index-same k u) in
        rw e' (subst (Typed new (raise k 0 u)) p.1 hu)
    by_place (inr (inr p)) = let lt : k < i = p.0 in rw (put_index-more k u i lt) p.1

put_long_index-less : (apply : Term → List Term → Term) (k : ℕ) (u : Term) (i : ℕ) (rest : List Term) → i < k → put_long_index apply k u i rest ≡ apply_all (bound i) rest
put_long_index-less apply k u i rest h = grind (arith, nat_tests)

put_long_index-same : (apply : Term → List Term → Term) (k : ℕ) (u : Term) (rest : List Term) → put_long_index apply k u k rest ≡ apply (raise k 0 u) rest
put_long_index-same apply k u rest = grind (arith, nat_tests)

put_long_index-more : (apply : Term → List Term → Term) (k : ℕ) (u : Term) (i : ℕ) (rest : List Term) → k < i → put_long_index apply k u i rest ≡ apply_all (bound (i - 1)) rest
put_long_index-more apply k u i rest h = grind (arith, nat_tests)

-- a bound index under hereditary substitution
index-becomes : (s : SimpleType) (apply : Term → List Term → Term) → Applies s apply
    → (k : ℕ) (u : Term) (i : ℕ) (types new : List SimpleType) → Removed k s types new → Long new (raise k 0 u) s
    → (q t : SimpleType) (rest : List Term) → slice_get types i ≡ Some q → Spine new q rest t → IsBase t → Becomes new t (apply_all (put_index k u i) rest) (put_long_index apply k u i rest)
index-becomes s apply ok k u i types new w hu q t rest h sp e = by_place (w i q h)
  where
    by_place : ((i < k) × (slice_get new i ≡ Some q)) ⊎ (((i ≡ k) × (s ≡ q)) ⊎ ((k < i) × (slice_get new (i - 1) ≡ Some q))) → Becomes new t (apply_all (put_index k u i) rest) (put_long_index apply k u i rest)
    by_place (inl p) =
        let lt : i < k = p.0 in
        rw (put_index-less k u i lt, put_long_index-less apply k u i rest lt) (neutral-becomes new q t rest (bound i) (tt, p.1) sp e)
    by_place (inr (inl p)) =
        let P : ℕ → Type 0 = λ j. Becomes new t (apply_all (put_index k u j) rest) (put_long_index apply k u j rest) in
        subst P (sym p.0)
        (rw (put_index-same k u, put_long_index-same apply k u rest) (ok new (raise k 0 u) rest t hu (subst (λ (q : SimpleType). Spine new q rest t) (sym p.1) sp) e))
    by_place (inr (inr p)) =
        let lt : k < i = p.0 in
        rw (put_index-more k u i lt, put_long_index-more apply k u i rest lt) (neutral-becomes new q t rest (bound (i - 1)) (tt, p.1) sp e)

mutual
  put_long_in_neutral : (s : SimpleType) (apply : Term → List Term → Term) → Applies s apply
      → (k : ℕ) (u a : Term) (types new : List SimpleType) → Removed k s types new → Long new (raise k 0 u) s
      → (q t : SimpleType) (rest : List Term) → Neutral types a q → Spine new q rest t → IsBase t → Becomes new t (apply_all (put k u a) rest) (put_long apply k u a rest)
  put_long_in_neutral s apply ok k u (free n p) types new w hu q t rest h sp e = neutral-becomes new q t rest (free n p) h sp e
  put_long_in_neutral s apply ok k u (bound i) types new w hu q t rest h sp e = index-becomes s apply ok k u i types new w hu q t rest h.1 sp e
  put_long_in_neutral s apply ok k u (constant c) types new w hu q t rest h sp e = neutral-becomes new q t rest (constant c) h sp e
  put_long_in_neutral s apply ok k u (application f a) types new w hu q t rest h sp e =
      let x = put_long_in_long s apply ok k u a types new w hu h.1.0 h.1.2 in
      let v = put_long apply k u a [] in
      let hf = put_long_in_neutral s apply ok k u f types new w hu (function_type q h.1.0) t (v ∷ rest) h.1.1 (q, h.1.0, refl, x.0, sp) e in
      let pf = typed-put k u types new f (function_type q h.1.0) (removed-filled k s u types new w (form-typed long new (raise k 0 u) s hu)) (form-typed neutral types f (function_type q h.1.0) h.1.1) in (
        hf.0,
        conv-trans new t (apply_all (application (put k u f) (put k u a)) rest) (apply_all (application (put k u f) v) rest) (put_long apply k u f (v ∷ rest))
            (spine-conv new q t rest (application (put k u f) (put k u a)) (application (put k u f) v) sp (conv-in-argument new q h.1.0 (put k u f) (put k u a) v pf x.1)) hf.1,
      )
  put_long_in_neutral s apply ok k u (abstraction p b) types new w hu q t rest h sp e = elim h [ ]

  pub put_long_in_long : (s : SimpleType) (apply : Term → List Term → Term) → Applies s apply
      → (k : ℕ) (u a : Term) (types new : List SimpleType) → Removed k s types new → Long new (raise k 0 u) s
      → (t : SimpleType) → Long types a t → Becomes new t (put k u a) (put_long apply k u a [])
  put_long_in_long s apply ok k u (free n p) types new w hu t h = neutral-becomes new t t [] (free n p) (tt, h.1) refl h.0
  put_long_in_long s apply ok k u (bound i) types new w hu t h = index-becomes s apply ok k u i types new w hu t t [] h.1 refl h.0
  put_long_in_long s apply ok k u (constant c) types new w hu t h = neutral-becomes new t t [] (constant c) (tt, h.1) refl h.0
  put_long_in_long s apply ok k u (application f a) types new w hu t h =
      let e = h.0 in
      let x = put_long_in_long s apply ok k u a types new w hu h.1.0 h.1.2 in
      let v = put_long apply k u a [] in
      let hf = put_long_in_neutral s apply ok k u f types new w hu (function_type t h.1.0) t (v ∷ []) h.1.1 (t, h.1.0, refl, x.0, refl) e in
      let pf = typed-put k u types new f (function_type t h.1.0) (removed-filled k s u types new w (form-typed long new (raise k 0 u) s hu)) (form-typed neutral types f (function_type t h.1.0) h.1.1) in (
        hf.0,
        conv-trans new t (application (put k u f) (put k u a)) (application (put k u f) v) (put_long apply k u f (v ∷ []))
            (conv-in-argument new t h.1.0 (put k u f) (put k u a) v pf x.1) hf.1,
      )
  put_long_in_long s apply ok k u (abstraction p b) types new w hu t h =
      let x = put_long_in_long s apply ok (k + 1) u b (p ∷ types) (p ∷ new) (removed-push k s p types new w)
      (rw (raise-by_suc k 0 u) (form-raise 1 0 long new (p ∷ new) (raise k 0 u) s (shifted_one new p) hu)) h.0 h.1 in (
        (h.0, x.0, h.2),
        subst (λ (t : SimpleType). Conv new t (abstraction p (put (k + 1) u b)) (abstraction p (put_long apply (k + 1) u b []))) h.2
            (conv-in-body new h.0 p (put (k + 1) u b) (put_long apply (k + 1) u b []) x.1),
      )

pub apply_long-becomes : (s : SimpleType) → Applies s (apply_long s)
apply_long-becomes (base_type l) types f [] t h sp e = (subst (Long types f) sp h, done f (subst (Typed types f) sp (form-typed long types f (base_type l) h)))
apply_long-becomes (base_type l) types f (a ∷ rest) t h sp e = let bad : base_type l ≡ function_type sp.0 sp.1 = sp.2 in cc
apply_long-becomes (function_type r s) types f [] t h sp e = absurd (subst IsBase (sym sp) e)
apply_long-becomes (function_type r s) types (abstraction p b) (a ∷ rest) t h sp e =
    let whole : function_type h.0 p ≡ function_type r s = h.2 in
    let asked : function_type r s ≡ function_type sp.0 sp.1 = sp.2 in
    let same_p : p ≡ s = cc in
    let same_r : h.0 ≡ r = cc in
    let same_q : sp.0 ≡ r = cc in
    let same_s : sp.1 ≡ s = cc in
    let hb : Long (s ∷ types) b r = subst (Long (s ∷ types) b) same_r (subst (λ (q : SimpleType). Long (q ∷ types) b h.0) same_p h.1) in
    let ha : Long types a s = subst (Long types a) same_s sp.3 in
    let sp' : Spine types r rest t = subst (λ (q : SimpleType). Spine types q rest t) same_q sp.4 in
    let x = put_long_in_long s (apply_long s) (apply_long-becomes s) 0 a b (s ∷ types) types (removed-instance s types) (rw (raise-none 0 a) ha) r hb in
    let v = put_long (apply_long s) 0 a b [] in
    let y = apply_long-becomes r types v rest t x.0 sp' e in
    let redex : Typed types (application (abstraction p b) a) r = (s, form-typed long types (abstraction p b) (function_type r s) h, form-typed long types a s ha) in (
      y.0,
      conv-trans types t (apply_all (application (abstraction p b) a) rest) (apply_all v rest) (apply_long r v rest)
          (spine-conv types r t rest (application (abstraction p b) a) v sp' (next (application (abstraction p b) a) (put 0 a b) v redex (inl (beta p b a)) x.1)) y.1,
    )
apply_long-becomes (function_type r s) types (free n p) (a ∷ rest) t h sp e = elim h.0 [ ]
apply_long-becomes (function_type r s) types (bound i) (a ∷ rest) t h sp e = elim h.0 [ ]
apply_long-becomes (function_type r s) types (constant c) (a ∷ rest) t h sp e = elim h.0 [ ]
apply_long-becomes (function_type r s) types (application f x) (a ∷ rest) t h sp e = elim h.0 [ ]

-- the long form of a neutral term
pub long_form-becomes : (t : SimpleType) (types : List SimpleType) (f : Term) → Neutral types f t → Becomes types t f (long_form t f)
long_form-becomes (base_type l) types f h = (base_type-only types f (base_type l) h tt, done f (form-typed neutral types f (base_type l) h))
long_form-becomes (function_type r s) types f h =
    let f1 = raise 1 0 f in
    let hf1 : Neutral (s ∷ types) f1 (function_type r s) = form-raise 1 0 neutral types (s ∷ types) f (function_type r s) (shifted_one types s) h in
    let x = long_form-becomes s (s ∷ types) (bound 0) (tt, refl) in
    let y = long_form-becomes r (s ∷ types) (application f1 (long_form s (bound 0))) (tt, (s, hf1, x.0)) in
    let hf : Typed types f (function_type r s) = form-typed neutral types f (function_type r s) h in
    let tf1 : Typed (s ∷ types) f1 (function_type r s) = form-typed neutral (s ∷ types) f1 (function_type r s) hf1 in
    let c0 : Conv (s ∷ types) r (application f1 (bound 0)) (long_form r (application f1 (long_form s (bound 0)))) =
    conv-trans (s ∷ types) r (application f1 (bound 0)) (application f1 (long_form s (bound 0))) (long_form r (application f1 (long_form s (bound 0))))
    (conv-in-argument (s ∷ types) r s f1 (bound 0) (long_form s (bound 0)) tf1 x.1) y.1 in (
      (r, y.0, refl),
      next f (abstraction s (application f1 (bound 0))) (abstraction s (long_form r (application f1 (long_form s (bound 0))))) hf (inr (eta s f))
          (conv-in-body types r s (application f1 (bound 0)) (long_form r (application f1 (long_form s (bound 0)))) c0),
    )

pub apply_abstraction-becomes : (types : List SimpleType) (t s : SimpleType) (g a : Term) → Long types g (function_type t s) → Long types a s → Becomes types t (application g a) (apply_abstraction g a)
apply_abstraction-becomes types t s (free n p) a h ha = elim h.0 [ ]
apply_abstraction-becomes types t s (bound i) a h ha = elim h.0 [ ]
apply_abstraction-becomes types t s (constant c) a h ha = elim h.0 [ ]
apply_abstraction-becomes types t s (application f x) a h ha = elim h.0 [ ]
apply_abstraction-becomes types t s (abstraction p b) a h ha =
    let whole : function_type h.0 p ≡ function_type t s = h.2 in
    let same_p : s ≡ p = cc in
    let same_t : h.0 ≡ t = cc in
    let ha' : Long types a p = subst (Long types a) same_p ha in
    let x = put_long_in_long p (apply_long p) (apply_long-becomes p) 0 a b (p ∷ types) types (removed-instance p types) (rw (raise-none 0 a) ha') t (subst (Long (p ∷ types) b) same_t h.1) in
    let redex : Typed types (application (abstraction p b) a) t = (s, form-typed long types (abstraction p b) (function_type t s) h, form-typed long types a s ha) in
    (x.0, next (application (abstraction p b) a) (put 0 a b) (hereditary p 0 a b) redex (inl (beta p b a)) x.1)

-- long abstractions applied one after another
apply_abstractions-becomes : (types : List SimpleType) (q t : SimpleType) (rest : List Term) (g : Term) → Long types g q → Spine types q rest t
    → Becomes types t (apply_all g rest) (apply_abstractions g rest)
apply_abstractions-becomes types q t [] g h sp = (subst (Long types g) sp h, done g (subst (Typed types g) sp (form-typed long types g q h)))
apply_abstractions-becomes types q t (a ∷ rest) g h sp =
    let hg : Long types g (function_type sp.0 sp.1) = subst (Long types g) sp.2 h in
    let x = apply_abstraction-becomes types sp.0 sp.1 g a hg sp.3 in
    let y = apply_abstractions-becomes types sp.0 t rest (apply_abstraction g a) x.0 sp.4 in (
      y.0,
      conv-trans types t (apply_all (application g a) rest) (apply_all (apply_abstraction g a) rest) (apply_abstractions (apply_abstraction g a) rest)
          (spine-conv types sp.0 t rest (application g a) (apply_abstraction g a) sp.4 x.1) y.1,
    )

-- a head with long arguments
long_head-becomes : (types : List SimpleType) (q t : SimpleType) (rest : List Term) (f : Term) → Neutral types f q → Spine types q rest t
    → Becomes types t (apply_all f rest) (long_head q f rest)
long_head-becomes types q t [] f h sp = let P : SimpleType → Type 0 = λ t. Becomes types t f (long_form q f) in subst P sp (long_form-becomes q types f h)
long_head-becomes types (base_type l) t (a ∷ rest) f h sp = let bad : base_type l ≡ function_type sp.0 sp.1 = sp.2 in cc
long_head-becomes types (function_type r s) t (a ∷ rest) f h sp =
    let whole : function_type r s ≡ function_type sp.0 sp.1 = sp.2 in
    let same_r : sp.0 ≡ r = cc in
    let same_s : sp.1 ≡ s = cc in
    long_head-becomes types r t rest (application f a) (tt, (s, h, subst (Long types a) same_s sp.3)) (subst (λ (q : SimpleType). Spine types q rest t) same_r sp.4)

-- a head whose type is found as another one
head-becomes : (types : List SimpleType) (q p t : SimpleType) (rest : List Term) (f : Term) → q ≡ p → Neutral types f p → Spine types p rest t
    → Becomes types t (apply_all f rest) (long_head q f rest)
head-becomes types q p t rest f e h sp =
    let P : SimpleType → Type 0 = λ q. Becomes types t (apply_all f rest) (long_head q f rest) in
    subst P (sym e) (long_head-becomes types p t rest f h sp)

pub normal_with-becomes : (types : List SimpleType) (a : Term) (q t : SimpleType) (rest : List Term) → Typed types a q → Spine types q rest t
    → Becomes types t (apply_all a rest) (normal_with types a rest)
normal_with-becomes types (free n s) q t rest h sp = head-becomes types s q t rest (free n s) h (tt, h) sp
normal_with-becomes types (bound i) q t rest h sp = head-becomes types (type_of_index types i) q t rest (bound i) (lookup_some types i q h) (tt, h) sp
normal_with-becomes types (constant c) q t rest h sp = head-becomes types (type_of_constant c) q t rest (constant c) h (tt, h) sp
normal_with-becomes types (application f a) q t rest h sp =
    let v = normal_with types a [] in
    let x = normal_with-becomes types a h.0 h.0 [] h.2 refl in
    let y = normal_with-becomes types f (function_type q h.0) t (v ∷ rest) h.1 (q, h.0, refl, x.0, sp) in (
      y.0,
      conv-trans types t (apply_all (application f a) rest) (apply_all (application f v) rest) (normal_with types f (v ∷ rest))
          (spine-conv types q t rest (application f a) (application f v) sp (conv-in-argument types q h.0 f a v h.1 x.1)) y.1,
    )
normal_with-becomes types (abstraction s b) q t rest h sp =
    let n = normal_with (s ∷ types) b [] in
    let x = normal_with-becomes (s ∷ types) b h.0 h.0 [] h.1 refl in
    let inside : Conv types q (abstraction s b) (abstraction s n) = subst (λ (q : SimpleType). Conv types q (abstraction s b) (abstraction s n)) h.2 (conv-in-body types h.0 s b n x.1) in
    let y = apply_abstractions-becomes types q t rest (abstraction s n) (h.0, x.0, h.2) sp in (
      y.0,
      conv-trans types t (apply_all (abstraction s b) rest) (apply_all (abstraction s n) rest) (apply_abstractions (abstraction s n) rest)
          (spine-conv types q t rest (abstraction s b) (abstraction s n) sp inside) y.1,
    )

pub normal_form-becomes : (types : List SimpleType) (a : Term) (t : SimpleType) → Typed types a t → Becomes types t a (normal_form types a)
normal_form-becomes types a t h = normal_with-becomes types a t t [] h refl
