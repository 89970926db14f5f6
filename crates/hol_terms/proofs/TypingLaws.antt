-- Types of terms: there is at most one, and it stays under raised and replaced indices and in the body over a variable.
use Rattle.std.proofs.Common.{ℕ, zero, suc, ◌+◌, ◌-◌, ◌<◌, List, [], ◌∷◌, ◌++◌, Bool, true, false, cond, ◌≡◌, refl, sym, ap, subst, ◌∙◌, slice_get, Some, length, arith, add-one}
use Rattle.std.proofs.lemmas.Bool.Decides.{nat_tests}
use Rattle.std.proofs.lemmas.Option.{slice_get_within}
use Rattle.hol_terms.specs.Terms.{SimpleType, function_type, Term, free, bound, constant, application, abstraction}
use Rattle.hol_terms.specs.Typing.{Typed}
use Rattle.hol_terms.specs.Computed.{same_variable}
use Rattle.hol_terms.specs.Indices.{raise_index, raise, put_index, put, IsClosedBelow, IsClosed}
use Rattle.hol_terms.specs.FreeVariables.{body_over, IsBodyOver}
use Rattle.hol_terms.proofs.Same.{same_variable_parts}
use Rattle.hol_terms.proofs.Typings.{typed_to}
use Rattle.hol_terms.proofs.IndexLaws.{raise_index-zero, raise_index-suc, raise_index-one, raise-none, put_index-zero, put_index-suc, put_index-same, put_index-more}
use Rattle.hol_terms.proofs.Bodies.{body_over_of_put, closed_before_put}

-- a term has at most one type
pub typed_once : (types : List SimpleType) (t : Term) (s r : SimpleType) → Typed types t s → Typed types t r → s ≡ r
typed_once types t s r h k = let same : Some s ≡ Some r = sym (typed_to types t s h) ∙ typed_to types t r k in cc

-- the types of the loose indices, with d more of them after the first c
abbrev pub Shifted : ℕ → ℕ → List SimpleType → List SimpleType → Type 0
Shifted d c types new = (i : ℕ) (t : SimpleType) → slice_get types i ≡ Some t → slice_get new (raise_index d c i) ≡ Some t

pub shifted_under : (d c : ℕ) (types new : List SimpleType) (s : SimpleType) → Shifted d c types new → Shifted d (c + 1) (s ∷ types) (s ∷ new)
shifted_under d c types new s h zero t e = rw (raise_index-zero d c) e
shifted_under d c types new s h (suc i) t e = rw (raise_index-suc d c i) (h i t e)

pub shifted_one : (types : List SimpleType) (s : SimpleType) → Shifted 1 0 types (s ∷ types)
shifted_one types s i t e = rw (raise_index-one i) e

behind : (middle back : List SimpleType) (i : ℕ) → slice_get (middle ++ back) (i + length middle) ≡ slice_get back i
behind [] back i = let none : i + 0 ≡ i = omega arith in ap (slice_get back) none
behind (s ∷ middle) back i = let next : i + suc (length middle) ≡ suc (i + length middle) = omega arith in rw next (behind middle back i)

raise_index-all : (d i : ℕ) → raise_index d 0 i ≡ i + d
raise_index-all d i = grind (arith, nat_tests)

pub shifted_middle : (front middle back : List SimpleType) → Shifted (length middle) (length front) (front ++ back) (front ++ (middle ++ back))
shifted_middle [] middle back i t e = rw (raise_index-all (length middle) i) (behind middle back i ∙ e)
shifted_middle (s ∷ front) middle back i t e =
    subst (λ (c : ℕ). Shifted (length middle) c (s ∷ (front ++ back)) (s ∷ (front ++ (middle ++ back)))) (add-one (length front))
    (shifted_under (length middle) (length front) (front ++ back) (front ++ (middle ++ back)) s (shifted_middle front middle back)) i t e

pub typed-raise : (d c : ℕ) (types new : List SimpleType) (a : Term) (t : SimpleType) → Shifted d c types new → Typed types a t → Typed new (raise d c a) t
typed-raise d c types new (free n s) t w h = h
typed-raise d c types new (bound i) t w h = w i t h
typed-raise d c types new (constant k) t w h = h
typed-raise d c types new (application f a) t w h =
    (h.0, typed-raise d c types new f (function_type t h.0) w h.1, typed-raise d c types new a h.0 w h.2)
typed-raise d c types new (abstraction s b) t w h =
    (h.0, typed-raise d (c + 1) (s ∷ types) (s ∷ new) b h.0 (shifted_under d c types new s w) h.1, h.2)

-- further types among those of the loose indices: the indices after them are raised
pub weakening : (front middle back : List SimpleType) (a : Term) (t : SimpleType) → Typed (front ++ back) a t
    → Typed (front ++ (middle ++ back)) (raise (length middle) (length front) a) t
weakening front middle back a t h =
    typed-raise (length middle) (length front) (front ++ back) (front ++ (middle ++ back)) a t (shifted_middle front middle back) h

-- what stands for each index has the type that the index had
abbrev pub Filled : ℕ → Term → List SimpleType → List SimpleType → Type 0
Filled k u types new = (i : ℕ) (t : SimpleType) → slice_get types i ≡ Some t → Typed new (put_index k u i) t

pub filled_under : (k : ℕ) (u : Term) (types new : List SimpleType) (s : SimpleType) → Filled k u types new → Filled (k + 1) u (s ∷ types) (s ∷ new)
filled_under k u types new s h zero t e = rw (put_index-zero k u) e
filled_under k u types new s h (suc i) t e =
    rw (put_index-suc k u i) (typed-raise 1 0 new (s ∷ new) (put_index k u i) t (shifted_one new s) (h i t e))

pub filled_instance : (types : List SimpleType) (s : SimpleType) (u : Term) → Typed types u s → Filled 0 u (s ∷ types) types
filled_instance types s u h zero t e =
    let same : s ≡ t = cc in
    rw (put_index-same 0 u, raise-none 0 u) (subst (Typed types u) same h)
filled_instance types s u h (suc i) t e =
    let less : suc i - 1 ≡ i = omega arith in
    let over : 0 < suc i = omega arith in
    rw (put_index-more 0 u (suc i) over, less) e

pub filled_middle : (front back : List SimpleType) (s : SimpleType) (u : Term) → Typed back u s → Filled (length front) u (front ++ s ∷ back) (front ++ back)
filled_middle [] back s u h = filled_instance back s u h
filled_middle (q ∷ front) back s u h =
    subst (λ (k : ℕ). Filled k u (q ∷ (front ++ s ∷ back)) (q ∷ (front ++ back))) (add-one (length front))
    (filled_under (length front) u (front ++ s ∷ back) (front ++ back) q (filled_middle front back s u h))

pub typed-put : (k : ℕ) (u : Term) (types new : List SimpleType) (a : Term) (t : SimpleType) → Filled k u types new → Typed types a t → Typed new (put k u a) t
typed-put k u types new (free n s) t w h = h
typed-put k u types new (bound i) t w h = w i t h
typed-put k u types new (constant c) t w h = h
typed-put k u types new (application f a) t w h =
    (h.0, typed-put k u types new f (function_type t h.0) w h.1, typed-put k u types new a h.0 w h.2)
typed-put k u types new (abstraction s b) t w h =
    (h.0, typed-put (k + 1) u (s ∷ types) (s ∷ new) b h.0 (filled_under k u types new s w) h.1, h.2)

-- a term of the type of an index is put for that index
pub substitution : (front back : List SimpleType) (s : SimpleType) (u a : Term) (t : SimpleType) → Typed back u s → Typed (front ++ s ∷ back) a t
    → Typed (front ++ back) (put (length front) u a) t
substitution front back s u a t hu h = typed-put (length front) u (front ++ s ∷ back) (front ++ back) a t (filled_middle front back s u hu) h

pub typed_instance : (types : List SimpleType) (s : SimpleType) (u b : Term) (t : SimpleType) → Typed types u s → Typed (s ∷ types) b t → Typed types (put 0 u b) t
typed_instance types s u b t hu h = substitution [] types s u b t hu h

-- a typed term has no loose index beyond the types
closed_by_length : (types : List SimpleType) (a : Term) (t : SimpleType) (k : ℕ) → length types ≡ k → Typed types a t → IsClosedBelow k a
closed_by_length types (free n s) t k e h = tt
closed_by_length types (bound i) t k e h = let within : i < length types = slice_get_within types i t h in omega arith
closed_by_length types (constant c) t k e h = tt
closed_by_length types (application f a) t k e h =
    (closed_by_length types f (function_type t h.0) k e h.1, closed_by_length types a h.0 k e h.2)
closed_by_length types (abstraction s b) t k e h = closed_by_length (s ∷ types) b h.0 (k + 1) (omega arith) h.1

pub typed_closed : (types : List SimpleType) (a : Term) (t : SimpleType) → Typed types a t → IsClosedBelow (length types) a
typed_closed types a t h = closed_by_length types a t (length types) refl h

in_front : (types more : List SimpleType) (i : ℕ) (t : SimpleType) → slice_get types i ≡ Some t → slice_get (types ++ more) i ≡ Some t
in_front [] more i t e = cc
in_front (s ∷ types) more zero t e = e
in_front (s ∷ types) more (suc i) t e = in_front types more i t e

-- further types after those of the loose indices change nothing
pub typed_more : (types more : List SimpleType) (a : Term) (t : SimpleType) → Typed types a t → Typed (types ++ more) a t
typed_more types more (free n s) t h = h
typed_more types more (bound i) t h = in_front types more i t h
typed_more types more (constant c) t h = h
typed_more types more (application f a) t h = (h.0, typed_more types more f (function_type t h.0) h.1, typed_more types more a h.0 h.2)
typed_more types more (abstraction s b) t h = (h.0, typed_more (s ∷ types) more b h.0 h.1, h.2)

last : (types : List SimpleType) (s : SimpleType) (k : ℕ) → length types ≡ k → slice_get (types ++ s ∷ []) k ≡ Some s
last [] s k e = rw (sym e) refl
last (q ∷ types) s k e = rw (sym e) (last types s (length types) refl)

body_variable : (types : List SimpleType) (n m : List ℕ) (s r t : SimpleType) (k : ℕ) → length types ≡ k → r ≡ t → (b : Bool) → same_variable (n, s) (m, r) ≡ b
    → Typed (types ++ s ∷ []) (cond b (bound k) (free m r)) t
body_variable types n m s r t k e h true same =
    let p = same_variable_parts n m s r same in
    last types s k e ∙ ap (λ (s : SimpleType). Some s) (p.1 ∙ h)
body_variable types n m s r t k e h false same = h

-- the body over a variable has the type of the term
pub typed-body_over : (types : List SimpleType) (n : List ℕ) (s : SimpleType) (a : Term) (t : SimpleType) (k : ℕ) → length types ≡ k → Typed types a t
    → Typed (types ++ s ∷ []) (body_over n s k a) t
typed-body_over types n s (free m r) t k e h = body_variable types n m s r t k e h (same_variable (n, s) (m, r)) refl
typed-body_over types n s (bound i) t k e h = in_front types (s ∷ []) i t h
typed-body_over types n s (constant c) t k e h = h
typed-body_over types n s (application f a) t k e h =
    (h.0, typed-body_over types n s f (function_type t h.0) k e h.1, typed-body_over types n s a h.0 k e h.2)
typed-body_over types n s (abstraction r b) t k e h = (h.0, typed-body_over (r ∷ types) n s b h.0 (k + 1) (omega arith) h.1, h.2)

-- there is one body over a variable
pub body_is : (n : List ℕ) (s : SimpleType) (t body : Term) → IsClosed t → IsBodyOver n s t body → body ≡ body_over n s 0 t
body_is n s t body closed h =
    let whole : IsClosedBelow 0 (put 0 (free n s) body) = subst IsClosed (sym h.0) closed in
    sym (body_over_of_put n s 0 body h.1 (closed_before_put n s 0 body whole)) ∙ ap (body_over n s 0) h.0

pub typed_body : (n : List ℕ) (s : SimpleType) (t body : Term) (r : SimpleType) → Typed [] t r → IsBodyOver n s t body → Typed (s ∷ []) body r
typed_body n s t body r h over =
    subst (λ (b : Term). Typed (s ∷ []) b r) (sym (body_is n s t body (typed_closed [] t r h) over)) (typed-body_over [] n s t r 0 refl h)

pub one_body : (n : List ℕ) (s : SimpleType) (t b c : Term) → IsClosed t → IsBodyOver n s t b → IsBodyOver n s t c → b ≡ c
one_body n s t b c closed hb hc = body_is n s t b closed hb ∙ sym (body_is n s t c closed hc)

pub typed_is_closed : (t : Term) (s : SimpleType) → Typed [] t s → IsClosed t
typed_is_closed t s h = typed_closed [] t s h
