-- Long terms by their spines.
use Rattle.std.proofs.Common.{ℕ, suc, ◌+◌, ◌≤◌, List, ◌∷◌, [], ◌++◌, ◌≡◌, ◌↔◌, ◌⊎◌, inl, inr, refl, sym, ap, ap₂, ◌∙◌, subst, All, Contains, arith}
use Rattle.std.proofs.lemmas.List.Elements.{All-contains, All-contains_itself, All-weaker, All-append, All-cons, All-head, All-nil, Contains-append_left, Contains-append_right}
use Rattle.hol_terms.specs.Terms.{SimpleType, base_type, function_type, Term, free, bound, constant, application, abstraction}
use Rattle.hol_terms.specs.Typing.{type_of_constant}
use Rattle.hol_terms.specs.Splits.{letter_of}
use Rattle.hol_terms.specs.Scopes.{inner_types}
use Rattle.hol_conv.specs.Conversion.{Long, Neutral}
use Rattle.hol_conv.specs.LongForms.{missing_arguments}
use Rattle.expansion_tree.specs.Budgets.{Head, variable_head, constant_head, heads_of}
use Rattle.expansion_tree.specs.Occurrences.{term_weight}
use Rattle.term_lists.specs.Heads.{head_term, head_type}
use Rattle.term_lists.specs.LongTerms.{IsLongTerm}
use Rattle.term_lists.specs.Spines.{types_below, types_above, abstraction_over, IsApplied, CanWeigh, IsFromHeads, IsFromIndex}

-- lists

all-left : {X : Type 0} (P : X → Type 0) (xs ys : List X) → All P (xs ++ ys) → All P xs
all-left P xs ys h = All-weaker (Contains xs) P (λ x there. All-contains P (xs ++ ys) x h (Contains-append_left xs ys x there)) xs (All-contains_itself xs)

all-right : {X : Type 0} (P : X → Type 0) (xs ys : List X) → All P (xs ++ ys) → All P ys
all-right P xs ys h = All-weaker (Contains ys) P (λ x there. All-contains P (xs ++ ys) x h (Contains-append_right xs ys x there)) ys (All-contains_itself ys)

-- neutral terms and long terms of a letter are the same

long_from_neutral : (types : List SimpleType) (t : Term) (l : ℕ) → Neutral types t (base_type l) → Long types t (base_type l)
long_from_neutral types (free n s) l h = (tt, h.1)
long_from_neutral types (bound i) l h = (tt, h.1)
long_from_neutral types (constant c) l h = (tt, h.1)
long_from_neutral types (application f a) l h = (tt, h.1)
long_from_neutral types (abstraction s b) l h = absurd h

neutral_from_long : (types : List SimpleType) (t : Term) (l : ℕ) → Long types t (base_type l) → Neutral types t (base_type l)
neutral_from_long types (free n s) l h = (tt, h.1)
neutral_from_long types (bound i) l h = (tt, h.1)
neutral_from_long types (constant c) l h = (tt, h.1)
neutral_from_long types (application f a) l h = (tt, h.1)
neutral_from_long types (abstraction s b) l h = let e : function_type h.0 s ≡ base_type l = h.2 in absurd (cc)

-- each term weighs something
pub weight_positive : (t : Term) → 1 ≤ term_weight t
weight_positive (free n s) = omega arith
weight_positive (bound i) = omega arith
weight_positive (constant c) = omega arith
weight_positive (application f a) = omega (arith, weight_positive f)
weight_positive (abstraction s b) = weight_positive b

-- a neutral term with its arguments is long
applied_long : (types : List SimpleType) (given : List Head) (s : SimpleType) (m : ℕ) (f t : Term) → Neutral types f s → All (Contains given) (heads_of f)
    → IsApplied types given s m f t → IsLongTerm types given (base_type (letter_of s)) (term_weight f + m) t
applied_long types given (base_type l) m f t n over h =
    let e : t ≡ f = h.1 in
    let z : m ≡ 0 = h.0 in
    let same : term_weight t ≡ term_weight f = ap term_weight e in
    record {
      is_long = subst (λ (t : Term). Long types t (base_type l)) (sym e) (long_from_neutral types f l n);
      weighs = omega arith;
      is_over = subst (λ (t : Term). All (Contains given) (heads_of t)) (sym e) over;
    }
applied_long types given (function_type r s) m f t n over (a, k, j, h, e, rest) =
    let x = applied_long types given r j (application f a) t (tt, (s, n, h.is_long)) (All-append (Contains given) (heads_of f) (heads_of a) over h.is_over) rest in
    let w : term_weight a ≡ k = h.weighs in
    let total : term_weight f + term_weight a + j ≡ term_weight f + m = omega arith in
    record { is_long = x.is_long; weighs = x.weighs ∙ total; is_over = x.is_over }

-- t is a head with its arguments, one of the given ones or a bound one
abbrev IsFromSome : List SimpleType → List Head → ℕ → ℕ → Term → Type 0
IsFromSome types given letter left t = IsFromHeads types given letter left given t ⊎ IsFromIndex types given letter left t

at_given : (types : List SimpleType) (given : List Head) (h : Head) (s : SimpleType) (m : ℕ) (u : Term) → Contains given h → head_type h ≡ s
    → IsApplied types given s m (head_term h) u → IsFromSome types given (letter_of s) m u
at_given types given h s m u there e x = inl (h, there, (ap letter_of e, subst (λ (q : SimpleType). IsApplied types given q m (head_term h) u) (sym e) x))

-- a neutral term with further arguments comes from its head
from_neutral : (types : List SimpleType) (given : List Head) (t : Term) (s : SimpleType) (m : ℕ) (u : Term) → Neutral types t s → All (Contains given) (heads_of t)
    → IsApplied types given s m t u → (left : ℕ) × (term_weight t + m ≡ suc left) × IsFromSome types given (letter_of s) left u
from_neutral types given (free n q) s m u h over x =
    (m, omega arith, at_given types given (variable_head (n, q)) s m u (All-head (Contains given) (variable_head (n, q)) [] over) h.1 x)
from_neutral types given (bound i) s m u h over x = (m, omega arith, inr (i, s, h.1, (refl, x)))
from_neutral types given (constant c) s m u h over x =
    (m, omega arith, at_given types given (constant_head c) s m u (All-head (Contains given) (constant_head c) [] over) h.1 x)
from_neutral types given (application f a) s m u h over x =
    let argument : IsLongTerm types given h.1.0 (term_weight a) a = record { is_long = h.1.2; weighs = refl; is_over = all-right (Contains given) (heads_of f) (heads_of a) over } in
    let y =
    from_neutral types given f (function_type s h.1.0) (term_weight a + m) u h.1.1 (all-left (Contains given) (heads_of f) (heads_of a) over)
    (a, term_weight a, m, argument, refl, x)
    in
    let e : term_weight f + (term_weight a + m) ≡ suc y.0 = y.1 in
    (y.0, omega arith, y.2)
from_neutral types given (abstraction q b) s m u h over x = absurd h

-- a long term of a letter is a head with its arguments, and weighs one more than those
pub head_of_long : (types : List SimpleType) (given : List Head) (l left : ℕ) (t : Term) → IsLongTerm types given (base_type l) (suc left) t
    → IsFromHeads types given l left given t ⊎ IsFromIndex types given l left t
head_of_long types given l left t h =
    let x = from_neutral types given t (base_type l) 0 t (neutral_from_long types t l h.is_long) h.is_over (refl, refl) in
    let e : term_weight t + 0 ≡ suc x.0 = x.1 in
    let w : term_weight t ≡ suc left = h.weighs in
    let same : x.0 ≡ left = omega arith in
    subst (λ (n : ℕ). IsFromSome types given l n t) same x.2

relettered : (types : List SimpleType) (given : List Head) (s : SimpleType) (l weight left : ℕ) (t : Term) → letter_of s ≡ l → weight ≡ suc left
    → IsLongTerm types given (base_type (letter_of s)) weight t → IsLongTerm types given (base_type l) (suc left) t
relettered types given s l weight left t e w h =
    record { is_long = subst (λ (m : ℕ). Long types t (base_type m)) e h.is_long; weighs = h.weighs ∙ w; is_over = h.is_over }

pub long_from_heads : (types : List SimpleType) (given : List Head) (l left : ℕ) (t : Term) → IsFromHeads types given l left given t
    → IsLongTerm types given (base_type l) (suc left) t
long_from_heads types given l left t (variable_head v, there, (e, x)) =
    relettered types given v.1 l (1 + left) left t e (omega arith)
    (applied_long types given v.1 left (free v.0 v.1) t (tt, refl) (All-cons (Contains given) (variable_head v) [] there (All-nil (Contains given))) x)
long_from_heads types given l left t (constant_head c, there, (e, x)) =
    relettered types given (type_of_constant c) l (1 + left) left t e (omega arith)
    (applied_long types given (type_of_constant c) left (constant c) t (tt, refl) (All-cons (Contains given) (constant_head c) [] there (All-nil (Contains given))) x)

pub long_from_index : (types : List SimpleType) (given : List Head) (l left : ℕ) (t : Term) → IsFromIndex types given l left t
    → IsLongTerm types given (base_type l) (suc left) t
long_from_index types given l left t (i, s, at, (e, x)) =
    relettered types given s l (1 + left) left t e (omega arith) (applied_long types given s left (bound i) t (tt, at) (All-nil (Contains given)) x)

-- abstractions

pub types_above_below : (s : SimpleType) (types : List SimpleType) → types_above s (types_below s types) ≡ types
types_above_below (base_type l) types = refl
types_above_below (function_type r s) types = ap inner_types (types_above_below r (s ∷ types))

pub long_from_body : (types : List SimpleType) (given : List Head) (s : SimpleType) (w : ℕ) (b : Term)
    → IsLongTerm (types_below s types) given (base_type (letter_of s)) w b → IsLongTerm types given s w (abstraction_over s b)
long_from_body types given (base_type l) w b h = h
long_from_body types given (function_type r s) w b h =
    let x = long_from_body (s ∷ types) given r w b h in
    record { is_long = (r, x.is_long, refl); weighs = x.weighs; is_over = x.is_over }

pub body_of_long : (types : List SimpleType) (given : List Head) (s : SimpleType) (w : ℕ) (t : Term) → IsLongTerm types given s w t
    → (b : Term) × IsLongTerm (types_below s types) given (base_type (letter_of s)) w b × (t ≡ abstraction_over s b)
body_of_long types given (base_type l) w t h = (t, h, refl)
body_of_long types given (function_type r s) w (free n q) h = absurd h.is_long.0
body_of_long types given (function_type r s) w (bound i) h = absurd h.is_long.0
body_of_long types given (function_type r s) w (constant c) h = absurd h.is_long.0
body_of_long types given (function_type r s) w (application f a) h = absurd h.is_long.0
body_of_long types given (function_type r s) w (abstraction q c) h =
    let e : function_type h.is_long.0 q ≡ function_type r s = h.is_long.2 in
    let result : h.is_long.0 ≡ r = cc in
    let argument : q ≡ s = cc in
    let long_body : Long (s ∷ types) c r = subst (λ (p : SimpleType). Long (s ∷ types) c p) result (subst (λ (p : SimpleType). Long (p ∷ types) c h.is_long.0) argument h.is_long.1) in
    let body : IsLongTerm (s ∷ types) given r w c = record { is_long = long_body; weighs = h.weighs; is_over = h.is_over } in
    let x = body_of_long (s ∷ types) given r w c body in
    (x.0, x.1, ap₂ abstraction argument x.2)

-- weights

-- arguments for all that a type asks for weigh at least one each
least_weight : (types : List SimpleType) (given : List Head) (s : SimpleType) (m : ℕ) (f t : Term) → IsApplied types given s m f t → missing_arguments s ≤ m
least_weight types given (base_type l) m f t h = omega arith
least_weight types given (function_type r s) m f t (a, k, j, h, e, rest) =
    let x = least_weight types given r j (application f a) t rest in
    let w : term_weight a ≡ k = h.weighs in
    omega (arith, weight_positive a)

pub can_weigh : (types : List SimpleType) (given : List Head) (s : SimpleType) (m : ℕ) (f t : Term) → IsApplied types given s m f t → CanWeigh s m
can_weigh types given (base_type l) m f t h = h.0
can_weigh types given (function_type r s) m f t h = least_weight types given (function_type r s) m f t h

pub weight_not_zero : (types : List SimpleType) (given : List Head) (s : SimpleType) (t : Term) → IsLongTerm types given s 0 t → ⊥
weight_not_zero types given s t h = let w : term_weight t ≡ 0 = h.weighs in let p = weight_positive t in absurd (omega arith)

-- the laws in both directions

pub long_by_body : (types : List SimpleType) (given : List Head) (s : SimpleType) (weight : ℕ) (t : Term) → IsLongTerm types given s weight t
    ↔ ((b : Term) × IsLongTerm (types_below s types) given (base_type (letter_of s)) weight b × (t ≡ abstraction_over s b))
long_by_body types given s weight t = (
  body_of_long types given s weight t,
  (λ x. subst (λ (u : Term). IsLongTerm types given s weight u) (sym x.2) (long_from_body types given s weight x.0 x.1)),
)

pub long_by_head : (types : List SimpleType) (given : List Head) (l left : ℕ) (t : Term) → IsLongTerm types given (base_type l) (suc left) t
    ↔ (IsFromHeads types given l left given t ⊎ IsFromIndex types given l left t)
long_by_head types given l left t = (
  head_of_long types given l left t,
  (λ x. elim x as (λ _. IsLongTerm types given (base_type l) (suc left) t) [
    | inl h ↦ long_from_heads types given l left t h
    | inr h ↦ long_from_index types given l left t h
  ]),
)
