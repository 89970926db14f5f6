-- The computed test says which terms are long.
use Rattle.std.proofs.Common.{ℕ, ◌+◌, List, [], ◌∷◌, Bool, true, false, cond, ◌&&◌, ◌≡◌, ◌≢◌, ◌↔◌, refl, sym, ap, ap₂, subst, ◌∙◌, slice_get, Option, Some, None}
use Rattle.hol_terms.specs.Terms.{SimpleType, base_type, function_type, Term, free, bound, constant, application, abstraction}
use Rattle.hol_terms.specs.Typing.{type_of_constant, Typed}
use Rattle.hol_terms.specs.Computed.{same_type}
use Rattle.hol_terms.specs.Found.{found_type, split_found}
use Rattle.hol_terms.specs.declared.typing.FoundFunction.{FoundFunction}
use Rattle.hol_terms.proofs.Same.{same_type_refl, same_type_only, found_other}
use Rattle.hol_terms.proofs.TypingLaws.{typed_once}
use Rattle.hol_conv.specs.Conversion.{IsBase, Long, Neutral}
use Rattle.hol_conv.specs.LongTests.{with_argument, is_at_base, neutral_type, is_long}

with_argument-parts : (f : Option SimpleType) (accepts : SimpleType → Bool) (t : SimpleType) → with_argument f accepts ≡ Some t
    → (s : SimpleType) × (f ≡ Some (function_type t s)) × (accepts s ≡ true)
with_argument-parts None accepts t e = cc
with_argument-parts (Some (base_type l)) accepts t e = cc
with_argument-parts (Some (function_type r s)) accepts t e = by_test (accepts s) refl e
  where
    by_test : (b : Bool) → accepts s ≡ b → cond b (Some r) None ≡ Some t → (q : SimpleType) × (Some (function_type r s) ≡ Some (function_type t q)) × (accepts q ≡ true)
    by_test true h e = let same : r ≡ t = cc in (s, ap (λ (r : SimpleType). Some (function_type r s)) same, h)
    by_test false h e = cc

is_at_base-parts : (f : Option SimpleType) (t : SimpleType) → is_at_base f t ≡ true → IsBase t × (f ≡ Some t)
is_at_base-parts None t e = cc
is_at_base-parts (Some s) (base_type l) e = (tt, ap (λ (s : SimpleType). Some s) (same_type_only s (base_type l) e))
is_at_base-parts (Some s) (function_type r p) e = cc

is_at_base-of : (f : Option SimpleType) (t : SimpleType) → IsBase t → f ≡ Some t → is_at_base f t ≡ true
is_at_base-of f (base_type l) h e = ap (λ (f : Option SimpleType). is_at_base f (base_type l)) e ∙ same_type_refl (base_type l)
is_at_base-of f (function_type r p) h e = absurd h

both_true : (x y : Bool) → (x && y) ≡ true → (x ≡ true) × (y ≡ true)
both_true true true e = (refl, refl)
both_true true false e = cc
both_true false y e = cc

some_same : (s t : SimpleType) → Some s ≡ Some t → s ≡ t
some_same s t e = cc

mutual
  neutral_found : (types : List SimpleType) (a : Term) (t : SimpleType) → neutral_type types a ≡ Some t → Neutral types a t
  neutral_found types (free n s) t e = (tt, some_same s t e)
  neutral_found types (bound i) t e = (tt, e)
  neutral_found types (constant c) t e = (tt, some_same (type_of_constant c) t e)
  neutral_found types (application f a) t e =
      let p = with_argument-parts (neutral_type types f) (λ s. is_long types a s) t e in
      (tt, (p.0, neutral_found types f (function_type t p.0) p.1, long_found types a p.0 p.2))
  neutral_found types (abstraction s b) t e = cc

  long_found : (types : List SimpleType) (a : Term) (t : SimpleType) → is_long types a t ≡ true → Long types a t
  long_found types (free n s) t e = let p = is_at_base-parts (Some s) t e in (p.0, some_same s t p.1)
  long_found types (bound i) t e = is_at_base-parts (slice_get types i) t e
  long_found types (constant c) t e = let p = is_at_base-parts (Some (type_of_constant c)) t e in (p.0, some_same (type_of_constant c) t p.1)
  long_found types (application f a) t e =
      let q = is_at_base-parts (with_argument (neutral_type types f) (λ s. is_long types a s)) t e in
      let p = with_argument-parts (neutral_type types f) (λ s. is_long types a s) t q.1 in
      (q.0, (p.0, neutral_found types f (function_type t p.0) p.1, long_found types a p.0 p.2))
  long_found types (abstraction s b) (base_type l) e = cc
  long_found types (abstraction s b) (function_type r p) e =
      let q = both_true (same_type s p) (is_long (s ∷ types) b r) e in
      (r, long_found (s ∷ types) b r q.1, ap (function_type r) (same_type_only s p q.0))

mutual
  neutral_tested : (types : List SimpleType) (a : Term) (t : SimpleType) → Neutral types a t → neutral_type types a ≡ Some t
  neutral_tested types (free n s) t h = ap (λ (s : SimpleType). Some s) h.1
  neutral_tested types (bound i) t h = h.1
  neutral_tested types (constant c) t h = ap (λ (s : SimpleType). Some s) h.1
  neutral_tested types (application f a) t h =
      ap (λ (f : Option SimpleType). with_argument f (λ s. is_long types a s)) (neutral_tested types f (function_type t h.1.0) h.1.1)
      ∙ ap (λ (b : Bool). cond b (Some t) None) (long_tested types a h.1.0 h.1.2)
  neutral_tested types (abstraction s b) t h = absurd h

  long_tested : (types : List SimpleType) (a : Term) (t : SimpleType) → Long types a t → is_long types a t ≡ true
  long_tested types (free n s) t h = is_at_base-of (Some s) t h.0 (ap (λ (s : SimpleType). Some s) h.1)
  long_tested types (bound i) t h = is_at_base-of (slice_get types i) t h.0 h.1
  long_tested types (constant c) t h = is_at_base-of (Some (type_of_constant c)) t h.0 (ap (λ (s : SimpleType). Some s) h.1)
  long_tested types (application f a) t h =
      is_at_base-of (with_argument (neutral_type types f) (λ s. is_long types a s)) t h.0
      (ap (λ (f : Option SimpleType). with_argument f (λ s. is_long types a s)) (neutral_tested types f (function_type t h.1.0) h.1.1)
      ∙ ap (λ (b : Bool). cond b (Some t) None) (long_tested types a h.1.0 h.1.2))
  long_tested types (abstraction s b) (base_type l) h = let bad : function_type h.0 s ≡ base_type l = h.2 in cc
  long_tested types (abstraction s b) (function_type r p) h =
      let whole : function_type h.0 s ≡ function_type r p = h.2 in
      let same_r : h.0 ≡ r = cc in
      let same_s : s ≡ p = cc in
      ap₂ ◌&&◌ (ap (same_type s) (sym same_s) ∙ same_type_refl s) (long_tested (s ∷ types) b r (subst (Long (s ∷ types) b) same_r h.1))

-- a typed term, tested at its type
pub long_decided : (t : Term) (s q : SimpleType) → Typed [] t s → Typed [] t q → (is_long [] t s ≡ true) ↔ Long [] t q
long_decided t s q hs hq =
    let same : s ≡ q = typed_once [] t s q hs hq in
    ((λ e. subst (Long [] t) same (long_found [] t s e)), (λ h. long_tested [] t s (subst (Long [] t) (sym same) h)))

-- the size of a term, twice
abbrev pub twice_size : Term → ℕ
twice_size (free n s) = 2
twice_size (bound i) = 2
twice_size (constant c) = 2
twice_size (application f a) = twice_size f + twice_size a + 2
twice_size (abstraction s b) = twice_size b + 2

pub is_long_under : (types : List SimpleType) (s p r : SimpleType) (b : Term) → s ≡ p → is_long types (abstraction s b) (function_type r p) ≡ is_long (s ∷ types) b r
is_long_under types s p r b e = ap (λ (x : Bool). x && is_long (s ∷ types) b r) (ap (same_type s) (sym e) ∙ same_type_refl s)

pub is_long_at_other : (types : List SimpleType) (s p r : SimpleType) (b : Term) → s ≢ p → is_long types (abstraction s b) (function_type r p) ≡ false
is_long_at_other types s p r b h = by_test (same_type s p) refl
  where
    by_test : (x : Bool) → same_type s p ≡ x → (x && is_long (s ∷ types) b r) ≡ false
    by_test true e = absurd (h (same_type_only s p e))
    by_test false e = refl

-- the type of a head with one more argument, by the parts of the type that was found

pub argument_right : (parts : FoundFunction) (t : SimpleType) (accepts : SimpleType → Bool) → split_found (Some parts) t
    → accepts (found_type parts.argument) ≡ true → with_argument (Some t) accepts ≡ Some (found_type parts.result_type)
argument_right parts (base_type l) accepts h e = absurd h
argument_right parts (function_type r s) accepts h e =
    ap (λ (s : SimpleType). cond (accepts s) (Some r) None) (sym h.1) ∙ ap (λ (b : Bool). cond b (Some r) None) e ∙ ap (λ (r : SimpleType). Some r) (sym h.0)

pub argument_wrong : (parts : FoundFunction) (t : SimpleType) (accepts : SimpleType → Bool) → split_found (Some parts) t
    → accepts (found_type parts.argument) ≡ false → with_argument (Some t) accepts ≡ None
argument_wrong parts (base_type l) accepts h e = absurd h
argument_wrong parts (function_type r s) accepts h e =
    ap (λ (s : SimpleType). cond (accepts s) (Some r) None) (sym h.1) ∙ ap (λ (b : Bool). cond b (Some r) None) e

pub argument_at_letter : (t : SimpleType) (accepts : SimpleType → Bool) → split_found None t → with_argument (Some t) accepts ≡ None
argument_at_letter (base_type l) accepts h = refl
argument_at_letter (function_type r s) accepts h = absurd h

-- a term is long at a letter where that is the type which was found for it

is_long_at_letter : (types : List SimpleType) (t : Term) (l : ℕ) → is_long types t (base_type l) ≡ is_at_base (neutral_type types t) (base_type l)
is_long_at_letter types (free n s) l = refl
is_long_at_letter types (bound i) l = refl
is_long_at_letter types (constant c) l = refl
is_long_at_letter types (application f a) l = refl
is_long_at_letter types (abstraction s b) l = refl

pub long_at_found : (types : List SimpleType) (t : Term) (l : ℕ) (s : SimpleType) → neutral_type types t ≡ Some s → s ≡ base_type l → is_long types t (base_type l) ≡ true
long_at_found types t l s e same =
    is_long_at_letter types t l ∙ ap (λ (o : Option SimpleType). is_at_base o (base_type l)) e ∙ ap (λ (s : SimpleType). same_type s (base_type l)) same
    ∙ same_type_refl (base_type l)

pub long_at_other : (types : List SimpleType) (t : Term) (l : ℕ) (s : SimpleType) → neutral_type types t ≡ Some s → s ≢ base_type l → is_long types t (base_type l) ≡ false
long_at_other types t l s e other = is_long_at_letter types t l ∙ ap (λ (o : Option SimpleType). is_at_base o (base_type l)) e ∙ found_other s (base_type l) other
