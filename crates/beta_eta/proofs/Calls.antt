-- The calls of hereditary substitution: their results by those of the calls below, whose heights are smaller.
use Rattle.std.proofs.Common.{ℕ, ◌+◌, ◌-◌, ◌*◌, ◌<◌, ◌≤◌, List, [], ◌∷◌, Bool, true, false, cond, eqb, nat_lt, ◌≡◌, ◌≢◌, ap, ap₂, sym, ◌∙◌, arith}
use Rattle.std.proofs.lemmas.Bool.Decides.{nat_tests}
use Rattle.hol_terms.specs.Terms.{SimpleType, function_type, Term, bound, application, abstraction}
use Rattle.hol_terms.specs.Indices.{raise}
use Rattle.hol_conv.specs.NormalForms.{apply_all, apply_long, hereditary, put_long, put_long_index}
use Rattle.hol_conv.proofs.Heights.{put_long_height, apply_long_height}

-- an abstraction of a function type applied to its first argument

abbrev pub first_applied : {R : Type 0} (f : SimpleType → Term → List Term → R) (q r s : SimpleType) (h : Term) (p : SimpleType) (b a : Term) (whole rest : List Term)
    → q ≡ function_type r s → h ≡ abstraction p b → whole ≡ a ∷ rest → f q h whole ≡ f (function_type r s) (abstraction p b) (a ∷ rest)
first_applied f q r s h p b a whole rest ty is list =
    ap (λ x. f x h whole) ty ∙ ap₂ (f (function_type r s)) is list

abbrev pub later_applied : {R : Type 0} (f : SimpleType → Term → List Term → R) (q r : SimpleType) (x y : Term) (more rest : List Term)
    → q ≡ r → x ≡ y → more ≡ rest → f q x more ≡ f r y rest
later_applied f q r x y more rest ty is list = ap (λ z. f z x more) ty ∙ ap₂ (f r) is list

pub application_term : (q o r s : SimpleType) (h : Term) (p : SimpleType) (b a x : Term) (whole rest more : List Term) → q ≡ function_type r s → o ≡ r
    → h ≡ abstraction p b → whole ≡ a ∷ rest → x ≡ hereditary s 0 a b → more ≡ rest → apply_long o x more ≡ apply_long q h whole
application_term q o r s h p b a x whole rest more ty part is list instance same =
    later_applied apply_long o r x (hereditary s 0 a b) more rest part instance same ∙ sym (first_applied apply_long q r s h p b a whole rest ty is list)

pub application_falls : (q o r s : SimpleType) (h : Term) (p : SimpleType) (b a x : Term) (whole rest more : List Term) (t : ℕ) → q ≡ function_type r s → o ≡ r
    → h ≡ abstraction p b → whole ≡ a ∷ rest → x ≡ hereditary s 0 a b → more ≡ rest → 2 * apply_long_height q h whole ≡ t → 2 * apply_long_height o x more < t
application_falls q o r s h p b a x whole rest more t ty part is list instance same height =
    let first : apply_long_height q h whole ≡ put_long_height (apply_long s) (apply_long_height s) 0 a b [] + apply_long_height r (hereditary s 0 a b) rest + 2 =
    first_applied apply_long_height q r s h p b a whole rest ty is list in
    let next : apply_long_height o x more ≡ apply_long_height r (hereditary s 0 a b) rest =
    later_applied apply_long_height o r x (hereditary s 0 a b) more rest part instance same in
    omega arith

-- a function that is applied to one argument more

module _ (apply : Term → List Term → Term) (height : Term → List Term → ℕ) (k : ℕ) where
  pub function_term : (u v w f g a : Term) (rest more : List Term) → w ≡ application f a → v ≡ u → g ≡ f → more ≡ put_long apply k u a [] ∷ rest
      → put_long apply k v g more ≡ put_long apply k u w rest
  function_term u v w f g a rest more is by same list =
      ap (λ x. put_long apply k x g more) by ∙ (ap₂ (put_long apply k u) same list ∙ sym (ap (λ x. put_long apply k u x rest) is))

  pub function_falls : (u v w f g a : Term) (rest more : List Term) (t : ℕ) → w ≡ application f a → v ≡ u → g ≡ f → more ≡ put_long apply k u a [] ∷ rest
      → 2 * put_long_height apply height k u w rest ≡ t → 2 * put_long_height apply height k v g more < t
  function_falls u v w f g a rest more t is by same list whole =
      let first : put_long_height apply height k u w rest ≡ put_long_height apply height k u a [] + put_long_height apply height k u f (put_long apply k u a [] ∷ rest) + 1 =
      ap (λ x. put_long_height apply height k u x rest) is in
      let next : put_long_height apply height k v g more ≡ put_long_height apply height k u f (put_long apply k u a [] ∷ rest) =
      ap (λ x. put_long_height apply height k x g more) by ∙ ap₂ (put_long_height apply height k u) same list in
      omega arith

-- an index

module _ (apply : Term → List Term → Term) (k : ℕ) (u : Term) (i : ℕ) (rest : List Term) where
  at_test : (b : Bool) → eqb i k ≡ b → put_long_index apply k u i rest ≡ cond b (apply (raise k 0 u) rest) (cond (nat_lt i k) (apply_all (bound i) rest) (apply_all (bound (i - 1)) rest))
  at_test b e = ap (λ x. cond x (apply (raise k 0 u) rest) (cond (nat_lt i k) (apply_all (bound i) rest) (apply_all (bound (i - 1)) rest))) e

  below_test : (b : Bool) → nat_lt i k ≡ b → cond (nat_lt i k) (apply_all (bound i) rest) (apply_all (bound (i - 1)) rest) ≡ cond b (apply_all (bound i) rest) (apply_all (bound (i - 1)) rest)
  below_test b e = ap (λ x. cond x (apply_all (bound i) rest) (apply_all (bound (i - 1)) rest)) e

  pub index_at : i ≡ k → put_long_index apply k u i rest ≡ apply (raise k 0 u) rest
  index_at same = let e : eqb i k ≡ true = grind (arith, nat_tests) in at_test true e

  pub index_below : i < k → put_long_index apply k u i rest ≡ apply_all (bound i) rest
  index_below less =
      let e : eqb i k ≡ false = grind (arith, nat_tests) in
      let f : nat_lt i k ≡ true = grind (arith, nat_tests) in at_test false e ∙ below_test true f

  pub index_above : i ≢ k → k ≤ i → put_long_index apply k u i rest ≡ apply_all (bound (i - 1)) rest
  index_above other more =
      let e : eqb i k ≡ false = grind (arith, nat_tests) in
      let f : nat_lt i k ≡ false = grind (arith, nat_tests) in at_test false e ∙ below_test false f
