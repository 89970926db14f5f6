-- Raised and replaced indices: how the two change each other's and their own results.
use Rattle.std.proofs.Common.{ℕ, zero, suc, ◌+◌, ◌-◌, ◌<◌, ◌≤◌, ◌≡◌, refl, sym, ap, ap₂, subst, ◌∙◌, arith, inl, inr, ◌⊎◌}
use Rattle.std.proofs.lemmas.Bool.Decides.{nat_tests}
use Rattle.hol_terms.specs.Terms.{Term, free, bound, constant, application, abstraction}
use Rattle.hol_terms.specs.Indices.{raise_index, raise, put_index, put, IsClosedBelow}

-- of two numbers one is less, or they are equal
pub trichotomy : (i k : ℕ) → (i < k) ⊎ ((i ≡ k) ⊎ (k < i))
trichotomy zero zero = inr (inl refl)
trichotomy zero (suc k) = inl (omega arith)
trichotomy (suc i) zero = inr (inr (omega arith))
trichotomy (suc i) (suc k) =
    elim (trichotomy i k) [ inl h ↦ inl (omega arith) | inr (inl e) ↦ inr (inl (ap suc e)) | inr (inr h) ↦ inr (inr (omega arith)) ]

-- an index, by its place

pub raise_index-zero : (d c : ℕ) → raise_index d (c + 1) 0 ≡ 0
raise_index-zero d c = grind (arith, nat_tests)

pub raise_index-suc : (d c i : ℕ) → raise_index d (c + 1) (suc i) ≡ suc (raise_index d c i)
raise_index-suc d c i = grind (arith, nat_tests)

pub raise_index-none : (c i : ℕ) → raise_index 0 c i ≡ i
raise_index-none c i = grind (arith, nat_tests)

pub raise_index-one : (i : ℕ) → raise_index 1 0 i ≡ suc i
raise_index-one i = grind (arith, nat_tests)

pub put_index-less : (k : ℕ) (u : Term) (i : ℕ) → i < k → put_index k u i ≡ bound i
put_index-less k u i h = grind (arith, nat_tests)

pub put_index-same : (k : ℕ) (u : Term) → put_index k u k ≡ raise k 0 u
put_index-same k u = grind (arith, nat_tests)

pub put_index-at : (k : ℕ) (u : Term) (i : ℕ) → i ≡ k → put_index k u i ≡ raise k 0 u
put_index-at k u i e = subst (λ (j : ℕ). put_index k u j ≡ raise k 0 u) (sym e) (put_index-same k u)

pub put_index-more : (k : ℕ) (u : Term) (i : ℕ) → k < i → put_index k u i ≡ bound (i - 1)
put_index-more k u i h = grind (arith, nat_tests)

pub put_index-zero : (k : ℕ) (u : Term) → put_index (k + 1) u 0 ≡ bound 0
put_index-zero k u = grind (arith, nat_tests)

-- raising

raise_index-raise_index : (d e c k i : ℕ) → c ≤ k → k ≤ c + d → raise_index e k (raise_index d c i) ≡ raise_index (d + e) c i
raise_index-raise_index d e c k i below above = grind (arith, nat_tests)

raise_index-swap : (d e c k i : ℕ) → k ≤ c → raise_index d (c + e) (raise_index e k i) ≡ raise_index e k (raise_index d c i)
raise_index-swap d e c k i below = grind (arith, nat_tests)

pub raise-none : (c : ℕ) (t : Term) → raise 0 c t ≡ t
raise-none c (free n s) = refl
raise-none c (bound i) = ap bound (raise_index-none c i)
raise-none c (constant k) = refl
raise-none c (application f a) = ap₂ application (raise-none c f) (raise-none c a)
raise-none c (abstraction s b) = ap (abstraction s) (raise-none (c + 1) b)

-- two raisings are one, where the second begins among the numbers that the first left out
pub raise-raise : (d e c k : ℕ) (t : Term) → c ≤ k → k ≤ c + d → raise e k (raise d c t) ≡ raise (d + e) c t
raise-raise d e c k (free n s) below above = refl
raise-raise d e c k (bound i) below above = ap bound (raise_index-raise_index d e c k i below above)
raise-raise d e c k (constant x) below above = refl
raise-raise d e c k (application f a) below above = ap₂ application (raise-raise d e c k f below above) (raise-raise d e c k a below above)
raise-raise d e c k (abstraction s b) below above = ap (abstraction s) (raise-raise d e (c + 1) (k + 1) b (omega arith) (omega arith))

-- two raisings in the other order
pub raise-swap : (d e c k : ℕ) (t : Term) → k ≤ c → raise d (c + e) (raise e k t) ≡ raise e k (raise d c t)
raise-swap d e c k (free n s) below = refl
raise-swap d e c k (bound i) below = ap bound (raise_index-swap d e c k i below)
raise-swap d e c k (constant x) below = refl
raise-swap d e c k (application f a) below = ap₂ application (raise-swap d e c k f below) (raise-swap d e c k a below)
raise-swap d e c k (abstraction s b) below =
    let order : c + e + 1 ≡ c + 1 + e = omega arith in
    ap (abstraction s) (subst (λ (x : ℕ). raise d x (raise e (k + 1) b) ≡ raise e (k + 1) (raise d (c + 1) b)) (sym order) (raise-swap d e (c + 1) (k + 1) b (omega arith)))

pub raise-by_suc : (k c : ℕ) (t : Term) → raise (k + 1) c t ≡ raise 1 c (raise k c t)
raise-by_suc k c t = sym (raise-raise k 1 c c t (omega arith) (omega arith))

pub put_index-suc : (k : ℕ) (u : Term) (i : ℕ) → put_index (k + 1) u (suc i) ≡ raise 1 0 (put_index k u i)
put_index-suc k u i = by_place (trichotomy i k)
  where
    by_place : (i < k) ⊎ ((i ≡ k) ⊎ (k < i)) → put_index (k + 1) u (suc i) ≡ raise 1 0 (put_index k u i)
    by_place (inl h) = put_index-less (k + 1) u (suc i) (omega arith) ∙ sym (ap bound (raise_index-one i)) ∙ ap (raise 1 0) (sym (put_index-less k u i h))
    by_place (inr (inl e)) = put_index-at (k + 1) u (suc i) (omega arith) ∙ raise-by_suc k 0 u ∙ ap (raise 1 0) (sym (put_index-at k u i e))
    by_place (inr (inr h)) =
        let less : suc i - 1 ≡ suc (i - 1) = omega arith in
        put_index-more (k + 1) u (suc i) (omega arith) ∙ ap bound (less ∙ sym (raise_index-one (i - 1))) ∙ ap (raise 1 0) (sym (put_index-more k u i h))

-- a term without loose indices from k on stays

pub raise-closed : (d c : ℕ) (t : Term) → IsClosedBelow c t → raise d c t ≡ t
raise-closed d c (free n s) h = refl
raise-closed d c (bound i) h = ap bound (below d c i h)
  where
    below : (d c i : ℕ) → i < c → raise_index d c i ≡ i
    below d c i h = grind (arith, nat_tests)
raise-closed d c (constant k) h = refl
raise-closed d c (application f a) h = ap₂ application (raise-closed d c f h.0) (raise-closed d c a h.1)
raise-closed d c (abstraction s b) h = ap (abstraction s) (raise-closed d (c + 1) b h)

pub put-closed : (k : ℕ) (u t : Term) → IsClosedBelow k t → put k u t ≡ t
put-closed k u (free n s) h = refl
put-closed k u (bound i) h = put_index-less k u i h
put-closed k u (constant c) h = refl
put-closed k u (application f a) h = ap₂ application (put-closed k u f h.0) (put-closed k u a h.1)
put-closed k u (abstraction s b) h = ap (abstraction s) (put-closed (k + 1) u b h)

-- replacing in a raised term

put_index-raised : (k d c : ℕ) (u : Term) (i : ℕ) → c ≤ k → k ≤ c + d → put_index k u (raise_index (suc d) c i) ≡ bound (raise_index d c i)
put_index-raised k d c u i below above = grind (arith, nat_tests)

-- an index that a raising left out stands nowhere
pub put-raised : (k d c : ℕ) (u t : Term) → c ≤ k → k ≤ c + d → put k u (raise (suc d) c t) ≡ raise d c t
put-raised k d c u (free n s) below above = refl
put-raised k d c u (bound i) below above = put_index-raised k d c u i below above
put-raised k d c u (constant x) below above = refl
put-raised k d c u (application f a) below above = ap₂ application (put-raised k d c u f below above) (put-raised k d c u a below above)
put-raised k d c u (abstraction s b) below above = ap (abstraction s) (put-raised (k + 1) d (c + 1) u b (omega arith) (omega arith))

raise-put_index_above : (d c k : ℕ) (u : Term) (i : ℕ) → c ≤ k → raise d c (put_index k u i) ≡ put_index (k + d) u (raise_index d c i)
raise-put_index_above d c k u i below = by_place (trichotomy i k)
  where
    less : (i d c k : ℕ) → c ≤ k → i < k → raise_index d c i < k + d
    less i d c k below h = grind (arith, nat_tests)

    same : (i d c k : ℕ) → c ≤ k → i ≡ k → raise_index d c i ≡ k + d
    same i d c k below h = grind (arith, nat_tests)

    more : (i d c k : ℕ) → c ≤ k → k < i → k + d < raise_index d c i
    more i d c k below h = grind (arith, nat_tests)

    lowered : (i d c k : ℕ) → c ≤ k → k < i → raise_index d c (i - 1) ≡ raise_index d c i - 1
    lowered i d c k below h = grind (arith, nat_tests)

    by_place : (i < k) ⊎ ((i ≡ k) ⊎ (k < i)) → raise d c (put_index k u i) ≡ put_index (k + d) u (raise_index d c i)
    by_place (inl h) = ap (raise d c) (put_index-less k u i h) ∙ sym (put_index-less (k + d) u (raise_index d c i) (less i d c k below h))
    by_place (inr (inl e)) =
        ap (raise d c) (put_index-at k u i e) ∙ raise-raise k d 0 c u (omega arith) (omega arith) ∙ sym (put_index-at (k + d) u (raise_index d c i) (same i d c k below e))
    by_place (inr (inr h)) =
        ap (raise d c) (put_index-more k u i h) ∙ ap bound (lowered i d c k below h) ∙ sym (put_index-more (k + d) u (raise_index d c i) (more i d c k below h))

-- raising what was replaced, from an index at most that one on
pub raise-put_above : (d c k : ℕ) (u t : Term) → c ≤ k → raise d c (put k u t) ≡ put (k + d) u (raise d c t)
raise-put_above d c k u (free n s) below = refl
raise-put_above d c k u (bound i) below = raise-put_index_above d c k u i below
raise-put_above d c k u (constant x) below = refl
raise-put_above d c k u (application f a) below = ap₂ application (raise-put_above d c k u f below) (raise-put_above d c k u a below)
raise-put_above d c k u (abstraction s b) below =
    let order : k + 1 + d ≡ k + d + 1 = omega arith in
    ap (abstraction s) (subst (λ (x : ℕ). raise d (c + 1) (put (k + 1) u b) ≡ put x u (raise d (c + 1) b)) order (raise-put_above d (c + 1) (k + 1) u b (omega arith)))

raise-put_index_below : (d k j : ℕ) (u : Term) (i : ℕ) → raise d (j + k) (put_index k u i) ≡ put_index k (raise d j u) (raise_index d (j + k + 1) i)
raise-put_index_below d k j u i = by_place (trichotomy i k)
  where
    less : (i d k j : ℕ) → i < k → raise_index d (j + k + 1) i < k
    less i d k j h = grind (arith, nat_tests)

    kept : (i d k j : ℕ) → i < k → raise_index d (j + k) i ≡ raise_index d (j + k + 1) i
    kept i d k j h = grind (arith, nat_tests)

    same : (i d k j : ℕ) → i ≡ k → raise_index d (j + k + 1) i ≡ k
    same i d k j h = grind (arith, nat_tests)

    more : (i d k j : ℕ) → k < i → k < raise_index d (j + k + 1) i
    more i d k j h = grind (arith, nat_tests)

    lowered : (i d k j : ℕ) → k < i → raise_index d (j + k) (i - 1) ≡ raise_index d (j + k + 1) i - 1
    lowered i d k j h = grind (arith, nat_tests)

    by_place : (i < k) ⊎ ((i ≡ k) ⊎ (k < i)) → raise d (j + k) (put_index k u i) ≡ put_index k (raise d j u) (raise_index d (j + k + 1) i)
    by_place (inl h) =
        ap (raise d (j + k)) (put_index-less k u i h) ∙ ap bound (kept i d k j h) ∙ sym (put_index-less k (raise d j u) (raise_index d (j + k + 1) i) (less i d k j h))
    by_place (inr (inl e)) =
        ap (raise d (j + k)) (put_index-at k u i e) ∙ raise-swap d k j 0 u (omega arith) ∙ sym (put_index-at k (raise d j u) (raise_index d (j + k + 1) i) (same i d k j e))
    by_place (inr (inr h)) =
        ap (raise d (j + k)) (put_index-more k u i h) ∙ ap bound (lowered i d k j h) ∙ sym (put_index-more k (raise d j u) (raise_index d (j + k + 1) i) (more i d k j h))

-- raising what was replaced, from an index at least that one on
pub raise-put_below : (d k j : ℕ) (u t : Term) → raise d (j + k) (put k u t) ≡ put k (raise d j u) (raise d (j + k + 1) t)
raise-put_below d k j u (free n s) = refl
raise-put_below d k j u (bound i) = raise-put_index_below d k j u i
raise-put_below d k j u (constant x) = refl
raise-put_below d k j u (application f a) = ap₂ application (raise-put_below d k j u f) (raise-put_below d k j u a)
raise-put_below d k j u (abstraction s b) =
    let order : j + (k + 1) ≡ j + k + 1 = omega arith in
    ap (abstraction s) (subst (λ (x : ℕ). raise d x (put (k + 1) u b) ≡ put (k + 1) (raise d j u) (raise d (x + 1) b)) order (raise-put_below d (k + 1) j u b))

put-put_index : (j m : ℕ) (u v : Term) (i : ℕ) → put (j + m) u (put_index j v i) ≡ put j (put m u v) (put_index (j + m + 1) u i)
put-put_index j m u v i = by_place (trichotomy i j)
  where
    above : (j < i) → (i < j + m + 1) ⊎ ((i ≡ j + m + 1) ⊎ (j + m + 1 < i)) → put (j + m) u (put_index j v i) ≡ put j (put m u v) (put_index (j + m + 1) u i)
    above h (inl g) =
        ap (put (j + m) u) (put_index-more j v i h) ∙ put_index-less (j + m) u (i - 1) (omega arith)
        ∙ sym (put_index-more j (put m u v) i h) ∙ sym (ap (put j (put m u v)) (put_index-less (j + m + 1) u i g))
    above h (inr (inl e)) =
        let next : j + m + 1 ≡ suc (j + m) = omega arith in
        ap (put (j + m) u) (put_index-more j v i h) ∙ put_index-at (j + m) u (i - 1) (omega arith)
        ∙ sym (put-raised j (j + m) 0 (put m u v) u (omega arith) (omega arith)) ∙ sym (ap (put j (put m u v)) (put_index-at (j + m + 1) u i e ∙ ap (λ (x : ℕ). raise x 0 u) next))
    above h (inr (inr g)) =
        ap (put (j + m) u) (put_index-more j v i h) ∙ put_index-more (j + m) u (i - 1) (omega arith)
        ∙ sym (put_index-more j (put m u v) (i - 1) (omega arith)) ∙ sym (ap (put j (put m u v)) (put_index-more (j + m + 1) u i g))

    by_place : (i < j) ⊎ ((i ≡ j) ⊎ (j < i)) → put (j + m) u (put_index j v i) ≡ put j (put m u v) (put_index (j + m + 1) u i)
    by_place (inl h) =
        ap (put (j + m) u) (put_index-less j v i h) ∙ put_index-less (j + m) u i (omega arith)
        ∙ sym (put_index-less j (put m u v) i h) ∙ sym (ap (put j (put m u v)) (put_index-less (j + m + 1) u i (omega arith)))
    by_place (inr (inl e)) =
        let order : m + j ≡ j + m = omega arith in
        let moved : put (j + m) u (raise j 0 v) ≡ raise j 0 (put m u v) = subst (λ (x : ℕ). put x u (raise j 0 v) ≡ raise j 0 (put m u v)) order (sym (raise-put_above j 0 m u v (omega arith))) in
        ap (put (j + m) u) (put_index-at j v i e) ∙ moved ∙ sym (put_index-at j (put m u v) i e) ∙ sym (ap (put j (put m u v)) (put_index-less (j + m + 1) u i (omega arith)))
    by_place (inr (inr h)) = above h (trichotomy i (j + m + 1))

-- two replacements in the other order
pub put-put : (j m : ℕ) (u v t : Term) → put (j + m) u (put j v t) ≡ put j (put m u v) (put (j + m + 1) u t)
put-put j m u v (free n s) = refl
put-put j m u v (bound i) = put-put_index j m u v i
put-put j m u v (constant x) = refl
put-put j m u v (application f a) = ap₂ application (put-put j m u v f) (put-put j m u v a)
put-put j m u v (abstraction s b) =
    let order : j + 1 + m ≡ j + m + 1 = omega arith in
    ap (abstraction s) (subst (λ (x : ℕ). put x u (put (j + 1) v b) ≡ put (j + 1) (put m u v) (put (x + 1) u b)) order (put-put (j + 1) m u v b))
