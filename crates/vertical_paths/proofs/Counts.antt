-- Laws of the counts that stand beside a path.
use Rattle.std.proofs.Common.{◌≡◌, ℕ, ◌+◌, ◌-◌, ◌<◌, ◌≤◌, ◌≢◌, ◌==◌, List, [], ◌∷◌, ◌++◌, Bool, true, false, ◌||◌, cond, nat_lt, length, set, get_or, refl, sym, ◌∙◌, ap, arith, inl, inr}
use Rattle.std.proofs.lemmas.Bool.{eq-eqb, ne_eqb, lt-ltb}
use Rattle.std.proofs.lemmas.Bool.Decides.{eqb_tells, leb_tells}
use Rattle.std.proofs.lemmas.List.{get_or_default, get_or_past, get_or-set_same, get_or-set_other}
use Rattle.std.proofs.lemmas.List.Sums.{sum_by_push, sum_by-cons, count_by-le-length}
use Rattle.vertical_paths.specs.Matings.{is_on}
use Rattle.vertical_paths.specs.Partners.{times_on, AreCounts}

times_on-push : (path : List ℕ) (n leaf : ℕ) → times_on (path ++ n ∷ []) leaf ≡ times_on path leaf + cond (n == leaf) 1 0
times_on-push path n leaf = sum_by_push (λ k. cond (k == leaf) 1 0) path n

times_on-push_same : (path : List ℕ) (n leaf : ℕ) → leaf ≡ n → times_on (path ++ n ∷ []) leaf ≡ times_on path leaf + 1
times_on-push_same path n leaf e = times_on-push path n leaf ∙ ap (λ b. times_on path leaf + cond b 1 0) (eq-eqb n leaf (sym e))

times_on-push_other : (path : List ℕ) (n leaf : ℕ) → leaf ≢ n → times_on (path ++ n ∷ []) leaf ≡ times_on path leaf
times_on-push_other path n leaf e =
    let b : (n == leaf) ≡ false = ne_eqb n leaf (λ h. e (sym h)) in
    let plus : times_on path leaf + 0 ≡ times_on path leaf = omega arith in
    times_on-push path n leaf ∙ ap (λ b. times_on path leaf + cond b 1 0) b ∙ plus

-- a leaf is counted no more often than the path is long
pub count_bound : (counts path : List ℕ) (leaf : ℕ) → AreCounts counts path → get_or counts leaf 0 ≤ length path
count_bound counts path leaf h = let e = h.each leaf in omega (arith, e, count_by-le-length (λ n. n == leaf) path)

-- a leaf that is on the path has a count
pub last_known : (counts path : List ℕ) (n : ℕ) → AreCounts counts (path ++ n ∷ []) → n < length counts
last_known counts path n h = let e : get_or counts n 0 ≡ times_on path n + 1 = h.each n ∙ times_on-push_same path n n refl in within counts n (times_on path n) e
  where
    within : (xs : List ℕ) (n k : ℕ) → get_or xs n 0 ≡ k + 1 → n < length xs
    within xs n k e = elim (leb_tells (length xs) n) [
      | inr t ↦ t.1
      | inl t ↦ (let zero = get_or_past xs n 0 t.1 in absurd (omega (arith, e, zero)))
    ]

pub counts-push : (counts path : List ℕ) (n : ℕ) → n < length counts → AreCounts counts path → AreCounts (set counts n (get_or counts n 0 + 1)) (path ++ n ∷ [])
counts-push counts path n within h = record {
  each = λ leaf. elim (eqb_tells leaf n) [
    | inl t ↦ rw t.1 (get_or-set_same counts n (get_or counts n 0 + 1) 0 within ∙ ap (λ k. k + 1) (h.each n) ∙ sym (times_on-push_same path n n refl))
    | inr t ↦ get_or-set_other counts n leaf (get_or counts n 0 + 1) 0 t.1 ∙ h.each leaf ∙ sym (times_on-push_other path n leaf t.1)
  ];
}

pub counts-pop : (counts path : List ℕ) (n : ℕ) → AreCounts counts (path ++ n ∷ []) → AreCounts (set counts n (get_or counts n 0 - 1)) path
counts-pop counts path n h = record {
  each = λ leaf. elim (eqb_tells leaf n) [
    | inl t ↦ rw t.1 (let e = h.each n ∙ times_on-push_same path n n refl in
        let less : get_or counts n 0 - 1 ≡ times_on path n = omega (arith, e) in
        get_or-set_same counts n (get_or counts n 0 - 1) 0 (last_known counts path n h) ∙ less)
    | inr t ↦ get_or-set_other counts n leaf (get_or counts n 0 - 1) 0 t.1 ∙ h.each leaf ∙ times_on-push_other path n leaf t.1
  ];
}

-- a leaf is on the path exactly where it is counted
pub is_on_counted : (path : List ℕ) (leaf : ℕ) → nat_lt 0 (times_on path leaf) ≡ is_on path leaf
is_on_counted [] leaf = refl
is_on_counted (n ∷ path) leaf =
    ap (nat_lt 0) (sum_by-cons (λ k. cond (k == leaf) 1 0) n path) ∙ go (n == leaf) (times_on path leaf) (is_on path leaf) (is_on_counted path leaf)
  where
    go : (b : Bool) (k : ℕ) (on : Bool) → nat_lt 0 k ≡ on → nat_lt 0 (cond b 1 0 + k) ≡ (b || on)
    go true k on h = lt-ltb 0 (1 + k) (omega arith)
    go false k on h = let e : 0 + k ≡ k = omega arith in ap (nat_lt 0) e ∙ h

pub is_on-counts : (counts path : List ℕ) (leaf : ℕ) → AreCounts counts path → nat_lt 0 (get_or counts leaf 0) ≡ is_on path leaf
is_on-counts counts path leaf h = ap (nat_lt 0) (h.each leaf) ∙ is_on_counted path leaf

pub last_counted : (counts path : List ℕ) (n d : ℕ) → AreCounts counts (path ++ n ∷ []) → 1 ≤ get_or counts n d
last_counted counts path n d h =
    let e = h.each n ∙ times_on-push_same path n n refl in
    let z = get_or_default counts n d 0 (last_known counts path n h) in
    omega (arith, e, z)

pub count_bound_at : (counts path : List ℕ) (leaf d : ℕ) → leaf < length counts → AreCounts counts path → get_or counts leaf d ≤ length path
count_bound_at counts path leaf d within h = rw (get_or_default counts leaf d 0 within) (count_bound counts path leaf h)
