-- Numbers that rise, one after the other.
use Rattle.std.proofs.Common.{◌≡◌, ℕ, ◌+◌, ◌<◌, Bool, true, false, if◌then◌else◌, zero, suc, List, [], ◌∷◌, Option, Some, None, Ok, Err, refl, ap, subst, arith}
use Rattle.std.specs.Prelude.{nat_lt, slice_index}
use Rattle.std.specs.List.Sorted.{IsStrictlyIncreasing}
use Rattle.std.proofs.lemmas.Bool.{lt-ltb, ltb-true}
use Rattle.core_text.specs.Forms.{number_form, no_forms, more_forms}
use Rattle.core_text.specs.Placed.{Placed, PlacedAll, none_at, more_at, form, forms, place_of}
use Rattle.core_text.specs.Reading.{◌>>=◌, number_in}
use Rattle.core_text.proofs.Table.{bind_ok, number_read, number_spelled}
use Rattle.nd_check.specs.Forms.{number_forms}
use Rattle.nd_check.specs.Reading.{above_in, numbers_at, rising_at}

abbrev pub IsAbove : Option ℕ → ℕ → Type 0
IsAbove None n = Unit {0}
IsAbove (Some m) n = m < n

-- each is above the one before it, and the first above the last one before them
abbrev pub RisesFrom : Option ℕ → List ℕ → Type 0
RisesFrom last [] = Unit {0}
RisesFrom last (n ∷ ns) = IsAbove last n × RisesFrom (Some n) ns

strict_tail : (n m : ℕ) (ns : List ℕ) → IsStrictlyIncreasing (n ∷ m ∷ ns) → IsStrictlyIncreasing (m ∷ ns)
strict_tail n m ns h k lt = let z : suc k + 1 ≡ suc (k + 1) = omega arith in subst (λ (j : ℕ). slice_index (m ∷ ns) k < slice_index (n ∷ m ∷ ns) j) z (h (suc k) (omega (arith, lt)))

strict_from : (n : ℕ) (ns : List ℕ) → IsStrictlyIncreasing (n ∷ ns) → RisesFrom (Some n) ns
strict_from n [] h = tt
strict_from n (m ∷ ns) h = (h 0 (omega arith), strict_from m ns (strict_tail n m ns h))

from_strict : (n : ℕ) (ns : List ℕ) → RisesFrom (Some n) ns → IsStrictlyIncreasing (n ∷ ns)
from_strict n [] h k lt = absurd (omega (arith, lt))
from_strict n (m ∷ ns) h zero lt = h.0
from_strict n (m ∷ ns) h (suc k) lt =
    let z : suc (k + 1) ≡ suc k + 1 = omega arith in subst (λ (j : ℕ). slice_index (m ∷ ns) k < slice_index (n ∷ m ∷ ns) j) z (from_strict m ns h.1 k (omega (arith, lt)))

-- they rise exactly where each number is below the next
pub strictly_rises : (ns : List ℕ) → IsStrictlyIncreasing ns → RisesFrom None ns
strictly_rises [] h = tt
strictly_rises (n ∷ ns) h = (tt, strict_from n ns h)

pub rises_strictly : (ns : List ℕ) → RisesFrom None ns → IsStrictlyIncreasing ns
rises_strictly [] h = λ k lt. absurd (omega (arith, lt))
rises_strictly (n ∷ ns) h = from_strict n ns h.1

-- reading numbers
pub numbers_read : (ps : PlacedAll) (ns : List ℕ) → numbers_at ps ≡ Ok ns → forms ps ≡ number_forms ns
numbers_read none_at ns e = let same : [] ≡ ns = cc in ap number_forms same
numbers_read (more_at p ps) ns e =
    let one = bind_ok (number_in p) (λ n. numbers_at ps >>= λ more. Ok (n ∷ more)) ns e in
    let two = bind_ok (numbers_at ps) (λ more. Ok (one.0 ∷ more)) ns one.2 in
    let got = two.2 in
    let same : one.0 ∷ two.0 ≡ ns = cc in
    rw (number_read p one.0 one.1, numbers_read ps two.0 two.1) (ap number_forms same)

pub numbers_spelled : (ns : List ℕ) (ps : PlacedAll) → forms ps ≡ number_forms ns → numbers_at ps ≡ Ok ns
numbers_spelled [] none_at e = refl
numbers_spelled [] (more_at p ps) e = cc
numbers_spelled (n ∷ ns) none_at e = cc
numbers_spelled (n ∷ ns) (more_at p ps) e =
    let first : form p ≡ number_form n = cc in
    let rest : forms ps ≡ number_forms ns = cc in
    rw (number_spelled n p first, numbers_spelled ns ps rest) refl

-- reading a number above the last one
pub above_read : (last : Option ℕ) (p : Placed) (n : ℕ) → above_in last p ≡ Ok n → (form p ≡ number_form n) × IsAbove last n
above_read None p n e = (number_read p n e, tt)
above_read (Some m) p n e =
    let one = bind_ok (number_in p) (λ k. if nat_lt m k then Ok k else Err (place_of p)) n e in
    go one.0 one.1 (nat_lt m one.0) refl one.2
  where
    go : (k : ℕ) → number_in p ≡ Ok k → (b : Bool) → nat_lt m k ≡ b → (if b then Ok k else Err (place_of p)) ≡ Ok n → (form p ≡ number_form n) × (m < n)
    go k read true h e =
        let same : k ≡ n = cc in
        let P : ℕ → Type 0 = λ n. (form p ≡ number_form n) × (m < n) in
        subst P same (number_read p k read, ltb-true m k h)
    go k read false h e = cc

pub above_spelled : (last : Option ℕ) (p : Placed) (n : ℕ) → form p ≡ number_form n → IsAbove last n → above_in last p ≡ Ok n
above_spelled None p n e h = number_spelled n p e
above_spelled (Some m) p n e h = rw (number_spelled n p e, lt-ltb m n h) refl

-- reading numbers that rise
pub rising_read : (last : Option ℕ) (ps : PlacedAll) (ns : List ℕ) → rising_at last ps ≡ Ok ns → (forms ps ≡ number_forms ns) × RisesFrom last ns
rising_read last none_at ns e =
    let same : [] ≡ ns = cc in
    let P : List ℕ → Type 0 = λ ns. (no_forms ≡ number_forms ns) × RisesFrom last ns in
    subst P same (refl, tt)
rising_read last (more_at p ps) ns e =
    let one = bind_ok (above_in last p) (λ n. rising_at (Some n) ps >>= λ more. Ok (n ∷ more)) ns e in
    let two = bind_ok (rising_at (Some one.0) ps) (λ more. Ok (one.0 ∷ more)) ns one.2 in
    let got = two.2 in
    let same : one.0 ∷ two.0 ≡ ns = cc in
    let first = above_read last p one.0 one.1 in
    let rest = rising_read (Some one.0) ps two.0 two.1 in
    let P : List ℕ → Type 0 = λ ns. (more_forms (form p) (forms ps) ≡ number_forms ns) × RisesFrom last ns in
    subst P same (rw (first.0, rest.0) refl, (first.1, rest.1))

pub rising_spelled : (last : Option ℕ) (ns : List ℕ) (ps : PlacedAll) → forms ps ≡ number_forms ns → RisesFrom last ns → rising_at last ps ≡ Ok ns
rising_spelled last [] none_at e h = refl
rising_spelled last [] (more_at p ps) e h = cc
rising_spelled last (n ∷ ns) none_at e h = cc
rising_spelled last (n ∷ ns) (more_at p ps) e h =
    let first : form p ≡ number_form n = cc in
    let rest : forms ps ≡ number_forms ns = cc in
    rw (above_spelled last p n first h.0, rising_spelled (Some n) ns ps rest h.1) refl
