-- How the room of a case shrinks.
use Rattle.std.proofs.Common.{◌≡◌, ◌≤◌, ◌<◌, ℕ, zero, suc, ◌+◌, ◌*◌, ◌^◌, List, [], ◌∷◌, ◌++◌, arith}
use Rattle.refutations.specs.Opens.{Open, all_unwritten}

pub power_step : (k : ℕ) → 2 ^ suc k ≡ 2 * 2 ^ k
power_step k = omega arith

pub power_positive : (k : ℕ) → 1 ≤ 2 ^ k
power_positive zero = omega arith
power_positive (suc k) = let rest = power_positive k in let step = power_step k in omega (arith, rest, step)

-- a smaller power is at most half
pub power_less : (j k : ℕ) → j < k → 2 * 2 ^ j ≤ 2 ^ k
power_less zero zero less = absurd (omega (arith, less))
power_less (suc j) zero less = absurd (omega (arith, less))
power_less zero (suc k) less = let rest = power_positive k in let step = power_step k in omega (arith, rest, step)
power_less (suc j) (suc k) less =
    let rest = power_less j k (omega (arith, less)) in
    let one = power_step j in
    let two = power_step k in
    omega (arith, rest, one, two)

pub power_most : (j k : ℕ) → j ≤ k → 2 ^ j ≤ 2 ^ k
power_most zero k most = power_positive k
power_most (suc j) zero most = absurd (omega (arith, most))
power_most (suc j) (suc k) most =
    let rest = power_most j k (omega (arith, most)) in
    let one = power_step j in
    let two = power_step k in
    omega (arith, rest, one, two)

pub unwritten_both : (xs ys : List Open) → all_unwritten (xs ++ ys) ≡ all_unwritten xs + all_unwritten ys
unwritten_both [] ys = omega arith
unwritten_both (x ∷ xs) ys = let rest = unwritten_both xs ys in omega (arith, rest)
