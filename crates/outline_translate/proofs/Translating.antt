-- From the refuted denial of the long normal form to the formula.
use Rattle.std.proofs.Common.{◌≡◌, ◌≤◌, ℕ, zero, suc, ◌+◌, ◌*◌, ◌^◌, List, [], sym, subst, arith}
use Rattle.std.proofs.lemmas.List.Elements.{All-nil}
use Rattle.hol_terms.specs.Terms.{Term, truth_type}
use Rattle.hol_conv.specs.Conversion.{Conv}
use Rattle.expansion_tree.specs.Standing.{IsNormalFormula}
use Rattle.nd_rules.specs.Lines.{DeductionLine}
use Rattle.nd_rules.specs.Outlines.{IsDerivation}
use Rattle.nd_steps.specs.Deductions.{IsDeduction, Assumes, Proves, AreAssumptions, Derives}
use Rattle.nd_steps.specs.Premises.{Contradicts, Converts}
use Rattle.nd_steps.proofs.Growing.{ends_in_derivation}

pub no_assumptions : (lines : List DeductionLine) (none : List ℕ) → none ≡ [] → AreAssumptions lines none
no_assumptions lines none empty = subst (AreAssumptions lines) (sym empty) (All-nil (λ h. (formula : Term) × Assumes lines h formula))

-- the denial, where no hypothesis is left
pub denies : (lines : List DeductionLine) (none : List ℕ) (hyp line : ℕ) (a : Term) → none ≡ [] → Contradicts lines [] hyp line a → Contradicts lines none hyp line a
denies lines none hyp line a empty h = let P : List ℕ → Type 0 = λ hs. Contradicts lines hs hyp line a in subst P (sym empty) h

-- LAMBDA
pub converts_to : (lines : List DeductionLine) (none : List ℕ) (n : ℕ) (normal formula a : Term) → IsNormalFormula normal a → formula ≡ a → Proves lines n none normal → Converts lines none n formula
converts_to lines none n normal formula a h e p = record { given = normal; proved = p; converted = subst (λ (t : Term). Conv [] truth_type normal t) (sym e) h.1 }

-- a last line without hypotheses
pub derived : (k : ℕ) (old lines : List DeductionLine) (none : List ℕ) (n : ℕ) (formula a : Term) → IsDeduction lines → none ≡ [] → formula ≡ a → Derives k old lines n none formula → IsDerivation lines a
derived k old lines none n formula a d empty e h =
    let N : List ℕ → Type 0 = λ hs. Proves lines n hs formula in
    let F : Term → Type 0 = λ t. Proves lines n [] t in
    let L : ℕ → Type 0 = λ m. Proves lines m [] a in
    ends_in_derivation lines a d (subst L h.last (subst F e (subst N empty h.proves)))

-- how many lines there are

more_times : (n k : ℕ) → 1 ≤ k → n ≤ n * k
more_times zero k h = omega arith
more_times (suc n) k h = let rest = more_times n k h in omega (arith, rest, h)

some_power : (n : ℕ) → 1 ≤ 2 ^ n
some_power zero = omega arith
some_power (suc n) = let rest = some_power n in omega (arith, rest)

pub few_lines : (n total : ℕ) → total ≤ 24 * 2 ^ n + 4 → total ≤ 64 * (n + 1) * 2 ^ n
few_lines n total h =
    let some = some_power n in
    let more = more_times (2 ^ n) (64 * (n + 1)) (omega arith) in
    let turned : 64 * (n + 1) * 2 ^ n ≡ 64 * 2 ^ n + 64 * (n * 2 ^ n) = omega arith in
    omega (arith, h, some, turned)
