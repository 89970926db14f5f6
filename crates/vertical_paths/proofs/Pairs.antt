-- Going over the pairs of a mating, each good so far.
use Rattle.std.proofs.Common.{◌≡◌, ℕ, ◌+◌, ◌-◌, ◌<◌, Bool, List, All, length, get_or, subst, sym, ◌∙◌, ap, arith, inl, inr}
use Rattle.std.proofs.lemmas.Bool.Decides.{eqb_tells}
use Rattle.std.proofs.lemmas.List.{get_or_default, get_or-take, length-take-le}
use Rattle.std.proofs.lemmas.Option.{get_or_from_slice_get}
use Rattle.hol_terms.specs.Terms.{Term}
use Rattle.vertical_paths.specs.Matings.{IsGood, IsFirstBad}

-- each pair below k is good
abbrev pub AreGoodBelow : List (Bool × Term) → List (ℕ × ℕ) → ℕ → Type 0
AreGoodBelow leaves pairs k = (j : ℕ) (d : ℕ × ℕ) → j < k → IsGood leaves (get_or pairs j d)

pub good_more : (leaves : List (Bool × Term)) (pairs : List (ℕ × ℕ)) (k : ℕ) (e : ℕ × ℕ) → k < length pairs → AreGoodBelow leaves pairs k → IsGood leaves (get_or pairs k e) → AreGoodBelow leaves pairs (k + 1)
good_more leaves pairs k e within below here j d h =
    elim (eqb_tells j k) [
      | inl t ↦ subst (IsGood leaves) (get_or_default pairs k e d within ∙ ap (λ n. get_or pairs n d) (sym t.1)) here
      | inr t ↦ (let less : j < k = omega (arith, t.1) in below j d less)
    ]

pub not_all_good : (leaves : List (Bool × Term)) (pairs : List (ℕ × ℕ)) (k : ℕ) (e : ℕ × ℕ) → k < length pairs → ¬ IsGood leaves (get_or pairs k e) → ¬ All (IsGood leaves) pairs
not_all_good leaves pairs k e within bad all = bad (all k e within)

pub first_bad : (leaves : List (Bool × Term)) (pairs : List (ℕ × ℕ)) (k : ℕ) (e : ℕ × ℕ) → k < length pairs → AreGoodBelow leaves pairs k → ¬ IsGood leaves (get_or pairs k e) → IsFirstBad leaves pairs (k + 1)
first_bad leaves pairs k e within below bad =
    let same : k + 1 - 1 ≡ k = omega arith in
    record {
      low = omega arith;
      high = omega (arith, within);
      before = rw same (λ j d less. let some : j < k = rw (length-take-le k pairs (omega (arith, within))) at less in rw (get_or-take k pairs j d some) (below j d some));
      bad = λ pair read good. bad (subst (IsGood leaves) (sym (get_or_from_slice_get pairs k pair e (rw same at read))) good);
    }
