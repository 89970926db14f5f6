-- Lines with a space.
use Rattle.std.proofs.Common.{◌≡◌, ◌↔◌, ◌⊎◌, inl, inr, ℕ, ◌<◌, List, ◌∷◌, length, Option, Some, None, MatchOption, eqb, refl, ap, arith}
use Rattle.std.specs.List.{after_first, before_first, position_or_len}
use Rattle.std.proofs.lemmas.Bool.{eqb-true}
use Rattle.std.proofs.lemmas.List.Sums.{fails_before_first, passes_at_first}
use Rattle.std.proofs.lemmas.Str.Pattern.{IsSplitOnceResult, split_once_first}
use denote.Ref.{Bor}
use Rattle.call_lines.specs.Lines.{HasNoSpace, IsHeading}

abbrev place : List ℕ → ℕ
place line = position_or_len (λ b. eqb b 32) line

no_space : (line : List ℕ) → place line ≡ length line → HasNoSpace line
no_space line e = λ (k, within, here).
    let before : k < place line = omega (arith, e) in
    let fails = fails_before_first (λ b. eqb b 32) line k 32 before in
    let passes = ap (λ (b : ℕ). eqb b 32) here in
    cc (fails, passes)

some_space : (line : List ℕ) → place line < length line → HasNoSpace line → ⊥
some_space line within none = none (place line, within, eqb-true _ 32 (passes_at_first (λ b. eqb b 32) line 32 within))

pub no_call : (line : List ℕ) (r : Option (Bor (List ℕ) × Bor (List ℕ))) → ((rest : List ℕ) → line ≡ 35 ∷ rest → r ≡ None) → IsSplitOnceResult 32 line r → (r ≡ None) ↔ (IsHeading line ⊎ HasNoSpace line)
no_call line r heading cut = go r heading (split_once_first 32 line r cut (omega arith))
  where
    go : (r : Option (Bor (List ℕ) × Bor (List ℕ))) → ((rest : List ℕ) → line ≡ 35 ∷ rest → r ≡ None)
        → MatchOption r (place line ≡ length line) (λ x. (place line < length line) × (x.0.now ≡ before_first (λ b. eqb b 32) line) × (x.1.now ≡ after_first (λ b. eqb b 32) line))
        → (r ≡ None) ↔ (IsHeading line ⊎ HasNoSpace line)
    go None heading e = (λ none. inr (no_space line e), λ h. refl)
    go (Some x) heading h = (λ none. cc, λ none. elim none [ inl p ↦ heading p.0 p.1 | inr free ↦ absurd (some_space line h.0 free) ])
