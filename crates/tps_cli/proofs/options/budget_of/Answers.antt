use Rattle.std.proofs.Common.{◌≡◌, MatchOption, List, ℕ, inl, inr, refl, subst, sym}
use native.Mathlib.Omega.{arith}
use Rattle.tps_cli.specs.Options.{AreOptions}
use Rattle.tps_cli.specs.declared.options.Budget.{Budget}
use Rattle.tps_cli.proofs.Budgets.{four_words, no_words, option_count, two_words}
use Rattle.tps_cli.proofs.options.budget_of.Goals as goal

pub returns-in-empty : goal.returns-in-empty
returns-in-empty c = no_words _ c.args.options.now c.in-empty.len_below refl refl

pub returns-in-len2 : goal.returns-in-len2
returns-in-len2 c =
    let words =
    two_words c.args.options.now _ _ c.as_str.result.now c.as_str-in-len2.result.now c.name-item.is c.number-item.is c.in-len2.len_at_least
    c.in-len2.len_below c.as_str.ensures.value c.as_str-in-len2.ensures.value in
    subst
    (λ (ws : List (List ℕ)). MatchOption c.budget_of_one.result ((b : Budget) → AreOptions b ws → ⊥) (λ b. AreOptions b ws))
    (sym words)
    c.budget_of_one.ensures

pub returns-in-len4 : goal.returns-in-len4
returns-in-len4 c =
    let words =
    four_words c.args.options.now _ _ _ _ c.as_str-in-len4.result.now c.as_str-in-len4-2.result.now c.as_str-in-len4-3.result.now
    c.as_str-in-len4-4.result.now c.first-item.is c.number-item-then-options-lt5.is c.second-item.is c.other-item.is c.in-len4.len_at_least
    c.in-len4.len_below c.as_str-in-len4.ensures.value c.as_str-in-len4-2.ensures.value c.as_str-in-len4-3.ensures.value
    c.as_str-in-len4-4.ensures.value in
    subst
    (λ (ws : List (List ℕ)). MatchOption c.budget_of_two.result ((b : Budget) → AreOptions b ws → ⊥) (λ b. AreOptions b ws))
    (sym words)
    c.budget_of_two.ensures

pub returns-in_default : goal.returns-in_default
returns-in_default c = λ b o.
    let low = c.in_default.len_at_least in
    let high = c.in_default.len_below in
    elim (option_count b c.args.options.now o) [ inl e ↦ omega (arith, low, e) | inr h ↦ elim h [ inl e ↦ omega (arith, high, e) | inr e ↦ omega (arith, high, e) ] ]

pub returns-in_default-2 : goal.returns-in_default-2
returns-in_default-2 c = λ b o.
    let low = c.in_default.len_at_least in
    let high = c.in_default.len_below in
    elim (option_count b c.args.options.now o) [ inl e ↦ omega (arith, low, e) | inr h ↦ elim h [ inl e ↦ omega (arith, low, e) | inr e ↦ omega (arith, high, e) ] ]

pub returns-in_default-3 : goal.returns-in_default-3
returns-in_default-3 c = λ b o.
    let low = c.in_default.len_at_least in
    elim (option_count b c.args.options.now o) [ inl e ↦ omega (arith, low, e) | inr h ↦ elim h [ inl e ↦ omega (arith, low, e) | inr e ↦ omega (arith, low, e) ] ]
