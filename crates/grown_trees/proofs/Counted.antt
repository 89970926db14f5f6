-- How often a variable stands in a list, and lists of new variables by that.
use Rattle.std.proofs.Common.{◌≡◌, ◌≤◌, ◌+◌, ℕ, List, [], ◌∷◌, ◌++◌, Bool, true, false, cond, Contains, refl, ap, sym, subst, ◌∙◌, arith, inl, inr}
use Rattle.std.proofs.lemmas.List.Elements.{Contains-append_left, Contains-append_right, Contains-append_cases}
use Rattle.hol_terms.specs.Terms.{Variable}
use Rattle.hol_terms.specs.Computed.{same_variable}
use Rattle.hol_terms.proofs.Same.{same_variable_only, same_variable_refl}
use Rattle.expansion_tree.specs.Faults.{AreNew}
use Rattle.dependency.proofs.Elements.{Contains-first, Contains-later, first_or_later, none_there}

abbrev pub times : Variable → List Variable → ℕ
times v [] = 0
times v (w ∷ ws) = cond (same_variable v w) 1 0 + times v ws

pub times-append : (v : Variable) (xs ys : List Variable) → times v (xs ++ ys) ≡ times v xs + times v ys
times-append v [] ys = omega arith
times-append v (x ∷ xs) ys = let rest = times-append v xs ys in omega (arith, rest)

pub counted_here : (v w : Variable) → w ≡ v → ◌≡◌ {A = ℕ} (cond (same_variable v w) 1 0) 1
counted_here v w e = ap (λ (b : Bool). cond b 1 0) (ap (same_variable v) e ∙ same_variable_refl v)

pub contains_times : (v : Variable) (xs : List Variable) → Contains xs v → 1 ≤ times v xs
contains_times v [] h = absurd (none_there v h)
contains_times v (x ∷ xs) h = elim (first_or_later x xs v h) [
  | inl same ↦ (let here = counted_here v x same in omega (arith, here))
  | inr later ↦ (let rest = contains_times v xs later in omega (arith, rest))
]

pub times_contains : (v : Variable) (xs : List Variable) → 1 ≤ times v xs → Contains xs v
times_contains v [] h = absurd (omega (arith, h))
times_contains v (x ∷ xs) h = by_test (same_variable v x) refl h (times_contains v xs)
  where
    by_test : (b : Bool) → same_variable v x ≡ b → 1 ≤ cond b 1 0 + times v xs → (1 ≤ times v xs → Contains xs v) → Contains (x ∷ xs) v
    by_test true e h rest = subst (λ (w : Variable). Contains (x ∷ xs) w) (sym (same_variable_only v x e)) (Contains-first x xs)
    by_test false e h rest = Contains-later x xs v (rest (omega (arith, h)))

-- each variable stands at most once in the list, and not at all where it is taken
abbrev pub AreCounted : List Variable → List Variable → Type 0
AreCounted taken vs = (v : Variable) → (times v vs ≤ 1) × (Contains taken v → times v vs ≡ 0)

pub new_counted : (taken vs : List Variable) → AreNew taken vs → AreCounted taken vs
new_counted taken [] h v = (omega arith, λ there. omega arith)
new_counted taken (x ∷ vs) h v = by_test (same_variable v x) refl (new_counted (taken ++ x ∷ []) vs h.1 v)
  where
    by_test : (b : Bool) → same_variable v x ≡ b → (times v vs ≤ 1) × (Contains (taken ++ x ∷ []) v → times v vs ≡ 0)
        → (cond b 1 0 + times v vs ≤ 1) × (Contains taken v → cond b 1 0 + times v vs ≡ 0)
    by_test true e rest =
        let same = same_variable_only v x e in
        let none = rest.1 (Contains-append_right taken (x ∷ []) v (subst (λ (w : Variable). Contains (x ∷ []) w) (sym same) (Contains-first x []))) in
        (omega (arith, none), λ there. absurd (h.0 (subst (Contains taken) same there)))
    by_test false e rest = (omega (arith, rest.0), λ there. let none = rest.1 (Contains-append_left taken (x ∷ []) v there) in omega (arith, none))

pub counted_new : (taken vs : List Variable) → AreCounted taken vs → AreNew taken vs
counted_new taken [] h = tt
counted_new taken (x ∷ vs) h = (
  (λ there. let none = (h x).1 there in let here = counted_here x x refl in absurd (omega (arith, none, here))),
  counted_new (taken ++ x ∷ []) vs (λ v. (
    (let all = (h v).0 in omega (arith, all)),
    (λ there. elim (Contains-append_cases taken (x ∷ []) v there) [
      | inl left ↦ (let none = (h v).1 left in omega (arith, none))
      | inr right ↦ (elim (first_or_later x [] v right) [
        | inl same ↦ (let here = counted_here v x same in let all = (h v).0 in omega (arith, here, all))
        | inr nowhere ↦ absurd (none_there v nowhere)
      ])
    ]),
  )),
)

-- no variable stands twice
abbrev pub IsOnce : List Variable → Type 0
IsOnce [] = Unit {0}
IsOnce (v ∷ vs) = (Contains vs v → ⊥) × IsOnce vs

pub counted_once : (vs : List Variable) → ((v : Variable) → times v vs ≤ 1) → IsOnce vs
counted_once [] h = tt
counted_once (x ∷ vs) h = (
  (λ there. let more = contains_times x vs there in let here = counted_here x x refl in let all = h x in absurd (omega (arith, more, here, all))),
  counted_once vs (λ v. let all = h v in omega (arith, all)),
)
