-- The heads of a signature and of selected variables, as a budget allows them.
use Rattle.std.proofs.Common.{ℕ, List, [], ◌++◌, ◌≡◌, ◌↔◌, ◌⊎◌, inl, inr, sym, subst, All, Contains, map}
use Rattle.std.proofs.lemmas.List.Elements.{All-weaker, Contains-append_cases, Contains-append_left, Contains-append_right}
use Rattle.hol_terms.specs.Terms.{SimpleType, Term, Variable}
use Rattle.hol_conv.specs.Conversion.{Long}
use Rattle.expansion_tree.specs.Budgets.{Head, variable_head, constant_head, heads_of, IsInSignature, IsSelected}
use Rattle.expansion_tree.specs.Occurrences.{term_weight}
use Rattle.term_lists.specs.LongTerms.{IsLongTerm}
use Rattle.term_lists.proofs.Members.{contains-map, mapped-contains}

selected_from : (selected : List Variable) (h : Head) → (v : Variable) × Contains selected v × (h ≡ variable_head v) → IsSelected selected h
selected_from selected h (v, there, e) = subst (IsSelected selected) (sym e) there

selected_to : (selected : List Variable) (h : Head) → IsSelected selected h → Contains (map variable_head selected) h
selected_to selected (variable_head v) there = mapped-contains variable_head selected v there
selected_to selected (constant_head c) never = absurd never

-- a head that a budget allows
abbrev IsAllowed : Term → ℕ → List Variable → Head → Type 0
IsAllowed formula level selected h = IsInSignature formula level h ⊎ IsSelected selected h

allowed_from : (formula : Term) (level : ℕ) (signature : List Head) (selected : List Variable) → ((h : Head) → Contains signature h ↔ IsInSignature formula level h)
    → (h : Head) → Contains (signature ++ map variable_head selected) h → IsAllowed formula level selected h
allowed_from formula level signature selected exact h c =
    elim (Contains-append_cases signature (map variable_head selected) h c) as (λ _. IsAllowed formula level selected h) [
      | inl k ↦ inl ((exact h).0 k)
      | inr k ↦ inr (selected_from selected h (contains-map variable_head selected h k))
    ]

allowed_to : (formula : Term) (level : ℕ) (signature : List Head) (selected : List Variable) → ((h : Head) → Contains signature h ↔ IsInSignature formula level h)
    → (h : Head) → IsAllowed formula level selected h → Contains (signature ++ map variable_head selected) h
allowed_to formula level signature selected exact h (inl a) = Contains-append_left signature (map variable_head selected) h ((exact h).1 a)
allowed_to formula level signature selected exact h (inr a) =
    Contains-append_right signature (map variable_head selected) h (selected_to selected h a)

pub long_in_budget : (formula : Term) (level : ℕ) (signature : List Head) (selected : List Variable) (s : SimpleType) (weight : ℕ) (t : Term)
    → ((h : Head) → Contains signature h ↔ IsInSignature formula level h)
    → IsLongTerm [] (signature ++ map variable_head selected) s weight t
    ↔ (Long [] t s × (term_weight t ≡ weight) × All (λ (h : Head). IsInSignature formula level h ⊎ IsSelected selected h) (heads_of t))
long_in_budget formula level signature selected s weight t exact =
    let given : List Head = signature ++ map variable_head selected in
    let allowed : Head → Type 0 = IsAllowed formula level selected in (
      (λ x. (x.is_long, x.weighs, All-weaker (Contains given) allowed (allowed_from formula level signature selected exact) (heads_of t) x.is_over)),
      (λ x. record {
        is_long = x.0;
        weighs = x.1;
        is_over = All-weaker allowed (Contains given) (allowed_to formula level signature selected exact) (heads_of t) x.2;
      }),
    )
