-- Where the dependency relation is acyclic, the occurrences have an order.
use Rattle.std.proofs.Common.{◌≡◌, ◌<◌, ◌≤◌, ℕ, suc, List, [], ◌∷◌, ◌++◌, Bool, true, false, Contains, get_or, length, Option, Some, None, refl, sym, subst, arith, inl, inr, ◌⊎◌}
use Rattle.std.proofs.lemmas.Bool.Decides.{leb_tells}
use Rattle.std.proofs.lemmas.List.Elements.{All-from_get_or, Contains-get_or}
use Rattle.hol_terms.specs.Terms.{SimpleType, Term, free, bound, constant, application, abstraction}
use Rattle.hol_terms.specs.Computed.{same_variable}
use Rattle.hol_terms.specs.FreeVariables.{IsFree}
use Rattle.hol_terms.proofs.Same.{same_variable_of, same_variable_parts}
use Rattle.expansion_tree.specs.Trees.{ExpansionTree}
use Rattle.expansion_tree.specs.Occurrences.{Occurrence, occurrences_of}
use Rattle.expansion_tree.specs.Standing.{Selection, selections}
use Rattle.dependency.specs.Graphs.{last_behind, Leads}
use Rattle.dependency.specs.Dependencies.{Before, Below, IsAcyclic, IsNodeOf, IsOrder, occurrence_at}
use Rattle.dependency.proofs.Inserting.{Decided, numbers, some_decided, sorted-once, sorted-stands}
use Rattle.dependency.proofs.Nested.{before_around, Covers, covers_on, covers_same, occurrence_there, same_occurrence}

-- the relations are decided

both_decided : (A B : Type 0) → Decided A → Decided B → Decided (A × B)
both_decided A B (inl a) (inl b) = inl (a, b)
both_decided A B (inl a) (inr b) = inr (λ h. b h.1)
both_decided A B (inr a) b = inr (λ h. a h.0)

up_to_decided : (m n : ℕ) → Decided (m ≤ n)
up_to_decided m n = elim (leb_tells m n) [ inl t ↦ inl t.1 | inr t ↦ inr (λ h. omega (arith, t.1, h)) ]

free_decided : (n : List ℕ) (s : SimpleType) (t : Term) → Decided (IsFree n s t)
free_decided n s (free m r) = go (same_variable (n, s) (m, r)) refl
  where
    go : (b : Bool) → same_variable (n, s) (m, r) ≡ b → Decided (IsFree n s (free m r))
    go true e = inl (same_variable_parts n m s r e)
    go false e = inr (λ h. let yes = same_variable_of n m s r h.0 h.1 in cc)
free_decided n s (bound i) = inr (λ h. h)
free_decided n s (constant c) = inr (λ h. h)
free_decided n s (application f a) = either (free_decided n s f) (free_decided n s a)
  where
    either : Decided (IsFree n s f) → Decided (IsFree n s a) → Decided (IsFree n s f ⊎ IsFree n s a)
    either (inl h) k = inl (inl h)
    either (inr h) (inl k) = inl (inr k)
    either (inr h) (inr k) = inr (λ both. elim both [ inl left ↦ h left | inr right ↦ k right ])
free_decided n s (abstraction r b) = free_decided n s b

-- some variable selected in the branch of o is free in the term of p
abbrev Uses : List Selection → Occurrence → Occurrence → Type 0
Uses selections o p = (s : Selection) × Contains selections s × (IsNodeOf s.node o × IsFree s.variable.0 s.variable.1 p.term)

uses_decided : (selections : List Selection) (o p : Occurrence) → Decided (Uses selections o p)
uses_decided selections o p =
    some_decided (λ s. IsNodeOf s.node o × IsFree s.variable.0 s.variable.1 p.term) selections
    (λ s. both_decided (IsNodeOf s.node o) (IsFree s.variable.0 s.variable.1 p.term)
    (both_decided (o.first ≤ s.node) (s.node ≤ o.last) (up_to_decided o.first s.node) (up_to_decided s.node o.last)) (free_decided s.variable.0 s.variable.1 p.term))

before_decided : (occurrences : List Occurrence) (selections : List Selection) (e f : ℕ) → Decided (Before occurrences selections e f)
before_decided occurrences selections e f = go (occurrence_at occurrences e) (occurrence_at occurrences f) refl refl
  where
    among : (o p : Occurrence) → occurrence_at occurrences e ≡ Some o → occurrence_at occurrences f ≡ Some p → Decided (Uses selections o p) → Decided (Before occurrences selections e f)
    among o p is_o is_p (inl h) = inl (record {
      upper = o;
      is_upper = is_o;
      later = p;
      is_later = is_p;
      selection = h.0;
      selected = h.1;
      below = h.2.0;
      used = h.2.1;
    })
    among o p is_o is_p (inr none) = inr (λ b.
        let one : b.upper ≡ o = same_occurrence (occurrence_at occurrences e) b.upper o b.is_upper is_o in
        let two : b.later ≡ p = same_occurrence (occurrence_at occurrences f) b.later p b.is_later is_p in
        none (b.selection, b.selected, (rw one at b.below, rw two at b.used)))

    go : (o p : Option Occurrence) → occurrence_at occurrences e ≡ o → occurrence_at occurrences f ≡ p → Decided (Before occurrences selections e f)
    go None p is_o is_p = inr (λ b. let is = b.is_upper in cc)
    go (Some o) None is_o is_p = inr (λ b. let is = b.is_later in cc)
    go (Some o) (Some p) is_o is_p = among o p is_o is_p (uses_decided selections o p)

below_decided : (occurrences : List Occurrence) (e f : ℕ) → Decided (Below occurrences e f)
below_decided occurrences e f = go (occurrence_at occurrences e) (occurrence_at occurrences f) refl refl
  where
    among : (o p : Occurrence) → occurrence_at occurrences e ≡ Some o → occurrence_at occurrences f ≡ Some p → Decided ((o.first < p.first) × (p.last ≤ o.last)) → Decided (Below occurrences e f)
    among o p is_o is_p (inl h) = inl (record { upper = o; is_upper = is_o; inner = p; is_inner = is_p; starts = h.0; ends = h.1 })
    among o p is_o is_p (inr none) = inr (λ b.
        let one : b.upper ≡ o = same_occurrence (occurrence_at occurrences e) b.upper o b.is_upper is_o in
        let two : b.inner ≡ p = same_occurrence (occurrence_at occurrences f) b.inner p b.is_inner is_p in
        none (rw (one, two) at b.starts, rw (one, two) at b.ends))

    go : (o p : Option Occurrence) → occurrence_at occurrences e ≡ o → occurrence_at occurrences f ≡ p → Decided (Below occurrences e f)
    go None p is_o is_p = inr (λ b. let is = b.is_upper in cc)
    go (Some o) None is_o is_p = inr (λ b. let is = b.is_inner in cc)
    go (Some o) (Some p) is_o is_p =
        among o p is_o is_p (both_decided (o.first < p.first) (p.last ≤ o.last) (up_to_decided (suc o.first) p.first) (up_to_decided p.last o.last))

-- directly before, or around
abbrev First : List Occurrence → List Selection → ℕ → ℕ → Type 0
First occurrences selections e f = Before occurrences selections e f ⊎ Below occurrences e f

first_decided : (occurrences : List Occurrence) (selections : List Selection) (e f : ℕ) → Decided (First occurrences selections e f)
first_decided occurrences selections e f = go (before_decided occurrences selections e f) (below_decided occurrences e f)
  where
    go : Decided (Before occurrences selections e f) → Decided (Below occurrences e f) → Decided (First occurrences selections e f)
    go (inl h) k = inl (inl h)
    go (inr h) (inl k) = inl (inr k)
    go (inr h) (inr k) = inr (λ both. elim both [ inl left ↦ h left | inr right ↦ k right ])

-- what an occurrence reaches: what stands in the last branch of a chain from it
abbrev Reaches : List Occurrence → List Selection → ℕ → ℕ → Type 0
Reaches occurrences selections x y = (chain : List ℕ) × Leads (Before occurrences selections) x chain × Covers occurrences (last_behind x chain) y

leads-more : (R : ℕ → ℕ → Type 0) (x : ℕ) (ys : List ℕ) (z : ℕ) → Leads R x ys → R (last_behind x ys) z → Leads R x (ys ++ z ∷ [])
leads-more R x [] z leads step = (step, tt)
leads-more R x (y ∷ ys) z leads step = (leads.0, leads-more R y ys z leads.1 step)

last-more : (x : ℕ) (ys : List ℕ) (z : ℕ) → last_behind x (ys ++ z ∷ []) ≡ z
last-more x [] z = refl
last-more x (y ∷ ys) z = last-more y ys z

below_covers : (occurrences : List Occurrence) (e f : ℕ) → Below occurrences e f → Covers occurrences e f
below_covers occurrences e f b = record { outer = b.upper; is_outer = b.is_upper; inner = b.inner; is_inner = b.is_inner; starts = omega (arith, b.starts); ends = b.ends }

onward : (occurrences : List Occurrence) (selections : List Selection) (x y z : ℕ) → Reaches occurrences selections x y → First occurrences selections y z → Reaches occurrences selections x z
onward occurrences selections x y z h (inl before) = (
  h.0 ++ z ∷ [],
  leads-more (Before occurrences selections) x h.0 z h.1 (before_around occurrences selections (last_behind x h.0) y z h.2 before),
  subst (λ (u : ℕ). Covers occurrences u z) (sym (last-more x h.0 z)) (covers_same occurrences z before.later before.is_later),
)
onward occurrences selections x y z h (inr below) = (h.0, h.1, covers_on occurrences (last_behind x h.0) y z h.2 (below_covers occurrences y z below))

never : (occurrences : List Occurrence) (selections : List Selection) → IsAcyclic occurrences selections → (x y : ℕ) → Reaches occurrences selections x y → First occurrences selections y x → ⊥
never occurrences selections acyclic x y (chain, leads, covers) (inl before) = acyclic (x ∷ chain) (leads, before_around occurrences selections (last_behind x chain) y x covers before)
never occurrences selections acyclic x y ([], leads, covers) (inr below) =
    let one : covers.outer ≡ below.inner = same_occurrence (occurrence_at occurrences x) covers.outer below.inner covers.is_outer below.is_inner in
    let two : covers.inner ≡ below.upper = same_occurrence (occurrence_at occurrences y) covers.inner below.upper covers.is_inner below.is_upper in
    let up : below.inner.first ≤ below.upper.first = rw (one, two) at covers.starts in
    omega (arith, up, below.starts)
never occurrences selections acyclic x y (k ∷ ks, leads, covers) (inr below) =
    let around = covers_on occurrences (last_behind k ks) y x covers (below_covers occurrences y x below) in
    acyclic (k ∷ ks) (leads.1, before_around occurrences selections (last_behind k ks) x k around leads.0)

-- the law
pub acyclic_order : (t : ExpansionTree) (selections : List Selection) → IsAcyclic (occurrences_of t) selections → (order : List ℕ) × IsOrder (occurrences_of t) selections order
acyclic_order t selections acyclic =
    let occurrences : List Occurrence = occurrences_of t in
    let R : ℕ → ℕ → Type 0 = First occurrences selections in
    let all = numbers R (Reaches occurrences selections) (first_decided occurrences selections) (onward occurrences selections) (never occurrences selections acyclic) (length occurrences)
    (λ x low high. let there = occurrence_there occurrences x low high in ([], tt, covers_same occurrences x there.0 there.1)) in (
      all.list,
      record {
        numbers = All-from_get_or (λ e. (1 ≤ e) × (e ≤ length occurrences)) all.list 0 (λ k within. all.only (get_or all.list k 0) (Contains-get_or all.list k 0 within));
        all = all.all;
        once = sorted-once R all.list all.sorted;
        before = sorted-stands R (Before occurrences selections) (λ x y h. inl h) all.list all.sorted;
        below = sorted-stands R (Below occurrences) (λ x y h. inr h) all.list all.sorted;
      },
    )
