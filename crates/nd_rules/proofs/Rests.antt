-- What the tests of hypotheses decide.
use Rattle.std.proofs.Common.{◌≡◌, ℕ, zero, suc, ◌==◌, ◌<◌, List, [], ◌∷◌, ◌++◌, length, Bool, true, false, not, cond, ◌&&◌, ◌||◌, refl, sym, ◌∙◌, ap, arith, inl, inr}
use Rattle.std.specs.Prelude.{Option, Some, None, Contains}
use Rattle.std.specs.List.{AllByRecursion, list_all, flat_map}
use Rattle.std.proofs.lemmas.List.Elements.{recursion_from_All, All-from_recursion}
use Rattle.std.proofs.lemmas.Bool.{eq-eqb}
use Rattle.std.proofs.lemmas.Bool.Decides.{eqb_tells}
use Rattle.nd_rules.specs.Lines.{Justification, hypothesis, deduction, universal_instance, generalization, existential, choice, conversion, assignments, planned, DeductionLine, line_with}
use Rattle.nd_rules.specs.Rules.{is_hypothesis, hypotheses_of, discharged, inherited, IsHypothesisLine, HasHypotheses}
use Rattle.nd_rules.specs.Resting.{is_among, are_covered, are_covered_but, is_hypothesis_in, is_hypothesis_number, covers_inherited}

and_true : (a b : Bool) → (a && b) ≡ true → (a ≡ true) × (b ≡ true)
and_true true true h = (refl, refl)
and_true true false h = cc
and_true false b h = cc

both_true : (a b : Bool) → a ≡ true → b ≡ true → (a && b) ≡ true
both_true true b h k = k
both_true false b h k = cc

-- a number is in a list

contains_more : (hs : List ℕ) (m n : ℕ) → Contains hs n → Contains (m ∷ hs) n
contains_more hs m n h = (suc h.0, (let within : h.0 < length hs = h.1 in omega arith), h.2)

pub among_contains : (hs : List ℕ) (n : ℕ) → is_among hs n ≡ true → Contains hs n
among_contains [] n h = cc
among_contains (m ∷ hs) n h = elim (eqb_tells m n) [
  | inl same ↦ (zero, omega arith, same.1)
  | inr other ↦ contains_more hs m n (among_contains hs n (sym (ap (λ b. b || is_among hs n) other.0) ∙ h))
]

pub contains_among : (hs : List ℕ) (n : ℕ) → Contains hs n → is_among hs n ≡ true
contains_among [] n (k, within, e) = absurd (omega arith)
contains_among (m ∷ hs) n (zero, within, e) = ap (λ b. b || is_among hs n) (eq-eqb m n e)
contains_among (m ∷ hs) n (suc k, within, e) = go (m == n) (contains_among hs n (k, omega arith, e))
  where
    go : (b : Bool) → is_among hs n ≡ true → (b || is_among hs n) ≡ true
    go true h = refl
    go false h = h

-- all numbers of a list are in another
covered_all : (hs ns : List ℕ) → are_covered hs ns ≡ true → AllByRecursion (Contains hs) ns
covered_all hs [] h = tt
covered_all hs (n ∷ ns) h = let both = and_true (is_among hs n) (are_covered hs ns) h in (among_contains hs n both.0, covered_all hs ns both.1)

all_covered : (hs ns : List ℕ) → AllByRecursion (Contains hs) ns → are_covered hs ns ≡ true
all_covered hs [] h = refl
all_covered hs (n ∷ ns) h = both_true (is_among hs n) (are_covered hs ns) (contains_among hs n h.0) (all_covered hs ns h.1)

covered_but_all : (hs ns : List ℕ) (d : ℕ) → are_covered_but hs ns d ≡ true → AllByRecursion (Contains hs) (discharged d ns)
covered_but_all hs [] d h = tt
covered_but_all hs (n ∷ ns) d h = go (n == d) (and_true ((n == d) || is_among hs n) (are_covered_but hs ns d) h) (covered_but_all hs ns d)
  where
    go : (b : Bool) → ((b || is_among hs n) ≡ true) × (are_covered_but hs ns d ≡ true) → (are_covered_but hs ns d ≡ true → AllByRecursion (Contains hs) (discharged d ns)) → AllByRecursion (Contains hs) (cond (not b) (n ∷ discharged d ns) (discharged d ns))
    go true both rest = rest both.1
    go false both rest = (among_contains hs n both.0, rest both.1)

all_covered_but : (hs ns : List ℕ) (d : ℕ) → AllByRecursion (Contains hs) (discharged d ns) → are_covered_but hs ns d ≡ true
all_covered_but hs [] d h = refl
all_covered_but hs (n ∷ ns) d h = go (n == d) h (all_covered_but hs ns d)
  where
    go : (b : Bool) → AllByRecursion (Contains hs) (cond (not b) (n ∷ discharged d ns) (discharged d ns)) → (AllByRecursion (Contains hs) (discharged d ns) → are_covered_but hs ns d ≡ true) → ((b || is_among hs n) && are_covered_but hs ns d) ≡ true
    go true h rest = rest h
    go false h rest = both_true (is_among hs n) (are_covered_but hs ns d) (contains_among hs n h.0) (rest h.1)

-- in two lists one after the other
all_append : (hs xs ys : List ℕ) → AllByRecursion (Contains hs) xs → AllByRecursion (Contains hs) ys → AllByRecursion (Contains hs) (xs ++ ys)
all_append hs [] ys p q = q
all_append hs (x ∷ xs) ys p q = (p.0, all_append hs xs ys p.1 q)

append_all : (hs xs ys : List ℕ) → AllByRecursion (Contains hs) (xs ++ ys) → AllByRecursion (Contains hs) xs × AllByRecursion (Contains hs) ys
append_all hs [] ys h = (tt, h)
append_all hs (x ∷ xs) ys h = let rest = append_all hs xs ys h.1 in ((h.0, rest.0), rest.1)

-- and in those of a list of lines
each_covered : (hs : List ℕ) (f : ℕ → List ℕ) (ds : List ℕ) → list_all (λ d. are_covered hs (f d)) ds ≡ true → AllByRecursion (Contains hs) (flat_map f ds)
each_covered hs f [] h = tt
each_covered hs f (d ∷ ds) h =
    let both = and_true (are_covered hs (f d)) (list_all (λ d. are_covered hs (f d)) ds) h in
    all_append hs (f d) (flat_map f ds) (covered_all hs (f d) both.0) (each_covered hs f ds both.1)

covered_each : (hs : List ℕ) (f : ℕ → List ℕ) (ds : List ℕ) → AllByRecursion (Contains hs) (flat_map f ds) → list_all (λ d. are_covered hs (f d)) ds ≡ true
covered_each hs f [] h = refl
covered_each hs f (d ∷ ds) h =
    let both = append_all hs (f d) (flat_map f ds) h in
    both_true (are_covered hs (f d)) (list_all (λ d. are_covered hs (f d)) ds) (all_covered hs (f d) both.0) (covered_each hs f ds both.1)

-- the hypotheses that a rule lets a line rest on
inherits : (lines : List DeductionLine) (l : DeductionLine) (w : Justification) → covers_inherited lines l w ≡ true → AllByRecursion (Contains l.hypotheses) (inherited lines l w)
inherits lines l hypothesis h = tt
inherits lines l (deduction d e) h = covered_but_all l.hypotheses (hypotheses_of lines l d) e h
inherits lines l (universal_instance d t) h = covered_all l.hypotheses (hypotheses_of lines l d) h
inherits lines l (generalization d a) h = covered_all l.hypotheses (hypotheses_of lines l d) h
inherits lines l (existential d t) h = covered_all l.hypotheses (hypotheses_of lines l d) h
inherits lines l (choice e k d a) h =
    let both = and_true (are_covered l.hypotheses (hypotheses_of lines l e)) (are_covered_but l.hypotheses (hypotheses_of lines l d) k) h in
    all_append l.hypotheses (hypotheses_of lines l e) (discharged k (hypotheses_of lines l d)) (covered_all l.hypotheses (hypotheses_of lines l e) both.0) (covered_but_all l.hypotheses (hypotheses_of lines l d) k both.1)
inherits lines l (conversion d) h = covered_all l.hypotheses (hypotheses_of lines l d) h
inherits lines l (assignments ds) h = each_covered l.hypotheses (hypotheses_of lines l) ds h
inherits lines l planned h = tt

inherited_covered : (lines : List DeductionLine) (l : DeductionLine) (w : Justification) → AllByRecursion (Contains l.hypotheses) (inherited lines l w) → covers_inherited lines l w ≡ true
inherited_covered lines l hypothesis h = refl
inherited_covered lines l (deduction d e) h = all_covered_but l.hypotheses (hypotheses_of lines l d) e h
inherited_covered lines l (universal_instance d t) h = all_covered l.hypotheses (hypotheses_of lines l d) h
inherited_covered lines l (generalization d a) h = all_covered l.hypotheses (hypotheses_of lines l d) h
inherited_covered lines l (existential d t) h = all_covered l.hypotheses (hypotheses_of lines l d) h
inherited_covered lines l (choice e k d a) h =
    let both = append_all l.hypotheses (hypotheses_of lines l e) (discharged k (hypotheses_of lines l d)) h in
    both_true (are_covered l.hypotheses (hypotheses_of lines l e)) (are_covered_but l.hypotheses (hypotheses_of lines l d) k) (all_covered l.hypotheses (hypotheses_of lines l e) both.0) (all_covered_but l.hypotheses (hypotheses_of lines l d) k both.1)
inherited_covered lines l (conversion d) h = all_covered l.hypotheses (hypotheses_of lines l d) h
inherited_covered lines l (assignments ds) h = covered_each l.hypotheses (hypotheses_of lines l) ds h
inherited_covered lines l planned h = refl

-- lines that are hypotheses
is_hypothesis_of : (w : Justification) → is_hypothesis w ≡ true → w ≡ hypothesis
is_hypothesis_of hypothesis h = refl
is_hypothesis_of (deduction d e) h = cc
is_hypothesis_of (universal_instance d t) h = cc
is_hypothesis_of (generalization d a) h = cc
is_hypothesis_of (existential d t) h = cc
is_hypothesis_of (choice e k d a) h = cc
is_hypothesis_of (conversion d) h = cc
is_hypothesis_of (assignments ds) h = cc
is_hypothesis_of planned h = cc

hypothesis_in : (lines : List DeductionLine) (l : DeductionLine) (n : ℕ) → is_hypothesis_number lines l n ≡ true → IsHypothesisLine lines l n
hypothesis_in lines l n h = go (line_with lines l n) refl h
  where
    go : (o : Option DeductionLine) → line_with lines l n ≡ o → is_hypothesis_in o ≡ true → IsHypothesisLine lines l n
    go None e h = cc
    go (Some m) e h = (m, e, is_hypothesis_of m.why h)

in_hypothesis : (lines : List DeductionLine) (l : DeductionLine) (n : ℕ) → IsHypothesisLine lines l n → is_hypothesis_number lines l n ≡ true
in_hypothesis lines l n h = ap is_hypothesis_in h.1 ∙ ap is_hypothesis h.2

all_hypotheses : (lines : List DeductionLine) (l : DeductionLine) (ns : List ℕ) → list_all (is_hypothesis_number lines l) ns ≡ true → AllByRecursion (IsHypothesisLine lines l) ns
all_hypotheses lines l [] h = tt
all_hypotheses lines l (n ∷ ns) h =
    let both = and_true (is_hypothesis_number lines l n) (list_all (is_hypothesis_number lines l) ns) h in
    (hypothesis_in lines l n both.0, all_hypotheses lines l ns both.1)

hypotheses_all : (lines : List DeductionLine) (l : DeductionLine) (ns : List ℕ) → AllByRecursion (IsHypothesisLine lines l) ns → list_all (is_hypothesis_number lines l) ns ≡ true
hypotheses_all lines l [] h = refl
hypotheses_all lines l (n ∷ ns) h =
    both_true (is_hypothesis_number lines l n) (list_all (is_hypothesis_number lines l) ns) (in_hypothesis lines l n h.0) (hypotheses_all lines l ns h.1)

-- a line's hypotheses are as its rule wants them, where the tests say so
pub rests : (lines : List DeductionLine) (l : DeductionLine) → (l.why ≡ hypothesis → l.hypotheses ≡ l.number ∷ [])
    → covers_inherited lines l l.why ≡ true → list_all (is_hypothesis_number lines l) l.hypotheses ≡ true → HasHypotheses lines l
rests lines l itself covers hypotheses = (
  itself,
  All-from_recursion (Contains l.hypotheses) (inherited lines l l.why) (inherits lines l l.why covers),
  All-from_recursion (IsHypothesisLine lines l) l.hypotheses (all_hypotheses lines l l.hypotheses hypotheses),
)

pub rests_covers : (lines : List DeductionLine) (l : DeductionLine) → HasHypotheses lines l → covers_inherited lines l l.why ≡ true
rests_covers lines l h = inherited_covered lines l l.why (recursion_from_All (Contains l.hypotheses) (inherited lines l l.why) h.1)

pub rests_hypotheses : (lines : List DeductionLine) (l : DeductionLine) → HasHypotheses lines l → list_all (is_hypothesis_number lines l) l.hypotheses ≡ true
rests_hypotheses lines l h = hypotheses_all lines l l.hypotheses (recursion_from_All (IsHypothesisLine lines l) l.hypotheses h.2)
