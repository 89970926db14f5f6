-- Lines with one put in or justified, and with that taken back.
use Rattle.std.proofs.Common.{◌≡◌, ◌≢◌, ◌∙◌, ℕ, ◌<◌, ◌==◌, nat_lt, List, [], ◌∷◌, Bool, true, false, not, cond, ◌||◌, ◌⊎◌, inl, inr, refl, sym, ap, ap₂, subst, arith}
use Rattle.std.specs.Prelude.{Option, Some, None, IsSome, if◌then◌else◌}
use Rattle.std.specs.List.{AllByRecursion}
use Rattle.std.specs.List.Sorted.{IsStrictlyIncreasing}
use Rattle.std.proofs.lemmas.Bool.Decides.{eqb_tells}
use Rattle.std.proofs.lemmas.Bool.{eq-eqb}
use Rattle.nd_rules.specs.Lines.{Justification, hypothesis, deduction, universal_instance, generalization, existential, choice, conversion, assignments, planned, DeductionLine, line_of, numbers_of}
use Rattle.nd_rules.specs.Outlines.{IsOutline, with_line, with_why, without_line}
use Rattle.nd_rules.proofs.Edits.{Rises, rises}
use Rattle.etps_session.specs.Answers.{is_number_taken, is_planned, is_taken, judged_line, line_at}
use Rattle.etps_session.specs.Commands.{Request, number_of, why_of}
use Rattle.etps_session.specs.Replays.{put_at, taken}
use Rattle.etps_session.specs.Tables.{table_line}
use Rattle.etps_session.specs.Traces.{change_of, taken_back}

test_same : (m n : ℕ) → m ≡ n → (m == n) ≡ true
test_same m n e = eq-eqb m n e

test_other : (m n : ℕ) → m ≢ n → (m == n) ≡ false
test_other m n differ = elim (eqb_tells m n) [ inl same ↦ absurd (differ same.1) | inr other ↦ other.0 ]

-- a line that is found has the number
pub found_number : (lines : List DeductionLine) (n : ℕ) (m : DeductionLine) → line_of lines n ≡ Some m → m.number ≡ n
found_number [] n m e = cc
found_number (x ∷ xs) n m e = go (found_number xs n m) (eqb_tells x.number n)
  where
    go : (line_of xs n ≡ Some m → m.number ≡ n) → ((x.number == n) ≡ true) × (x.number ≡ n) ⊎ ((x.number == n) ≡ false) × (x.number ≢ n) → m.number ≡ n
    go rest (inl here) = let same : Some x ≡ Some m = sym (ap (λ (b : Bool). cond b (Some x) (line_of xs n)) here.0) ∙ e in let eq : x ≡ m = cc in sym (ap (λ (l : DeductionLine). l.number) eq) ∙ here.1
    go rest (inr other) = rest (sym (ap (λ (b : Bool). cond b (Some x) (line_of xs n)) other.0) ∙ e)

-- the line that isn't there is after the first one neither, which has another number
absent_later : (x : DeductionLine) (xs : List DeductionLine) (n : ℕ) → line_of (x ∷ xs) n ≡ None → ((x.number == n) ≡ false) × (line_of xs n ≡ None)
absent_later x xs n e = go (x.number == n) refl
  where
    go : (b : Bool) → (x.number == n) ≡ b → ((x.number == n) ≡ false) × (line_of xs n ≡ None)
    go true f = absurd (let found : Some x ≡ None = sym (ap (λ (b : Bool). cond b (Some x) (line_of xs n)) f) ∙ e in cc)
    go false f = (f, sym (ap (λ (b : Bool). cond b (Some x) (line_of xs n)) f) ∙ e)

without_absent : (xs : List DeductionLine) (n : ℕ) → line_of xs n ≡ None → without_line xs n ≡ xs
without_absent [] n e = refl
without_absent (x ∷ xs) n e =
    let rest = absent_later x xs n e in
    ap (λ (b : Bool). cond (not b) (x ∷ without_line xs n) (without_line xs n)) rest.0 ∙ ap (λ ys. x ∷ ys) (without_absent xs n rest.1)

-- a line that was put in is taken out
without_put : (xs : List DeductionLine) (l : DeductionLine) → line_of xs l.number ≡ None → without_line (with_line xs l) l.number ≡ xs
without_put [] l e = ap (λ (b : Bool). cond (not b) (l ∷ []) []) (test_same l.number l.number refl)
without_put (x ∷ xs) l e = go (nat_lt x.number l.number) (without_put xs l rest.1)
  where
    rest : ((x.number == l.number) ≡ false) × (line_of xs l.number ≡ None)
    rest = absent_later x xs l.number e

    go : (b : Bool) → without_line (with_line xs l) l.number ≡ xs → without_line (if b then x ∷ with_line xs l else l ∷ x ∷ xs) l.number ≡ x ∷ xs
    go true h = ap (λ (b : Bool). cond (not b) (x ∷ without_line (with_line xs l) l.number) (without_line (with_line xs l) l.number)) rest.0 ∙ ap (λ ys. x ∷ ys) h
    go false h = ap (λ (b : Bool). cond (not b) (l ∷ without_line (x ∷ xs) l.number) (without_line (x ∷ xs) l.number)) (test_same l.number l.number refl) ∙ without_absent (x ∷ xs) l.number e

-- it is the line of its number
pub found_put : (xs : List DeductionLine) (l : DeductionLine) → line_of xs l.number ≡ None → line_of (with_line xs l) l.number ≡ Some l
found_put [] l e = ap (λ (b : Bool). cond b (Some l) None) (test_same l.number l.number refl)
found_put (x ∷ xs) l e = go (nat_lt x.number l.number) (found_put xs l rest.1)
  where
    rest : ((x.number == l.number) ≡ false) × (line_of xs l.number ≡ None)
    rest = absent_later x xs l.number e

    go : (b : Bool) → line_of (with_line xs l) l.number ≡ Some l → line_of (if b then x ∷ with_line xs l else l ∷ x ∷ xs) l.number ≡ Some l
    go true h = ap (λ (b : Bool). cond b (Some x) (line_of (with_line xs l) l.number)) rest.0 ∙ h
    go false h = ap (λ (b : Bool). cond b (Some l) (line_of (x ∷ xs) l.number)) (test_same l.number l.number refl)

-- justifications

untouched : (xs : List DeductionLine) (n : ℕ) (w : Justification) → AllByRecursion (λ m. n < m) (numbers_of xs) → with_why xs n w ≡ xs
untouched [] n w h = refl
untouched (x ∷ xs) n w h =
    let less : n < x.number = h.0 in
    ap₂ (λ (b : Bool) (ys : List DeductionLine). (if b then record x { why = w } else x) ∷ ys) (test_other x.number n (λ same. omega arith)) (untouched xs n w h.1)

-- a planned line that was justified is planned again
replanned : (xs : List DeductionLine) (n : ℕ) (w : Justification) → Rises (numbers_of xs) → ((m : DeductionLine) → line_of xs n ≡ Some m → m.why ≡ planned) → with_why (with_why xs n w) n planned ≡ xs
replanned [] n w h p = refl
replanned (x ∷ xs) n w h p = go (replanned xs n w h.1) (eqb_tells x.number n)
  where
    twice : (a : Bool) → (x.number == n) ≡ a → with_why (with_why (x ∷ xs) n w) n planned ≡ (if a then record x { why = planned } else x) ∷ with_why (with_why xs n w) n planned
    twice true e =
        ap (λ (b : Bool). with_why ((if b then record x { why = w } else x) ∷ with_why xs n w) n planned) e
        ∙ ap (λ (b : Bool). (if b then record x { why = planned } else record x { why = w }) ∷ with_why (with_why xs n w) n planned) e
    twice false e =
        ap (λ (b : Bool). with_why ((if b then record x { why = w } else x) ∷ with_why xs n w) n planned) e
        ∙ ap (λ (b : Bool). (if b then record x { why = planned } else x) ∷ with_why (with_why xs n w) n planned) e

    go : (((m : DeductionLine) → line_of xs n ≡ Some m → m.why ≡ planned) → with_why (with_why xs n w) n planned ≡ xs)
        → ((x.number == n) ≡ true) × (x.number ≡ n) ⊎ ((x.number == n) ≡ false) × (x.number ≢ n) → with_why (with_why (x ∷ xs) n w) n planned ≡ x ∷ xs
    go rest (inl here) =
        let why : x.why ≡ planned = p x (ap (λ (b : Bool). cond b (Some x) (line_of xs n)) here.0) in
        let later : AllByRecursion (λ m. n < m) (numbers_of xs) = subst (λ (k : ℕ). AllByRecursion (λ m. k < m) (numbers_of xs)) here.1 h.0 in
        twice true here.0
        ∙ ap₂ (λ (v : Justification) (ys : List DeductionLine). record x { why = v } ∷ ys) (sym why) (ap (λ ys. with_why ys n planned) (untouched xs n w later) ∙ untouched xs n planned later)
    go rest (inr other) =
        twice false other.0
        ∙ ap (λ ys. x ∷ ys) (rest (λ m e. p m (ap (λ (b : Bool). cond b (Some x) (line_of xs n)) other.0 ∙ e)))

pub found_reason : (xs : List DeductionLine) (n : ℕ) (w : Justification) (m : DeductionLine) → line_of xs n ≡ Some m → line_of (with_why xs n w) n ≡ Some (record m { why = w })
found_reason [] n w m e = cc
found_reason (x ∷ xs) n w m e = go (found_reason xs n w m) (x.number == n) refl
  where
    go : (line_of xs n ≡ Some m → line_of (with_why xs n w) n ≡ Some (record m { why = w })) → (b : Bool) → (x.number == n) ≡ b → line_of (with_why (x ∷ xs) n w) n ≡ Some (record m { why = w })
    go rest true f =
        let found : Some x ≡ Some m = sym (ap (λ (b : Bool). cond b (Some x) (line_of xs n)) f) ∙ e in
        let same : x ≡ m = cc in
        ap (λ (b : Bool). line_of ((if b then record x { why = w } else x) ∷ with_why xs n w) n) f
        ∙ ap (λ (b : Bool). cond b (Some (record x { why = w })) (line_of (with_why xs n w) n)) f
        ∙ ap (λ (l : DeductionLine). Some (record l { why = w })) same
    go rest false f =
        ap (λ (b : Bool). line_of ((if b then record x { why = w } else x) ∷ with_why xs n w) n) f
        ∙ ap (λ (b : Bool). cond b (Some x) (line_of (with_why xs n w) n)) f
        ∙ rest (sym (ap (λ (b : Bool). cond b (Some x) (line_of xs n)) f) ∙ e)

-- a planned justification
only_planned : (w : Justification) → is_planned w ≡ true → w ≡ planned
only_planned planned h = refl
only_planned hypothesis h = cc
only_planned (deduction d k) h = cc
only_planned (universal_instance d t) h = cc
only_planned (generalization d a) h = cc
only_planned (existential d t) h = cc
only_planned (choice k e d a) h = cc
only_planned (conversion d) h = cc
only_planned (assignments ds) h = cc

free_planned : (v w : Justification) → (is_planned w || not (is_planned v)) ≡ false → v ≡ planned
free_planned v w h = only_planned v (go (is_planned w) (is_planned v) h)
  where
    go : (a b : Bool) → (a || not b) ≡ false → b ≡ true
    go true b h = cc
    go false true h = refl
    go false false h = cc

-- the line of a free number is planned
pub free_is_planned : (lines : List DeductionLine) (r : Request) (m : DeductionLine) → is_number_taken lines r ≡ false → line_of lines (number_of r) ≡ Some m → m.why ≡ planned
free_is_planned lines r m free e = free_planned m.why (why_of r) (sym (ap (λ (o : Option DeductionLine). is_taken o (why_of r)) e) ∙ free)

numbers-with_why : (xs : List DeductionLine) (n : ℕ) (w : Justification) → numbers_of (with_why xs n w) ≡ numbers_of xs
numbers-with_why [] n w = refl
numbers-with_why (x ∷ xs) n w = go (x.number == n) (numbers-with_why xs n w)
  where
    go : (b : Bool) → numbers_of (with_why xs n w) ≡ numbers_of xs → numbers_of ((if b then record x { why = w } else x) ∷ with_why xs n w) ≡ numbers_of (x ∷ xs)
    go true rest = ap (λ ns. x.number ∷ ns) rest
    go false rest = ap (λ ns. x.number ∷ ns) rest

-- a request that was taken can be taken back
pub taken_then_back : (lines : List DeductionLine) (r : Request) → IsOutline (taken lines r) → is_number_taken lines r ≡ false
    → taken_back (change_of (line_of lines (number_of r))) (taken lines r) (number_of r) ≡ lines
taken_then_back lines r outline free = go (line_of lines (number_of r)) refl outline
  where
    go : (o : Option DeductionLine) → line_of lines (number_of r) ≡ o → IsOutline (put_at o lines (table_line lines r)) → taken_back (change_of o) (put_at o lines (table_line lines r)) (number_of r) ≡ lines
    go None e h = without_put lines (table_line lines r) e
    go (Some m) e h =
        replanned lines (number_of r) (why_of r) (rises (numbers_of lines) (subst IsStrictlyIncreasing (numbers-with_why lines (number_of r) (why_of r)) h.rising))
        (λ k f. free_is_planned lines r k free f)

is_some_of : (o : Option DeductionLine) (m : DeductionLine) → o ≡ Some m → IsSome o
is_some_of o m e = subst (λ (p : Option DeductionLine). IsSome p) (sym e) refl

pub taken_there : (lines : List DeductionLine) (r : Request) → IsSome (line_of (taken lines r) (number_of r))
taken_there lines r = go (line_of lines (number_of r)) refl
  where
    go : (o : Option DeductionLine) → line_of lines (number_of r) ≡ o → IsSome (line_of (put_at o lines (table_line lines r)) (number_of r))
    go None e = is_some_of (line_of (with_line lines (table_line lines r)) (number_of r)) (table_line lines r) (found_put lines (table_line lines r) e)
    go (Some m) e = is_some_of (line_of (with_why lines (number_of r) (why_of r)) (number_of r)) (record m { why = why_of r }) (found_reason lines (number_of r) (why_of r) m e)

-- the judged line has the number and the justification of the request
pub judged_number : (lines : List DeductionLine) (r : Request) → (judged_line lines r).number ≡ number_of r
judged_number lines r = go (line_of lines (number_of r)) refl
  where
    go : (o : Option DeductionLine) → line_of lines (number_of r) ≡ o → (line_at o (table_line lines r)).number ≡ number_of r
    go None e = refl
    go (Some m) e = found_number lines (number_of r) m e

pub judged_why : (lines : List DeductionLine) (r : Request) → (judged_line lines r).why ≡ why_of r
judged_why lines r = go (line_of lines (number_of r))
  where
    go : (o : Option DeductionLine) → (line_at o (table_line lines r)).why ≡ why_of r
    go None = refl
    go (Some m) = refl

-- putting it in is taking the request
pub judged_put : (lines : List DeductionLine) (r : Request) (l : DeductionLine) → l ≡ judged_line lines r → put_at (line_of lines l.number) lines l ≡ taken lines r
judged_put lines r l e =
    subst (λ (k : DeductionLine). put_at (line_of lines k.number) lines k ≡ taken lines r) (sym e)
    (ap (λ (n : ℕ). put_at (line_of lines n) lines (judged_line lines r)) (judged_number lines r) ∙ go (line_of lines (number_of r)) refl)
  where
    go : (o : Option DeductionLine) → line_of lines (number_of r) ≡ o → put_at o lines (line_at o (table_line lines r)) ≡ put_at o lines (table_line lines r)
    go None f = refl
    go (Some m) f = ap (λ (n : ℕ). with_why lines n (why_of r)) (found_number lines (number_of r) m f)
