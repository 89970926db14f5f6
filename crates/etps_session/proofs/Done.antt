-- The lines up to the goal's, where none is planned, are a derivation.
use Rattle.std.proofs.Common.{◌≡◌, ◌≢◌, ◌∙◌, ℕ, ◌<◌, ◌≤◌, ◌==◌, nat_lt, List, [], ◌∷◌, ◌++◌, Bool, true, false, cond, ◌⊎◌, inl, inr, refl, sym, ap, subst, arith}
use Rattle.std.specs.Prelude.{Option, Some, None, is_some, filter, find, nat_le}
use Rattle.std.specs.List.{AllByRecursion}
use Rattle.std.specs.Option.{option_map}
use Rattle.std.proofs.lemmas.Bool.Decides.{eqb_tells, nat_tests}
use Rattle.std.proofs.lemmas.Bool.{eq-eqb}
use Rattle.std.proofs.lemmas.List.Elements.{All-filter, All-from_recursion}
use Rattle.hol_terms.proofs.IndexLaws.{trichotomy}
use Rattle.nd_rules.specs.Lines.{DeductionLine, line_of, numbers_of, planned}
use Rattle.nd_rules.specs.Laws.{SayTheSame}
use Rattle.nd_rules.specs.Outlines.{IsDerivation, IsOutline, IsWellFormed}
use Rattle.nd_rules.specs.Rules.{IsJustified}
use Rattle.nd_rules.proofs.Edits.{Rises, rises, rising}
use Rattle.nd_rules.proofs.Staying.{alike, stays}
use Rattle.etps_session.specs.Answers.{is_planned}
use Rattle.etps_session.specs.Progress.{first_planned_in, lines_upto}
use Rattle.etps_session.specs.Replays.{Goal, SessionState, replay}
use Rattle.etps_session.specs.Traces.{IsSession, Trace, requests_of}
use Rattle.etps_session.proofs.Sound.{IsHeld, IsKept, session_kept}

-- the lines with smaller numbers
abbrev lines_before : List DeductionLine → ℕ → List DeductionLine
lines_before lines n = filter (λ (l : DeductionLine). nat_lt l.number n) lines

le_test : (m n : ℕ) → m ≤ n → nat_le m n ≡ true
le_test m n h = grind (arith, nat_tests)

more_test : (m n : ℕ) → n < m → nat_le m n ≡ false
more_test m n h = grind (arith, nat_tests)

lt_test : (m n : ℕ) → m < n → nat_lt m n ≡ true
lt_test m n h = grind (arith, nat_tests)

ge_test : (m n : ℕ) → n ≤ m → nat_lt m n ≡ false
ge_test m n h = grind (arith, nat_tests)

-- beyond a number there is none
upto_none : (xs : List DeductionLine) (n : ℕ) → AllByRecursion (λ m. n < m) (numbers_of xs) → lines_upto xs n ≡ []
upto_none [] n h = refl
upto_none (x ∷ xs) n h = ap (λ (b : Bool). cond b (x ∷ lines_upto xs n) (lines_upto xs n)) (more_test x.number n h.0) ∙ upto_none xs n h.1

before_none : (xs : List DeductionLine) (n : ℕ) → AllByRecursion (λ m. n < m) (numbers_of xs) → lines_before xs n ≡ []
before_none [] n h = refl
before_none (x ∷ xs) n h =
    let more : n < x.number = h.0 in
    ap (λ (b : Bool). cond b (x ∷ lines_before xs n) (lines_before xs n)) (ge_test x.number n (omega arith)) ∙ before_none xs n h.1

absent_beyond : (xs : List DeductionLine) (n : ℕ) → AllByRecursion (λ m. n < m) (numbers_of xs) → line_of xs n ≡ None
absent_beyond [] n h = refl
absent_beyond (x ∷ xs) n h =
    let more : n < x.number = h.0 in
    let test : (x.number == n) ≡ false = grind (arith, nat_tests) in
    ap (λ (b : Bool). cond b (Some x) (line_of xs n)) test ∙ absent_beyond xs n h.1

further : (n m : ℕ) (ns : List ℕ) → n ≤ m → AllByRecursion (λ k. m < k) ns → AllByRecursion (λ k. n < k) ns
further n m [] lt all = tt
further n m (k ∷ ns) lt all = (let next : m < k = all.0 in omega arith, further n m ns lt all.1)

no_line : (o : Option DeductionLine) (m : DeductionLine) → o ≡ None → o ≡ Some m → ⊥
no_line o m e f = cc

-- the line of the number comes last
ends_in : (xs : List DeductionLine) (n : ℕ) (m : DeductionLine) → Rises (numbers_of xs) → line_of xs n ≡ Some m → lines_upto xs n ≡ lines_before xs n ++ m ∷ []
ends_in [] n m h e = cc
ends_in (x ∷ xs) n m h e = go (ends_in xs n m h.1) (trichotomy x.number n)
  where
    go : (line_of xs n ≡ Some m → lines_upto xs n ≡ lines_before xs n ++ m ∷ []) → (x.number < n) ⊎ ((x.number ≡ n) ⊎ (n < x.number)) → lines_upto (x ∷ xs) n ≡ lines_before (x ∷ xs) n ++ m ∷ []
    go rest (inl less) =
        let test : (x.number == n) ≡ false = grind (arith, nat_tests) in
        let found : line_of xs n ≡ Some m = sym (ap (λ (b : Bool). cond b (Some x) (line_of xs n)) test) ∙ e in
        ap (λ (b : Bool). cond b (x ∷ lines_upto xs n) (lines_upto xs n)) (le_test x.number n (omega arith))
        ∙ ap (λ ys. x ∷ ys) (rest found)
        ∙ sym (ap (λ (b : Bool). cond b (x ∷ lines_before xs n) (lines_before xs n) ++ m ∷ []) (lt_test x.number n less))
    go rest (inr (inl same)) =
        let found : Some x ≡ Some m = sym (ap (λ (b : Bool). cond b (Some x) (line_of xs n)) (eq-eqb x.number n same)) ∙ e in
        let here : x ≡ m = cc in
        let later : AllByRecursion (λ k. n < k) (numbers_of xs) = further n x.number (numbers_of xs) (omega arith) h.0 in
        ap (λ (b : Bool). cond b (x ∷ lines_upto xs n) (lines_upto xs n)) (le_test x.number n (omega arith))
        ∙ ap (λ ys. x ∷ ys) (upto_none xs n later)
        ∙ ap (λ l. l ∷ []) here
        ∙ sym (ap (λ (b : Bool). cond b (x ∷ lines_before xs n) (lines_before xs n) ++ m ∷ []) (ge_test x.number n (omega arith)) ∙ ap (λ ys. ys ++ m ∷ []) (before_none xs n later))
    go rest (inr (inr more)) =
        absurd (no_line (line_of (x ∷ xs) n) m (absent_beyond (x ∷ xs) n (more, further n x.number (numbers_of xs) (omega arith) h.0)) e)

-- up to the number a line is found as it was
same_upto : (xs : List DeductionLine) (n k : ℕ) → k ≤ n → line_of (lines_upto xs n) k ≡ line_of xs k
same_upto [] n k h = refl
same_upto (x ∷ xs) n k h = go (same_upto xs n k h) (eqb_tells x.number k) (nat_le x.number n) refl
  where
    go : line_of (lines_upto xs n) k ≡ line_of xs k → ((x.number == k) ≡ true) × (x.number ≡ k) ⊎ ((x.number == k) ≡ false) × (x.number ≢ k) → (b : Bool) → nat_le x.number n ≡ b
        → line_of (cond b (x ∷ lines_upto xs n) (lines_upto xs n)) k ≡ line_of (x ∷ xs) k
    go rest t true e = ap (λ o. cond (x.number == k) (Some x) o) rest
    go rest (inl here) false e = let same : x.number ≡ k = here.1 in absurd (let other : nat_le x.number n ≡ true = le_test x.number n (omega arith) in cc)
    go rest (inr other) false e = rest ∙ sym (ap (λ (b : Bool). cond b (Some x) (line_of xs k)) other.0)

-- each line of rising ones is the one of its number
abbrev IsFoundIn : List DeductionLine → DeductionLine → Type 0
IsFoundIn lines l = line_of lines l.number ≡ Some l

found_later : (x : DeductionLine) (xs ys : List DeductionLine) → AllByRecursion (λ m. x.number < m) (numbers_of ys) → AllByRecursion (IsFoundIn xs) ys → AllByRecursion (IsFoundIn (x ∷ xs)) ys
found_later x xs [] h f = tt
found_later x xs (y ∷ ys) h f =
    let less : x.number < y.number = h.0 in
    let test : (x.number == y.number) ≡ false = grind (arith, nat_tests) in
    (ap (λ (b : Bool). cond b (Some x) (line_of xs y.number)) test ∙ f.0, found_later x xs ys h.1 f.1)

each_found : (xs : List DeductionLine) → Rises (numbers_of xs) → AllByRecursion (IsFoundIn xs) xs
each_found [] h = tt
each_found (x ∷ xs) h = (ap (λ (b : Bool). cond b (Some x) (line_of xs x.number)) (eq-eqb x.number x.number refl), found_later x xs xs h.0 (each_found xs h.1))

-- what holds of the lines up to a number

each_upto : (P Q : DeductionLine → Type 0) (xs : List DeductionLine) (n : ℕ) → AllByRecursion P xs → ((l : DeductionLine) → l.number ≤ n → P l → Q l) → AllByRecursion Q (lines_upto xs n)
each_upto P Q [] n h f = tt
each_upto P Q (x ∷ xs) n h f = go (nat_le x.number n) refl (each_upto P Q xs n h.1 f)
  where
    go : (b : Bool) → nat_le x.number n ≡ b → AllByRecursion Q (lines_upto xs n) → AllByRecursion Q (cond b (x ∷ lines_upto xs n) (lines_upto xs n))
    go true e rest = (f x (grind (arith, nat_tests)) h.0, rest)
    go false e rest = rest

numbers_upto : (P : ℕ → Type 0) (xs : List DeductionLine) (n : ℕ) → AllByRecursion P (numbers_of xs) → AllByRecursion P (numbers_of (lines_upto xs n))
numbers_upto P [] n h = tt
numbers_upto P (x ∷ xs) n h = go (nat_le x.number n) (numbers_upto P xs n h.1)
  where
    go : (b : Bool) → AllByRecursion P (numbers_of (lines_upto xs n)) → AllByRecursion P (numbers_of (cond b (x ∷ lines_upto xs n) (lines_upto xs n)))
    go true rest = (h.0, rest)
    go false rest = rest

rises_upto : (xs : List DeductionLine) (n : ℕ) → Rises (numbers_of xs) → Rises (numbers_of (lines_upto xs n))
rises_upto [] n h = tt
rises_upto (x ∷ xs) n h = go (nat_le x.number n) (rises_upto xs n h.1)
  where
    go : (b : Bool) → Rises (numbers_of (lines_upto xs n)) → Rises (numbers_of (cond b (x ∷ lines_upto xs n) (lines_upto xs n)))
    go true rest = (numbers_upto (λ m. x.number < m) xs n h.0, rest)
    go false rest = rest

outline_upto : (xs : List DeductionLine) (n : ℕ) → IsOutline xs → IsOutline (lines_upto xs n)
outline_upto xs n h = record {
  rising = rising (numbers_of (lines_upto xs n)) (rises_upto xs n (rises (numbers_of xs) h.rising));
  formed = All-filter (λ (l : DeductionLine). nat_le l.number n) IsWellFormed xs h.formed;
}

-- where no planned line is found, none is planned
none_planned : (xs : List DeductionLine) → first_planned_in xs ≡ None → AllByRecursion (λ (l : DeductionLine). is_planned l.why ≡ false) xs
none_planned [] e = tt
none_planned (x ∷ xs) e = go (none_planned xs) (is_planned x.why) refl e
  where
    go : (first_planned_in xs ≡ None → AllByRecursion (λ (l : DeductionLine). is_planned l.why ≡ false) xs) → (b : Bool) → is_planned x.why ≡ b
        → option_map (λ (l : DeductionLine). l.number) (cond b (Some x) (find (λ (l : DeductionLine). is_planned l.why) xs)) ≡ None
        → (is_planned x.why ≡ false) × AllByRecursion (λ (l : DeductionLine). is_planned l.why ≡ false) xs
    go rest true f found = cc
    go rest false f found = (f, rest found)

not_planned : (l : DeductionLine) → is_planned l.why ≡ false → l.why ≢ planned
not_planned l e f = let other : is_planned l.why ≡ true = ap is_planned f in cc

zip_each : (P Q R : DeductionLine → Type 0) (xs : List DeductionLine) → ((l : DeductionLine) → P l → Q l → R l) → AllByRecursion P xs → AllByRecursion Q xs → AllByRecursion R xs
zip_each P Q R [] f p q = tt
zip_each P Q R (x ∷ xs) f p q = (f x p.0 q.0, zip_each P Q R xs f p.1 q.1)

still_justified : (xs : List DeductionLine) (n : ℕ) (l : DeductionLine) → l.number ≤ n → IsJustified xs l → IsJustified (lines_upto xs n) l
still_justified xs n l h j =
    stays xs (lines_upto xs n) l
    (λ k small. let P : Option DeductionLine → Type 0 = λ o. SayTheSame (line_of xs k) o in subst P (sym (same_upto xs n k (omega arith))) (alike (line_of xs k))) j

-- the lines up to the goal's
pub done_derivation : (g : Goal) (steps : List Trace) (lines : List DeductionLine) → IsOutline lines → IsSession (Some g) steps lines → first_planned_in (lines_upto lines g.number) ≡ None
    → IsDerivation (lines_upto lines g.number) g.formula
done_derivation g steps lines outline session none = record {
  outline = outline_upto lines g.number outline;
  justified = All-from_recursion (IsJustified (lines_upto lines g.number)) (lines_upto lines g.number) justified;
  finished = All-from_recursion (λ (l : DeductionLine). l.why ≢ planned) (lines_upto lines g.number) (zip_each (λ l. is_planned l.why ≡ false) (λ l. is_planned l.why ≡ false) (λ l. l.why ≢ planned) (lines_upto lines g.number) (λ l p q. not_planned l p) unplanned unplanned);
  before = lines_before lines g.number;
  last = kept.line;
  ends = ends_in lines g.number kept.line risen kept.there;
  proves = kept.formula;
  closed = kept.hypotheses;
}
  where
    kept : IsKept g lines
    kept = session_kept g steps lines session

    risen : Rises (numbers_of lines)
    risen = rises (numbers_of lines) outline.rising

    unplanned : AllByRecursion (λ (l : DeductionLine). is_planned l.why ≡ false) (lines_upto lines g.number)
    unplanned = none_planned (lines_upto lines g.number) none

    justified_now : (l : DeductionLine) → l.number ≤ g.number → line_of lines l.number ≡ Some l → is_planned l.why ≡ false → IsHeld lines l → IsJustified (lines_upto lines g.number) l
    justified_now l h found p (inl plan) = absurd (not_planned l p plan)
    justified_now l h found p (inr j) = still_justified lines g.number l h j

    justified : AllByRecursion (IsJustified (lines_upto lines g.number)) (lines_upto lines g.number)
    justified =
        zip_each (λ l. (l.number ≤ g.number) × (line_of lines l.number ≡ Some l)) (λ l. is_planned l.why ≡ false) (IsJustified (lines_upto lines g.number)) (lines_upto lines g.number)
        (λ l p q. justified_now l p.0 p.1 q (kept.held l.number l p.1))
        (each_upto (IsFoundIn lines) (λ l. (l.number ≤ g.number) × (line_of lines l.number ≡ Some l)) lines g.number (each_found lines risen) (λ l h f. (h, f)))
        unplanned

one_goal : (o : Option Goal) (g k : Goal) → o ≡ Some k → o ≡ Some g → g ≡ k
one_goal o g k e f = cc

is_none_of : (p : Option ℕ) → is_some p ≡ false → p ≡ None
is_none_of None h = refl
is_none_of (Some n) h = cc

pub done_derives : (s : SessionState) (goal : Option Goal) (steps : List Trace) (lines : List DeductionLine) (k : Goal) (p : Option ℕ) → record { goal = goal; requests = requests_of steps } ≡ s → goal ≡ Some k
    → IsSession goal steps lines → IsOutline lines → p ≡ first_planned_in (lines_upto lines k.number) → is_some p ≡ false
    → (g : Goal) → s.goal ≡ Some g → IsDerivation (lines_upto (replay s) g.number) g.formula
done_derives s goal steps lines k p view started session outline found none g =
    subst (λ (t : SessionState). t.goal ≡ Some g → IsDerivation (lines_upto (replay t) g.number) g.formula) view
    (
    λ e.
    let same : g ≡ k = one_goal goal g k started e in
    let planned_none : first_planned_in (lines_upto lines g.number) ≡ None =
    ap (λ (j : Goal). first_planned_in (lines_upto lines j.number)) same ∙ sym found ∙ is_none_of p none in
    subst (λ (l : List DeductionLine). IsDerivation (lines_upto l g.number) g.formula) session.outline
    (done_derivation g steps lines outline (subst (λ (o : Option Goal). IsSession o steps lines) e session) planned_none)
    )
