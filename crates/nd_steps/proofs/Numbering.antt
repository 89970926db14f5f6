-- Lines with the numbers 1, 2, 3, ..: which line has a number, and lines that are added at the end.
use Rattle.std.proofs.Common.{◌≡◌, ℕ, ◌+◌, ◌==◌, ◌<◌, ◌≤◌, List, [], ◌∷◌, ◌++◌, length, Bool, true, false, cond, Some, None, refl, sym, ◌∙◌, ap, subst, arith, inl, inr}
use Rattle.std.specs.Prelude.{All, nat_lt, if◌then◌else◌}
use Rattle.std.specs.List.{AllByRecursion}
use Rattle.std.proofs.lemmas.Bool.{lt-ltb}
use Rattle.std.proofs.lemmas.Bool.Decides.{eqb_tells}
use Rattle.std.proofs.lemmas.List.Elements.{recursion_from_All}
use Rattle.nd_rules.specs.Lines.{DeductionLine, line_of}
use Rattle.nd_rules.specs.Outlines.{with_line}
use Rattle.nd_steps.specs.Deductions.{IsNumberedFrom}

-- a line that is found is found among more
pub found_stays : (lines more : List DeductionLine) (n : ℕ) (m : DeductionLine) → line_of lines n ≡ Some m → line_of (lines ++ more) n ≡ Some m
found_stays [] more n m e = cc
found_stays (x ∷ xs) more n m e = go (x.number == n) e (found_stays xs more n m)
  where
    go : (b : Bool) → cond b (Some x) (line_of xs n) ≡ Some m → (line_of xs n ≡ Some m → line_of (xs ++ more) n ≡ Some m) → cond b (Some x) (line_of (xs ++ more) n) ≡ Some m
    go true h rest = h
    go false h rest = rest h

-- and where none is, more lines are searched
pub none_stays : (lines more : List DeductionLine) (n : ℕ) → line_of lines n ≡ None → line_of (lines ++ more) n ≡ line_of more n
none_stays [] more n e = refl
none_stays (x ∷ xs) more n e = go (x.number == n) e (none_stays xs more n)
  where
    go : (b : Bool) → cond b (Some x) (line_of xs n) ≡ None → (line_of xs n ≡ None → line_of (xs ++ more) n ≡ line_of more n) → cond b (Some x) (line_of (xs ++ more) n) ≡ line_of more n
    go true h rest = cc
    go false h rest = rest h

-- what holds of all lines holds of one that is found
pub found_in : (P : DeductionLine → Type 0) (lines : List DeductionLine) (n : ℕ) (m : DeductionLine) → All P lines → line_of lines n ≡ Some m → P m
found_in P lines n m all e = walk lines (recursion_from_All P lines all) e
  where
    walk : (xs : List DeductionLine) → AllByRecursion P xs → line_of xs n ≡ Some m → P m
    walk [] h e = cc
    walk (x ∷ xs) h e = go (x.number == n) e (walk xs h.1)
      where
        go : (b : Bool) → cond b (Some x) (line_of xs n) ≡ Some m → (line_of xs n ≡ Some m → P m) → P m
        go true same rest = let here : x ≡ m = cc in subst P here h.0
        go false other rest = rest other

-- it has that number
pub found_number : (lines : List DeductionLine) (n : ℕ) (m : DeductionLine) → line_of lines n ≡ Some m → m.number ≡ n
found_number [] n m e = cc
found_number (x ∷ xs) n m e = elim (eqb_tells x.number n) [
  | inl same ↦
      let found : Some x ≡ Some m = sym (ap (λ b. cond b (Some x) (line_of xs n)) same.0) ∙ e in
      let here : x ≡ m = cc in
      sym (ap (λ (l : DeductionLine). l.number) here) ∙ same.1
  | inr other ↦ found_number xs n m (sym (ap (λ b. cond b (Some x) (line_of xs n)) other.0) ∙ e)
]

-- a number that is there is within the lines
pub numbered_within : (k : ℕ) (lines : List DeductionLine) (n : ℕ) (m : DeductionLine) → IsNumberedFrom k lines → line_of lines n ≡ Some m → n < k + length lines
numbered_within k [] n m h e = cc
numbered_within k (x ∷ xs) n m h e = elim (eqb_tells x.number n) [
  | inl same ↦ omega (arith, same.1, h.0)
  | inr other ↦
      let rest : n < k + 1 + length xs = numbered_within (k + 1) xs n m h.1 (sym (ap (λ b. cond b (Some x) (line_of xs n)) other.0) ∙ e) in
      omega (arith, rest)
]

pub numbered_absent : (k : ℕ) (lines : List DeductionLine) (n : ℕ) → IsNumberedFrom k lines → k + length lines ≤ n → line_of lines n ≡ None
numbered_absent k [] n h le = refl
numbered_absent k (x ∷ xs) n h le = elim (eqb_tells x.number n) [
  | inl same ↦ absurd (omega (arith, same.1, h.0, le))
  | inr other ↦ ap (λ b. cond b (Some x) (line_of xs n)) other.0 ∙ numbered_absent (k + 1) xs n h.1 (omega (arith, le))
]

-- the line that is added
pub line_alone : (l : DeductionLine) (n : ℕ) → l.number ≡ n → line_of (l ∷ []) n ≡ Some l
line_alone l n e = elim (eqb_tells l.number n) [ inl same ↦ ap (λ b. cond b (Some l) None) same.0 | inr other ↦ absurd (other.1 e) ]

pub found_last : (k : ℕ) (lines : List DeductionLine) (l : DeductionLine) (n : ℕ) → IsNumberedFrom k lines → l.number ≡ n → n ≡ k + length lines → line_of (lines ++ l ∷ []) n ≡ Some l
found_last k lines l n h e last = none_stays lines (l ∷ []) n (numbered_absent k lines n h (omega (arith, last))) ∙ line_alone l n e

pub numbered_with : (k : ℕ) (lines : List DeductionLine) (l : DeductionLine) → IsNumberedFrom k lines → l.number ≡ k + length lines → IsNumberedFrom k (lines ++ l ∷ [])
numbered_with k [] l h e = (omega (arith, e), tt)
numbered_with k (x ∷ xs) l h e = (h.0, numbered_with (k + 1) xs l h.1 (omega (arith, e)))

-- it goes after all others
pub with_line_last : (k : ℕ) (lines : List DeductionLine) (l : DeductionLine) → IsNumberedFrom k lines → l.number ≡ k + length lines → with_line lines l ≡ lines ++ l ∷ []
with_line_last k [] l h e = refl
with_line_last k (x ∷ xs) l h e =
    let less : x.number < l.number = omega (arith, e, h.0) in
    let test : nat_lt x.number l.number ≡ true = lt-ltb x.number l.number less in
    ap (λ b. if b then (x ∷ with_line xs l) else (l ∷ x ∷ xs)) test ∙ ap (λ ys. x ∷ ys) (with_line_last (k + 1) xs l h.1 (omega (arith, e)))

pub numbered_each : (k : ℕ) (lines : List DeductionLine) → IsNumberedFrom k lines → AllByRecursion (λ (l : DeductionLine). l.number < k + length lines) lines
numbered_each k [] h = tt
numbered_each k (x ∷ xs) h = (omega (arith, h.0), later (k + 1 + length xs) (k + length (x ∷ xs)) (omega arith) xs (numbered_each (k + 1) xs h.1))
  where
    later : (m n : ℕ) → m ≡ n → (ys : List DeductionLine) → AllByRecursion (λ (l : DeductionLine). l.number < m) ys → AllByRecursion (λ (l : DeductionLine). l.number < n) ys
    later m n e ys h = let P : ℕ → Type 0 = λ (j : ℕ). AllByRecursion (λ (l : DeductionLine). l.number < j) ys in subst P e h
