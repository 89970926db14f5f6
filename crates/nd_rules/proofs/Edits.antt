-- Lists of lines with rising numbers, and what an edit at the place of a number does to them.
use Rattle.std.proofs.Common.{◌≡◌, ◌≢◌, ℕ, zero, suc, ◌+◌, ◌==◌, ◌<◌, ◌≤◌, List, [], ◌∷◌, ◌++◌, length, get_or, set, map, Bool, true, false, not, cond, Some, None, refl, sym, ◌∙◌, ap, ap₂, subst, arith, inl, inr}
use Rattle.std.specs.Prelude.{slice_get, slice_index, Option, nat_lt, if◌then◌else◌, take, drop, IsSome}
use Rattle.std.specs.List.{insert, remove, AllByRecursion}
use Rattle.std.specs.List.Sorted.{IsStrictlyIncreasing}
use Rattle.std.proofs.lemmas.List.Elements.{recursion_from_All, All-from_recursion, All-filter}
use Rattle.std.proofs.lemmas.Bool.Decides.{eqb_tells}
use Rattle.std.proofs.lemmas.Bool.{ltb-true, ltb-false, lt-ltb, le-ltb, eqb-true, eq-eqb}
use Rattle.nd_rules.specs.Lines.{Justification, planned, DeductionLine, line_of, numbers_of, plain_line, plain_why}
use Rattle.nd_rules.specs.Outlines.{IsOutline, IsWellFormed, HasTypedTerms, IsGapFor, with_line, without_line, with_why}
use Rattle.std.proofs.lemmas.List.{map-append, map-set, take-map, drop-map, length-map, get_or-map}
use Rattle.nd_rules.specs.declared.lines.Line.{Line}
use Rattle.nd_rules.specs.declared.lines.Why.{Why}
use Rattle.nd_rules.proofs.Searches.{later_greater}
use Rattle.nd_rules.proofs.Places.{index_at, found_line}

-- each number is below all later ones
abbrev pub Rises : List ℕ → Type 0
Rises [] = Unit {0}
Rises (n ∷ ns) = AllByRecursion (λ m. n < m) ns × Rises ns

all_later : (n : ℕ) (ns : List ℕ) → ((j : ℕ) → j < length ns → n < slice_index ns j) → AllByRecursion (λ m. n < m) ns
all_later n [] h = tt
all_later n (m ∷ ns) h = (h 0 (omega arith), all_later n ns (λ j lt. h (suc j) (omega arith)))

pub rises : (ns : List ℕ) → IsStrictlyIncreasing ns → Rises ns
rises [] h = tt
rises (n ∷ ns) h = (all_later n ns (λ j lt. later_greater (n ∷ ns) h 0 (suc j) (omega arith) (omega arith)), rises ns (λ k lt. let z : suc k + 1 ≡ suc (k + 1) = omega arith in subst (λ (m : ℕ). slice_index ns k < slice_index (n ∷ ns) m) z (h (suc k) (omega arith))))

pub rising : (ns : List ℕ) → Rises ns → IsStrictlyIncreasing ns
rising [] h k lt = absurd (omega arith)
rising (n ∷ []) h k lt = absurd (omega arith)
rising (n ∷ m ∷ ns) h zero lt = h.0.0
rising (n ∷ m ∷ ns) h (suc k) lt =
    let z : suc (k + 1) ≡ suc k + 1 = omega arith in subst (λ (j : ℕ). slice_index (m ∷ ns) k < slice_index (n ∷ m ∷ ns) j) z (rising (m ∷ ns) h.1 k (omega arith))

-- a line put at its place
pub inserted : (xs : List DeductionLine) (l : DeductionLine) (i : ℕ) → IsGapFor (numbers_of xs) l.number i → insert xs i l ≡ with_line xs l
inserted [] l zero gap = refl
inserted [] l (suc i) gap = absurd (omega (arith, gap.within))
inserted (x ∷ xs) l zero gap =
    let greater : l.number < x.number = gap.greater 0 (omega arith) (omega arith) in
    let test : nat_lt x.number l.number ≡ false = le-ltb x.number l.number (omega arith) in
    sym (ap (λ b. if b then (x ∷ with_line xs l) else (l ∷ x ∷ xs)) test)
inserted (x ∷ xs) l (suc i) gap =
    let smaller : x.number < l.number = gap.smaller 0 (omega arith) in
    let test : nat_lt x.number l.number ≡ true = lt-ltb x.number l.number smaller in
    let rest : IsGapFor (numbers_of xs) l.number i = record {
      within = omega (arith, gap.within);
      smaller = λ j lt. gap.smaller (suc j) (omega arith);
      greater = λ j le lt. gap.greater (suc j) (omega arith) (omega arith);
    } in
    ap (λ ys. x ∷ ys) (inserted xs l i rest) ∙ sym (ap (λ b. if b then (x ∷ with_line xs l) else (l ∷ x ∷ xs)) test)

-- keeps the numbers rising, where none of them is its own
all_with : (P : ℕ → Type 0) (xs : List DeductionLine) (l : DeductionLine) → AllByRecursion P (numbers_of xs) → P l.number → AllByRecursion P (numbers_of (with_line xs l))
all_with P [] l h p = (p, tt)
all_with P (x ∷ xs) l h p = go (nat_lt x.number l.number) (all_with P xs l h.1 p)
  where
    go : (b : Bool) → AllByRecursion P (numbers_of (with_line xs l)) → AllByRecursion P (numbers_of (if b then (x ∷ with_line xs l) else (l ∷ x ∷ xs)))
    go true rest = (h.0, rest)
    go false rest = (p, h)

pub rises_with : (xs : List DeductionLine) (l : DeductionLine) → Rises (numbers_of xs) → line_of xs l.number ≡ None → Rises (numbers_of (with_line xs l))
rises_with [] l h none = (tt, tt)
rises_with (x ∷ xs) l h none = go (nat_lt x.number l.number) refl (x.number == l.number) refl (λ e. rises_with xs l h.1 e)
  where
    beyond : (n m : ℕ) (ns : List ℕ) → n < m → AllByRecursion (λ k. m < k) ns → AllByRecursion (λ k. n < k) ns
    beyond n m [] lt all = tt
    beyond n m (k ∷ ns) lt all = (let next : m < k = all.0 in omega arith, beyond n m ns lt all.1)

    go : (b : Bool) → nat_lt x.number l.number ≡ b → (same : Bool) → (x.number == l.number) ≡ same → (line_of xs l.number ≡ None → Rises (numbers_of (with_line xs l))) → Rises (numbers_of (if b then (x ∷ with_line xs l) else (l ∷ x ∷ xs)))
    go true e true f rest = absurd (let lt : x.number < l.number = ltb-true x.number l.number e in let eq : x.number ≡ l.number = eqb-true x.number l.number f in omega arith)
    go true e false f rest =
        let lt : x.number < l.number = ltb-true x.number l.number e in
        let later : line_of xs l.number ≡ None = sym (ap (λ b. cond b (Some x) (line_of xs l.number)) f) ∙ none in
        (all_with (λ m. x.number < m) xs l h.0 lt, rest later)
    go false e true f rest = absurd (let found : Some x ≡ None = sym (ap (λ b. cond b (Some x) (line_of xs l.number)) f) ∙ none in cc)
    go false e false f rest =
        let le : l.number ≤ x.number = ltb-false x.number l.number e in
        let differ : x.number ≢ l.number = λ same. (let t : (x.number == l.number) ≡ true = eq-eqb x.number l.number same in cc) in
        let lt : l.number < x.number = omega arith in
        ((lt, beyond l.number x.number (numbers_of xs) lt h.0), h)

-- and all lines well-formed
pub formed_with : (xs : List DeductionLine) (l : DeductionLine) → AllByRecursion IsWellFormed xs → IsWellFormed l → AllByRecursion IsWellFormed (with_line xs l)
formed_with [] l h p = (p, tt)
formed_with (x ∷ xs) l h p = go (nat_lt x.number l.number) (formed_with xs l h.1 p)
  where
    go : (b : Bool) → AllByRecursion IsWellFormed (with_line xs l) → AllByRecursion IsWellFormed (if b then (x ∷ with_line xs l) else (l ∷ x ∷ xs))
    go true rest = (h.0, rest)
    go false rest = (p, h)

pub outline_with : (xs : List DeductionLine) (l : DeductionLine) → IsOutline xs → IsWellFormed l → line_of xs l.number ≡ None → IsOutline (with_line xs l)
outline_with xs l h p none = record {
  rising = rising (numbers_of (with_line xs l)) (rises_with xs l (rises (numbers_of xs) h.rising) none);
  formed = All-from_recursion IsWellFormed (with_line xs l) (formed_with xs l (recursion_from_All IsWellFormed xs h.formed) p);
}

-- a list of lines changed or cut at the place of a number: the numbers before it are other ones, and so are those after it

test_same : (m n : ℕ) → m ≡ n → (m == n) ≡ true
test_same m n e = eq-eqb m n e

test_other : (m n : ℕ) → m ≢ n → (m == n) ≡ false
test_other m n differ = elim (eqb_tells m n) [ inl same ↦ absurd (differ same.1) | inr other ↦ other.0 ]

-- none of greater numbers is the number
untouched : (xs : List DeductionLine) (n : ℕ) (why : Justification) → AllByRecursion (λ m. n < m) (numbers_of xs) → (with_why xs n why ≡ xs) × (without_line xs n ≡ xs)
untouched [] n why h = (refl, refl)
untouched (x ∷ xs) n why h =
    let rest = untouched xs n why h.1 in
    let lt : n < x.number = h.0 in
    let test : (x.number == n) ≡ false = test_other x.number n (λ same. omega arith) in (
      ap₂ (λ (b : Bool) (ys : List DeductionLine). (if b then record x { why = why } else x) ∷ ys) test rest.0,
      ap (λ b. cond (not b) (x ∷ without_line xs n) (without_line xs n)) test ∙ ap (λ ys. x ∷ ys) rest.1,
    )

pub changed : (xs : List DeductionLine) (n i : ℕ) (why : Justification) (d : DeductionLine) → Rises (numbers_of xs) → slice_get (numbers_of xs) i ≡ Some n
    → set xs i (record (get_or xs i d) { why = why }) ≡ with_why xs n why
changed [] n i why d h e = cc
changed (x ∷ xs) n zero why d h e =
    let here : x.number ≡ n = cc in
    let rest = untouched xs n why (subst (λ (k : ℕ). AllByRecursion (λ m. k < m) (numbers_of xs)) here h.0) in
    ap₂ (λ (b : Bool) (ys : List DeductionLine). (if b then record x { why = why } else x) ∷ ys) (sym (test_same x.number n here)) (sym rest.0)
changed (x ∷ xs) n (suc i) why d h e =
    let test : (x.number == n) ≡ false = test_other x.number n (λ same. later xs n i h.0 e same) in
    ap₂ (λ (b : Bool) (ys : List DeductionLine). (if b then record x { why = why } else x) ∷ ys) (sym test) (changed xs n i why d h.1 e)
  where
    later : (xs : List DeductionLine) (n i : ℕ) → AllByRecursion (λ m. x.number < m) (numbers_of xs) → slice_get (numbers_of xs) i ≡ Some n → x.number ≡ n → ⊥
    later [] n i h e same = cc
    later (y ∷ ys) n zero h e same = let here : y.number ≡ n = cc in let lt : x.number < y.number = h.0 in omega arith
    later (y ∷ ys) n (suc i) h e same = later ys n i h.1 e same

pub cut : (xs : List DeductionLine) (n i : ℕ) → Rises (numbers_of xs) → slice_get (numbers_of xs) i ≡ Some n → remove xs i ≡ without_line xs n
cut [] n i h e = cc
cut (x ∷ xs) n zero h e =
    let here : x.number ≡ n = cc in
    let rest = untouched xs n planned (subst (λ (k : ℕ). AllByRecursion (λ m. k < m) (numbers_of xs)) here h.0) in
    sym rest.1 ∙ sym (ap (λ b. cond (not b) (x ∷ without_line xs n) (without_line xs n)) (test_same x.number n here))
cut (x ∷ xs) n (suc i) h e =
    let test : (x.number == n) ≡ false = test_other x.number n (λ same. later xs n i h.0 e same) in
    ap (λ ys. x ∷ ys) (cut xs n i h.1 e) ∙ sym (ap (λ b. cond (not b) (x ∷ without_line xs n) (without_line xs n)) test)
  where
    later : (xs : List DeductionLine) (n i : ℕ) → AllByRecursion (λ m. x.number < m) (numbers_of xs) → slice_get (numbers_of xs) i ≡ Some n → x.number ≡ n → ⊥
    later [] n i h e same = cc
    later (y ∷ ys) n zero h e same = let here : y.number ≡ n = cc in let lt : x.number < y.number = h.0 in omega arith
    later (y ∷ ys) n (suc i) h e same = later ys n i h.1 e same

-- both keep an outline one
numbers_of-with_why : (xs : List DeductionLine) (n : ℕ) (why : Justification) → numbers_of (with_why xs n why) ≡ numbers_of xs
numbers_of-with_why [] n why = refl
numbers_of-with_why (x ∷ xs) n why = ap₂ (λ (m : ℕ) (ms : List ℕ). m ∷ ms) (go (x.number == n)) (numbers_of-with_why xs n why)
  where
    go : (b : Bool) → (if b then record x { why = why } else x).number ≡ x.number
    go true = refl
    go false = refl

formed_with_why : (xs : List DeductionLine) (n : ℕ) (why : Justification) → HasTypedTerms why → AllByRecursion IsWellFormed xs → AllByRecursion IsWellFormed (with_why xs n why)
formed_with_why [] n why p h = tt
formed_with_why (x ∷ xs) n why p h = (go (x.number == n), formed_with_why xs n why p h.1)
  where
    go : (b : Bool) → IsWellFormed (if b then record x { why = why } else x)
    go true = (h.0.0, h.0.1, p)
    go false = h.0

pub outline_with_why : (xs : List DeductionLine) (n : ℕ) (why : Justification) → IsOutline xs → HasTypedTerms why → IsOutline (with_why xs n why)
outline_with_why xs n why h p = record {
  rising = subst IsStrictlyIncreasing (sym (numbers_of-with_why xs n why)) h.rising;
  formed = All-from_recursion IsWellFormed (with_why xs n why) (formed_with_why xs n why p (recursion_from_All IsWellFormed xs h.formed));
}

all_without : (P : ℕ → Type 0) (xs : List DeductionLine) (n : ℕ) → AllByRecursion P (numbers_of xs) → AllByRecursion P (numbers_of (without_line xs n))
all_without P [] n h = tt
all_without P (x ∷ xs) n h = go (x.number == n) (all_without P xs n h.1)
  where
    go : (b : Bool) → AllByRecursion P (numbers_of (without_line xs n)) → AllByRecursion P (numbers_of (cond (not b) (x ∷ without_line xs n) (without_line xs n)))
    go true rest = rest
    go false rest = (h.0, rest)

rises_without : (xs : List DeductionLine) (n : ℕ) → Rises (numbers_of xs) → Rises (numbers_of (without_line xs n))
rises_without [] n h = tt
rises_without (x ∷ xs) n h = go (x.number == n) (rises_without xs n h.1)
  where
    go : (b : Bool) → Rises (numbers_of (without_line xs n)) → Rises (numbers_of (cond (not b) (x ∷ without_line xs n) (without_line xs n)))
    go true rest = rest
    go false rest = (all_without (λ m. x.number < m) xs n h.0, rest)

pub outline_without : (xs : List DeductionLine) (n : ℕ) → IsOutline xs → IsOutline (without_line xs n)
outline_without xs n h = record {
  rising = rising (numbers_of (without_line xs n)) (rises_without xs n (rises (numbers_of xs) h.rising));
  formed = All-filter (λ (m : DeductionLine). not (m.number == n)) IsWellFormed xs h.formed;
}

-- the same of the program's own lines

some_line : (xs : List DeductionLine) (n i : ℕ) → IsStrictlyIncreasing (numbers_of xs) → slice_get (numbers_of xs) i ≡ Some n → IsSome (line_of xs n)
some_line xs n i h e = subst IsSome (sym (found_line xs n i h e)) (go xs i n e)
  where
    go : (xs : List DeductionLine) (i n : ℕ) → slice_get (numbers_of xs) i ≡ Some n → IsSome (slice_get xs i)
    go [] i n e = cc
    go (x ∷ xs) zero n e = refl
    go (x ∷ xs) (suc i) n e = go xs i n e

pub is_there : (lines : List Line) (n i : ℕ) → IsOutline (map plain_line lines) → slice_get (numbers_of (map plain_line lines)) i ≡ Some n → IsSome (line_of (map plain_line lines) n)
is_there lines n i h e = some_line (map plain_line lines) n i h.rising e

pub put_line : (lines new : List Line) (line : Line) (i : ℕ) → IsGapFor (numbers_of (map plain_line lines)) line.number i → new ≡ insert lines i line → map plain_line new ≡ with_line (map plain_line lines) (plain_line line)
put_line lines new line i gap e =
    ap (map plain_line) e
    ∙ map-append plain_line (take i lines) (line ∷ drop i lines)
    ∙ ap₂ (λ (xs ys : List DeductionLine). xs ++ plain_line line ∷ ys) (sym (take-map plain_line i lines)) (sym (drop-map plain_line i lines))
    ∙ inserted (map plain_line lines) (plain_line line) i gap

pub change_line : (lines new : List Line) (line : Line) (why : Why) (n i : ℕ) → IsOutline (map plain_line lines) → slice_get (numbers_of (map plain_line lines)) i ≡ Some n
    → line ≡ get_or lines i line → new ≡ set lines i (record line { why = why }) → map plain_line new ≡ with_why (map plain_line lines) n (plain_why why)
change_line lines new line why n i h e read changed_to =
    let within : i < length lines = omega (arith, (index_at (numbers_of (map plain_line lines)) i n e).0, length-map (map plain_line lines) (λ (l : DeductionLine). l.number), length-map lines plain_line) in
    let there : get_or (map plain_line lines) i (plain_line line) ≡ plain_line line = get_or-map plain_line lines i line (plain_line line) within ∙ ap plain_line (sym read) in
    ap (map plain_line) changed_to
    ∙ map-set plain_line lines i (record line { why = why })
    ∙ ap (λ (l : DeductionLine). set (map plain_line lines) i (record l { why = plain_why why })) (sym there)
    ∙ changed (map plain_line lines) n i (plain_why why) (plain_line line) (rises (numbers_of (map plain_line lines)) h.rising) e

pub cut_line : (lines new : List Line) (n i : ℕ) → IsOutline (map plain_line lines) → slice_get (numbers_of (map plain_line lines)) i ≡ Some n
    → new ≡ remove lines i → map plain_line new ≡ without_line (map plain_line lines) n
cut_line lines new n i h e cut_to =
    ap (map plain_line) cut_to
    ∙ map-append plain_line (take i lines) (drop (suc i) lines)
    ∙ ap₂ (λ (xs ys : List DeductionLine). xs ++ ys) (sym (take-map plain_line i lines)) (sym (drop-map plain_line (suc i) lines))
    ∙ cut (map plain_line lines) n i (rises (numbers_of (map plain_line lines)) h.rising) e

pub is_missing_not : (xs : List DeductionLine) (n : ℕ) → line_of xs n ≡ None → IsSome (line_of xs n) → ⊥
is_missing_not xs n none some = go (line_of xs n) none some
  where
    go : (o : Option DeductionLine) → o ≡ None → IsSome o → ⊥
    go None e h = cc
    go (Some l) e h = cc
