-- Lines found, put in, changed and taken out at the place of their number.
use Rattle.std.proofs.Common.{◌≡◌, ◌≢◌, ℕ, zero, suc, ◌<◌, List, [], ◌∷◌, length, get_or, map, cond, Some, None, refl, sym, ◌∙◌, ap, subst, arith, inl, inr}
use Rattle.std.specs.Prelude.{slice_get, slice_index}
use Rattle.std.specs.Option.{option_map}
use Rattle.std.specs.List.Sorted.{IsStrictlyIncreasing}
use Rattle.std.proofs.lemmas.List.{length-map, get_or-map}
use Rattle.std.proofs.lemmas.List.Elements.{All-get_or}
use Rattle.std.proofs.lemmas.Option.{slice_get-map, slice_get-get_or}
use Rattle.nd_rules.specs.declared.lines.Line.{Line}
use Rattle.std.proofs.lemmas.Bool.Decides.{eqb_tells}
use Rattle.nd_rules.specs.Lines.{DeductionLine, line_of, numbers_of, plain_line}
use Rattle.nd_rules.specs.Outlines.{IsGapFor, IsOutline, IsWellFormed}
use Rattle.nd_rules.proofs.Searches.{later_greater}

-- the first line of a number
line_of-here : (x : DeductionLine) (xs : List DeductionLine) (n : ℕ) → x.number ≡ n → line_of (x ∷ xs) n ≡ Some x
line_of-here x xs n e = elim (eqb_tells x.number n) [ inl same ↦ ap (λ b. cond b (Some x) (line_of xs n)) same.0 | inr other ↦ absurd (other.1 e) ]

line_of-later : (x : DeductionLine) (xs : List DeductionLine) (n : ℕ) → x.number ≢ n → line_of (x ∷ xs) n ≡ line_of xs n
line_of-later x xs n differs = elim (eqb_tells x.number n) [ inl same ↦ absurd (differs same.1) | inr other ↦ ap (λ b. cond b (Some x) (line_of xs n)) other.0 ]

pub line_of-at : (xs : List DeductionLine) (n i : ℕ) → ((j : ℕ) → j < i → slice_index (numbers_of xs) j ≢ n) → slice_get (numbers_of xs) i ≡ Some n → line_of xs n ≡ slice_get xs i
line_of-at [] n i before e = cc
line_of-at (x ∷ xs) n zero before e = line_of-here x xs n cc
line_of-at (x ∷ xs) n (suc i) before e =
    line_of-later x xs n (before 0 (omega arith)) ∙ line_of-at xs n i (λ j lt. before (suc j) (omega arith)) e

pub line_of-none : (xs : List DeductionLine) (n : ℕ) → ((j : ℕ) → j < length (numbers_of xs) → slice_index (numbers_of xs) j ≢ n) → line_of xs n ≡ None
line_of-none [] n all = refl
line_of-none (x ∷ xs) n all = line_of-later x xs n (all 0 (omega arith)) ∙ line_of-none xs n (λ j lt. all (suc j) (omega arith))

-- what stands at a place of rising numbers is smaller before it
pub index_at : (ns : List ℕ) (i n : ℕ) → slice_get ns i ≡ Some n → (i < length ns) × (slice_index ns i ≡ n)
index_at [] i n e = cc
index_at (m ∷ ns) zero n e = (omega arith, cc)
index_at (m ∷ ns) (suc i) n e = let r = index_at ns i n e in (omega (arith, r.0), r.1)

pub found_line : (xs : List DeductionLine) (n i : ℕ) → IsStrictlyIncreasing (numbers_of xs) → slice_get (numbers_of xs) i ≡ Some n → line_of xs n ≡ slice_get xs i
found_line xs n i rising e =
    let at = index_at (numbers_of xs) i n e in
    line_of-at xs n i (λ j lt same. let less : slice_index (numbers_of xs) j < slice_index (numbers_of xs) i = later_greater (numbers_of xs) rising j i lt at.0 in omega (arith, at.1, same)) e

pub absent_line : (xs : List DeductionLine) (n i : ℕ) → IsGapFor (numbers_of xs) n i → line_of xs n ≡ None
absent_line xs n i gap = line_of-none xs n (λ j lt same. go j lt same)
  where
    go : (j : ℕ) → j < length (numbers_of xs) → slice_index (numbers_of xs) j ≡ n → ⊥
    go j lt same = grind (arith, gap.smaller j, gap.greater j)

-- the line read from its place
pub line_read : (lines : List Line) (line : Line) (n i : ℕ) → IsStrictlyIncreasing (numbers_of (map plain_line lines)) → slice_get (numbers_of (map plain_line lines)) i ≡ Some n
    → line ≡ get_or lines i line → Some (plain_line line) ≡ line_of (map plain_line lines) n
line_read lines line n i rising e read =
    let within : i < length lines = omega (arith, (index_at (numbers_of (map plain_line lines)) i n e).0, length-map (map plain_line lines) (λ (l : DeductionLine). l.number), length-map lines plain_line) in
    let there : slice_get lines i ≡ Some line = slice_get-get_or lines i line within ∙ ap Some (sym read) in
    sym (found_line (map plain_line lines) n i rising e ∙ slice_get-map plain_line lines i ∙ ap (option_map plain_line) there)

-- which is well-formed
pub formed_at : (lines : List Line) (line : Line) (i : ℕ) → IsOutline (map plain_line lines) → i < length (map plain_line lines) → line ≡ get_or lines i line → IsWellFormed (plain_line line)
formed_at lines line i h within read =
    let there : get_or (map plain_line lines) i (plain_line line) ≡ plain_line line = get_or-map plain_line lines i line (plain_line line) (omega (arith, within, length-map lines plain_line)) ∙ ap plain_line (sym read) in
    subst IsWellFormed there (All-get_or IsWellFormed (map plain_line lines) i (plain_line line) within h.formed)

pub formed_read : (lines : List Line) (line : Line) (n i : ℕ) → IsOutline (map plain_line lines) → slice_get (numbers_of (map plain_line lines)) i ≡ Some n → line ≡ get_or lines i line → IsWellFormed (plain_line line)
formed_read lines line n i h e read =
    formed_at lines line i h (omega (arith, (index_at (numbers_of (map plain_line lines)) i n e).0, length-map (map plain_line lines) (λ (l : DeductionLine). l.number))) read
