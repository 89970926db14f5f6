-- A search by number among lines whose numbers rise.
use Rattle.std.proofs.Common.{◌≡◌, ◌≢◌, ◌==◌, ◌||◌, zero, suc, Bool, true, false, inl, inr, ℕ, ◌<◌, ◌≤◌, List, [], ◌∷◌, length, get_or, map, Some, Result, Ok, Err, IfOk, IfErr, refl, sym, ◌∙◌, ap, subst, arith}
use Rattle.std.specs.Prelude.{slice_get, slice_index, is_ok}
use Rattle.nd_rules.specs.Resting.{is_among}
use Rattle.std.proofs.lemmas.Bool.{eq-eqb}
use Rattle.std.specs.Option.{option_map}
use Rattle.std.specs.declared.cmp.Ordering.TheVariants.{Less, Equal, Greater}
use Rattle.std.specs.List.Sorted.{IsSearchInRange, IsBinarySearchResult, IsPartitionPoint, IsNonDecreasingBy, IsStrictlyIncreasing}
use Rattle.std.specs.Ordering.{nat_cmp, ordering_index}
use Rattle.std.proofs.lemmas.Cmp.{ranked}
use Rattle.std.proofs.lemmas.List.{length-map, get_or-map}
use Rattle.std.proofs.lemmas.List.Kept.{AllPairs-from_increasing}
use Rattle.std.proofs.lemmas.List.Sorted.{IsNonDecreasingBy-from_default, IsNonDecreasingBy-short}
use Rattle.std.proofs.lemmas.Option.{slice_get-map, slice_get-get_or}
use Rattle.std.proofs.lemmas.Bool.Decides.{nat_tests, eqb_tells}
use Rattle.nd_rules.specs.declared.lines.Line.{Line}
use Rattle.nd_rules.specs.Lines.{numbers_of, plain_line}
use Rattle.nd_rules.specs.Outlines.{IsGapFor}

-- a later number is greater
pub later_greater : (xs : List ℕ) → IsStrictlyIncreasing xs → (i j : ℕ) → i < j → j < length xs → slice_index xs i < slice_index xs j
later_greater xs rising i j lt within = AllPairs-from_increasing xs rising i j 0 lt within

module _ {X : Type 0} (f : X → ℕ) (n : ℕ) where
  -- the comparisons with n rise
  comparisons_rise : (xs : List X) → IsStrictlyIncreasing (map f xs) → IsNonDecreasingBy (λ y. ordering_index (nat_cmp (f y) n)) xs
  comparisons_rise [] rising = IsNonDecreasingBy-short (λ y. ordering_index (nat_cmp (f y) n)) [] (omega arith)
  comparisons_rise (x ∷ xs) rising = IsNonDecreasingBy-from_default (λ y. ordering_index (nat_cmp (f y) n)) (x ∷ xs) x (λ i j le within. go i j le within)
    where
      numbers_rise : (i j : ℕ) → i ≤ j → j < length (x ∷ xs) → f (get_or (x ∷ xs) i x) ≤ f (get_or (x ∷ xs) j x)
      numbers_rise i j le within =
          let long : length (map f (x ∷ xs)) ≡ length (x ∷ xs) = length-map (x ∷ xs) f in
          let first : get_or (map f (x ∷ xs)) i 0 ≡ f (get_or (x ∷ xs) i x) = get_or-map f (x ∷ xs) i x 0 (omega arith) in
          let second : get_or (map f (x ∷ xs)) j 0 ≡ f (get_or (x ∷ xs) j x) = get_or-map f (x ∷ xs) j x 0 within in
          grind (arith, first, second, long, later_greater (map f (x ∷ xs)) rising i j, λ (same : i ≡ j). ap (λ k. f (get_or (x ∷ xs) k x)) same)

      go : (i j : ℕ) → i ≤ j → j < length (x ∷ xs) → ordering_index (nat_cmp (f (get_or (x ∷ xs) i x)) n) ≤ ordering_index (nat_cmp (f (get_or (x ∷ xs) j x)) n)
      go i j le within = let rise : f (get_or (x ∷ xs) i x) ≤ f (get_or (x ∷ xs) j x) = numbers_rise i j le within in grind (arith, nat_tests)

  found_at : (xs : List X) (i : ℕ) → i < length xs → ((d : X) → nat_cmp (f (get_or xs i d)) n ≡ Equal) → slice_get (map f xs) i ≡ Some n
  found_at [] i within equal = absurd (omega arith)
  found_at (x ∷ xs) i within equal =
      let same : f (get_or (x ∷ xs) i x) ≡ n = ranked (f (get_or (x ∷ xs) i x)) n Equal (sym (equal x)) in
      slice_get-map f (x ∷ xs) i ∙ ap (option_map f) (slice_get-get_or (x ∷ xs) i x within) ∙ ap Some same

  gap_at : (xs : List X) (i : ℕ) → i ≤ length xs → IsPartitionPoint (λ y. nat_cmp (f y) n ≡ Less) (λ y. nat_cmp (f y) n ≡ Greater) xs i → IsGapFor (map f xs) n i
  gap_at xs i within parted = record {
    within = omega (arith, length-map xs f);
    smaller = λ j lt. below xs j (omega arith) (λ d. parted.0 j d (omega arith) lt);
    greater = λ j le lt. let long : length (map f xs) ≡ length xs = length-map xs f in above xs j (omega arith) (λ d. parted.1 j d le (omega arith));
  }
    where
      below : (xs : List X) (j : ℕ) → j < length xs → ((d : X) → nat_cmp (f (get_or xs j d)) n ≡ Less) → slice_index (map f xs) j < n
      below [] j within less = absurd (omega arith)
      below (x ∷ xs) j within less =
          let lt : f (get_or (x ∷ xs) j x) < n = ranked (f (get_or (x ∷ xs) j x)) n Less (sym (less x)) in
          omega (arith, get_or-map f (x ∷ xs) j x 0 within)

      above : (xs : List X) (j : ℕ) → j < length xs → ((d : X) → nat_cmp (f (get_or xs j d)) n ≡ Greater) → n < slice_index (map f xs) j
      above [] j within greater = absurd (omega arith)
      above (x ∷ xs) j within greater =
          let gt : n < f (get_or (x ∷ xs) j x) = ranked (f (get_or (x ∷ xs) j x)) n Greater (sym (greater x)) in
          omega (arith, get_or-map f (x ∷ xs) j x 0 within)

  pub searched : (xs : List X) (r : Result ℕ ℕ) → IsStrictlyIncreasing (map f xs) → IsSearchInRange r (length xs) → IsBinarySearchResult (λ y. nat_cmp (f y) n) xs r
      → IfOk r (λ i. slice_get (map f xs) i ≡ Some n) × IfErr r (IsGapFor (map f xs) n)
  searched xs (Ok i) rising within equal = (found_at xs i within equal, tt)
  searched xs (Err i) rising within parted = (tt, gap_at xs i within (parted (comparisons_rise xs rising)))

-- the numbers of lines without their pointers
pub numbers_of-plain : (lines : List Line) → numbers_of (map plain_line lines) ≡ map (λ (l : Line). l.number) lines
numbers_of-plain [] = refl
numbers_of-plain (l ∷ lines) = ap (λ ns. l.number ∷ ns) (numbers_of-plain lines)

pub searched_line : (lines : List Line) (n : ℕ) (r : Result ℕ ℕ) → IsStrictlyIncreasing (numbers_of (map plain_line lines)) → IsSearchInRange r (length lines) → IsBinarySearchResult (λ (l : Line). nat_cmp l.number n) lines r
    → IfOk r (λ i. slice_get (numbers_of (map plain_line lines)) i ≡ Some n) × IfErr r (IsGapFor (numbers_of (map plain_line lines)) n)
searched_line lines n r rising within found =
    let same = numbers_of-plain lines in
    let P : List ℕ → Type 0 = λ ns. IfOk r (λ i. slice_get ns i ≡ Some n) × IfErr r (IsGapFor ns n) in
    subst P (sym same) (searched (λ (l : Line). l.number) n lines r (subst IsStrictlyIncreasing same rising) within found)

-- a search among rising numbers tells whether the number is there
is_among_at : (ns : List ℕ) (n i : ℕ) → slice_get ns i ≡ Some n → is_among ns n ≡ true
is_among_at [] n i e = cc
is_among_at (m ∷ ns) n zero e = let here : m ≡ n = cc in ap (λ b. b || is_among ns n) (eq-eqb m n here)
is_among_at (m ∷ ns) n (suc i) e = go (m == n) (is_among_at ns n i e)
  where
    go : (b : Bool) → is_among ns n ≡ true → (b || is_among ns n) ≡ true
    go true h = refl
    go false h = h

is_among_none : (ns : List ℕ) (n : ℕ) → ((j : ℕ) → j < length ns → slice_index ns j ≢ n) → is_among ns n ≡ false
is_among_none [] n differ = refl
is_among_none (m ∷ ns) n differ =
    let first : m ≢ n = differ 0 (omega arith) in
    let test : (m == n) ≡ false = elim (eqb_tells m n) [ inl same ↦ absurd (first same.1) | inr other ↦ other.0 ] in
    ap (λ b. b || is_among ns n) test ∙ is_among_none ns n (λ j lt. differ (suc j) (omega arith))

same_numbers : (ns : List ℕ) → map (λ n. n) ns ≡ ns
same_numbers [] = refl
same_numbers (n ∷ ns) = ap (λ ms. n ∷ ms) (same_numbers ns)

pub searched_number : (ns : List ℕ) (n : ℕ) (r : Result ℕ ℕ) → IsStrictlyIncreasing ns → IsSearchInRange r (length ns) → IsBinarySearchResult (λ m. nat_cmp m n) ns r → is_ok r ≡ is_among ns n
searched_number ns n (Ok i) rising within found =
    let at = (searched (λ m. m) n ns (Ok i) (subst IsStrictlyIncreasing (sym (same_numbers ns)) rising) within found).0 in
    sym (is_among_at ns n i (subst (λ (ms : List ℕ). slice_get ms i ≡ Some n) (same_numbers ns) at))
searched_number ns n (Err i) rising within found =
    let gap : IsGapFor ns n i = subst (λ (ms : List ℕ). IsGapFor ms n i) (same_numbers ns) (searched (λ m. m) n ns (Err i) (subst IsStrictlyIncreasing (sym (same_numbers ns)) rising) within found).1 in
    sym (is_among_none ns n (λ j lt same. grind (arith, gap.smaller j, gap.greater j)))
