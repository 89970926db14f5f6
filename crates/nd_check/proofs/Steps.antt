-- Steps of the loops over numbers, hypotheses and lines.
use Rattle.std.proofs.Common.{◌≡◌, ℕ, ◌<◌, false, if◌then◌else◌, List, [], ◌∷◌, ◌++◌, Option, Some, None, Result, Ok, Err, refl, sym, ◌∙◌, ap, subst, append_assoc, suc, zero, arith}
use Rattle.std.specs.Prelude.{nat_lt}
use Rattle.std.proofs.lemmas.Bool.{lt-ltb, ltb-true, false_from_ne_true}
use Rattle.hol_terms.specs.Lists.{IsAboveLast}
use Rattle.core_text.specs.Placed.{Placed, PlacedAll, more_at, place_of}
use Rattle.core_text.specs.Reading.{◌>>=◌, Fails, number_in}
use Rattle.core_text.specs.declared.faults.TextFault.{TextFault}
use Rattle.core_text.specs.declared.faults.TextFault.TheVariants.{Memory, NotUtf8, BadToken, Unbalanced, TooDeep, Trailing, BadForm, IllTyped, LooseIndex}
use Rattle.nd_rules.specs.Lines.{DeductionLine}
use Rattle.nd_check.specs.Reading.{above_in, line_at, lines_at, numbers_at, rising_at}

-- a fault of a part that is read first is one of the whole
pub fails_first : {A B : Type 0} (e : TextFault) (r : Result A ℕ) (f : A → Result B ℕ) → Fails e r → Fails e (r >>= f)
fails_first Memory r f h = tt
fails_first NotUtf8 r f h = absurd h
fails_first (BadToken k) r f h = absurd h
fails_first (Unbalanced k) r f h = absurd h
fails_first (TooDeep k) r f h = absurd h
fails_first (Trailing k) r f h = absurd h
fails_first (BadForm k) r f h = ap (λ r. r >>= f) h
fails_first (IllTyped k) r f h = absurd h
fails_first (LooseIndex k) r f h = absurd h

-- the items after those that were read
abbrev pub behind : {A : Type 0} → List A → Result (List A) ℕ → Result (List A) ℕ
behind front r = r >>= λ ps. Ok (front ++ ps)

-- one item more, at the front of what is after or at the end of what was read
one_on : {A : Type 0} (old new : List A) (x : A) (r : Result (List A) ℕ) → new ≡ old ++ x ∷ [] → behind new r ≡ behind old (r >>= λ xs. Ok (x ∷ xs))
one_on {A = A} old new x (Ok xs) e = let longer : new ++ xs ≡ old ++ x ∷ xs = ap (λ l. l ++ xs) e ∙ append_assoc old (x ∷ []) xs in ap (λ l. let r : Result (List A) ℕ = Ok l in r) longer
one_on {A = A} old new x (Err k) e = refl

-- one number more
pub numbers_on : (old new : List ℕ) (n : ℕ) (f : Placed) (fs : PlacedAll) (whole : Result (List ℕ) ℕ) → new ≡ old ++ n ∷ [] → number_in f ≡ Ok n → behind old (numbers_at (more_at f fs)) ≡ whole → behind new (numbers_at fs) ≡ whole
numbers_on old new n f fs whole e h w = one_on old new n (numbers_at fs) e ∙ sym (ap (λ r. behind old (r >>= λ m. numbers_at fs >>= λ ns. Ok (m ∷ ns))) h) ∙ w

pub numbers_failed : (e : TextFault) (front : List ℕ) (f : Placed) (fs : PlacedAll) (whole : Result (List ℕ) ℕ) → Fails e (number_in f) → behind front (numbers_at (more_at f fs)) ≡ whole → Fails e whole
numbers_failed e front f fs whole h w = subst (Fails e) w (fails_first e (numbers_at (more_at f fs)) (λ ns. Ok (front ++ ns)) (fails_first e (number_in f) (λ n. numbers_at fs >>= λ ns. Ok (n ∷ ns)) h))

-- the last number of a list
abbrev pub last_of : List ℕ → Option ℕ
last_of [] = None
last_of (n ∷ []) = Some n
last_of (n ∷ m ∷ ns) = last_of (m ∷ ns)

last_of-append : (ns : List ℕ) (n : ℕ) → last_of (ns ++ n ∷ []) ≡ Some n
last_of-append [] n = refl
last_of-append (m ∷ []) n = refl
last_of-append (m ∷ k ∷ ns) n = last_of-append (k ∷ ns) n

-- a number that rises is read, and another isn't
above_read : (ns : List ℕ) (n : ℕ) (f : Placed) → IsAboveLast ns n → number_in f ≡ Ok n → above_in (last_of ns) f ≡ Ok n
above_read [] n f h e = e
above_read (m ∷ []) n f h e = let low : m < n = h 0 refl in rw (e, lt-ltb m n low) refl
above_read (m ∷ k ∷ ns) n f h e = above_read (k ∷ ns) n f (λ i s. h (suc i) (omega (arith, s))) e

above_refused : (ns : List ℕ) (n : ℕ) (f : Placed) → (IsAboveLast ns n → ⊥) → number_in f ≡ Ok n → above_in (last_of ns) f ≡ Err (place_of f)
above_refused [] n f h e = absurd (h (λ i s. absurd (omega (arith, s))))
above_refused (m ∷ []) n f h e =
    let test : nat_lt m n ≡ false = false_from_ne_true (nat_lt m n) (λ t. h (alone (ltb-true m n t))) in
    rw (e, test) refl
  where
    alone : m < n → IsAboveLast (m ∷ []) n
    alone low zero s = low
    alone low (suc i) s = absurd (omega (arith, s))
above_refused (m ∷ k ∷ ns) n f h e = above_refused (k ∷ ns) n f (λ a. h (longer a)) e
  where
    longer : IsAboveLast (k ∷ ns) n → IsAboveLast (m ∷ k ∷ ns) n
    longer a zero s = absurd (omega (arith, s))
    longer a (suc i) s = a i (omega (arith, s))

-- one hypothesis more
pub rising_on : (old new : List ℕ) (n : ℕ) (f : Placed) (fs : PlacedAll) (whole : Result (List ℕ) ℕ) → new ≡ old ++ n ∷ [] → IsAboveLast old n → number_in f ≡ Ok n
    → behind old (rising_at (last_of old) (more_at f fs)) ≡ whole → behind new (rising_at (last_of new) fs) ≡ whole
rising_on old new n f fs whole e above h w =
    let last : last_of new ≡ Some n = ap last_of e ∙ last_of-append old n in
    ap (λ last. behind new (rising_at last fs)) last
    ∙ one_on old new n (rising_at (Some n) fs) e ∙ sym (ap (λ r. behind old (r >>= λ m. rising_at (Some m) fs >>= λ ns. Ok (m ∷ ns))) (above_read old n f above h)) ∙ w

-- a number that doesn't rise
pub rising_stopped : (front : List ℕ) (n : ℕ) (f : Placed) (fs : PlacedAll) (whole : Result (List ℕ) ℕ) → (IsAboveLast front n → ⊥) → number_in f ≡ Ok n
    → behind front (rising_at (last_of front) (more_at f fs)) ≡ whole → whole ≡ Err (place_of f)
rising_stopped front n f fs whole below h w = sym w ∙ ap (λ r. behind front (r >>= λ m. rising_at (Some m) fs >>= λ ns. Ok (m ∷ ns))) (above_refused front n f below h)

above_failed : (e : TextFault) (last : Option ℕ) (f : Placed) → Fails e (number_in f) → Fails e (above_in last f)
above_failed e None f h = h
above_failed e (Some m) f h = fails_first e (number_in f) (λ n. if nat_lt m n then Ok n else Err (place_of f)) h

pub rising_failed : (e : TextFault) (front : List ℕ) (f : Placed) (fs : PlacedAll) (whole : Result (List ℕ) ℕ) → Fails e (number_in f) → behind front (rising_at (last_of front) (more_at f fs)) ≡ whole → Fails e whole
rising_failed e front f fs whole h w =
    subst (Fails e) w (fails_first e (rising_at (last_of front) (more_at f fs)) (λ ns. Ok (front ++ ns))
    (fails_first e (above_in (last_of front) f) (λ n. rising_at (Some n) fs >>= λ ns. Ok (n ∷ ns)) (above_failed e (last_of front) f h)))

-- one line more
pub lines_on : (old new : List DeductionLine) (l : DeductionLine) (last : Option ℕ) (f : Placed) (fs : PlacedAll) (whole : Result (List DeductionLine) ℕ) → new ≡ old ++ l ∷ [] → line_at last f ≡ Ok l
    → behind old (lines_at last (more_at f fs)) ≡ whole → behind new (lines_at (Some l.number) fs) ≡ whole
lines_on old new l last f fs whole e h w = one_on old new l (lines_at (Some l.number) fs) e ∙ sym (ap (λ r. behind old (r >>= λ m. lines_at (Some m.number) fs >>= λ ls. Ok (m ∷ ls))) h) ∙ w

pub lines_failed : (e : TextFault) (front : List DeductionLine) (last : Option ℕ) (f : Placed) (fs : PlacedAll) (whole : Result (List DeductionLine) ℕ) → Fails e (line_at last f) → behind front (lines_at last (more_at f fs)) ≡ whole → Fails e whole
lines_failed e front last f fs whole h w =
    subst (Fails e) w (fails_first e (lines_at last (more_at f fs)) (λ ls. Ok (front ++ ls)) (fails_first e (line_at last f) (λ l. lines_at (Some l.number) fs >>= λ ls. Ok (l ∷ ls)) h))
