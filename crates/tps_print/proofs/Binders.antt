-- The names of binders are enough, different, and not taken.
use Rattle.std.proofs.Common.{ℕ, zero, suc, ◌+◌, ◌^◌, ◌<◌, ◌≤◌, List, [], ◌∷◌, All, Bool, true, false, cond, ◌||◌, not, filter, map, ◌≡◌, refl, sym, ap, subst, ◌∙◌, length, arith, decimal, inl, inr}
use Rattle.std.specs.Prelude.{slice_index}
use Rattle.std.specs.Char.{IsScalar}
use Rattle.std.specs.List.{list_any, range_with_len}
use Rattle.std.proofs.lemmas.Fmt.{decimal_injective, length-decimal-le}
use Rattle.std.proofs.lemmas.List.Elements.{All-nil, All-cons, All-tail, All-filter}
use Rattle.unicode_ident.proofs.IdentLemmas.{is_xid_start-ascii}
use Rattle.hol_terms.specs.Computed.{same_name}
use Rattle.hol_terms.specs.Names.{IsName, IsReserved}
use Rattle.hol_terms.proofs.Naming.{numbered_is_name}
use Rattle.hol_terms.proofs.Same.{same_name_refl, same_name_only}
use Rattle.tps_print.specs.BoundNames.{numbered_name}
use Rattle.tps_print.specs.Laws.{AreDifferent, HasBoundNames}

-- each is a name

other_first : (c : ℕ) (ds es : List ℕ) → c < 120 → 120 ∷ ds ≡ c ∷ es → ⊥
other_first c ds es h e = let same : 120 ≡ c = ap (λ (l : List ℕ). slice_index l 0) e in absurd (omega arith)

not_reserved : (ds : List ℕ) → IsReserved (120 ∷ ds) → ⊥
not_reserved ds (inl e) = other_first 65 ds _ (omega arith) e
not_reserved ds (inr (inl e)) = other_first 79 ds _ (omega arith) e
not_reserved ds (inr (inr (inl e))) = other_first 73 ds _ (omega arith) e
not_reserved ds (inr (inr (inr (inl e)))) = other_first 69 ds _ (omega arith) e
not_reserved ds (inr (inr (inr (inr (inl e))))) = other_first 84 ds _ (omega arith) e
not_reserved ds (inr (inr (inr (inr (inr (inl e)))))) = other_first 70 ds _ (omega arith) e
not_reserved ds (inr (inr (inr (inr (inr (inr (inl e))))))) = other_first 70 ds _ (omega arith) e
not_reserved ds (inr (inr (inr (inr (inr (inr (inr (inl e)))))))) = other_first 69 ds _ (omega arith) e
not_reserved ds (inr (inr (inr (inr (inr (inr (inr (inr e)))))))) = other_first 76 ds _ (omega arith) e

pub numbered_named : (n : ℕ) → n < 2 ^ 64 → IsName (numbered_name n)
numbered_named n h =
    let other : IsName (97 ∷ decimal n) = numbered_is_name n h in (
      (
        All-cons IsScalar 120 (decimal n) refl (All-tail IsScalar 97 (decimal n) other.0.0),
        (let short : length (decimal n) ≤ 20 = length-decimal-le 20 n (omega arith) (omega arith) h in omega arith),
        (is_xid_start-ascii 120 (omega arith), other.0.2.1),
      ),
      (λ e. let same : 120 ≡ 95 = e in absurd (omega arith)),
      not_reserved (decimal n),
    )

all_named : (first count : ℕ) → first + count ≤ 2 ^ 64 → All IsName (map numbered_name (range_with_len first count))
all_named first zero small = All-nil IsName
all_named first (suc count) small =
    All-cons IsName (numbered_name first) (map numbered_name (range_with_len (first + 1) count)) (numbered_named first (omega arith)) (all_named (first + 1) count (omega arith))

-- no two are equal

numbered_apart : (m n : ℕ) → m < n → n < 2 ^ 64 → (b : Bool) → same_name (numbered_name m) (numbered_name n) ≡ b → b ≡ false
numbered_apart m n less small false e = refl
numbered_apart m n less small true e =
    let names : 120 ∷ decimal m ≡ 120 ∷ decimal n = same_name_only (numbered_name m) (numbered_name n) e in
    let digits : decimal m ≡ decimal n = cc in
    let same : m ≡ n = decimal_injective m n (omega arith) small digits in absurd (omega (arith, same, less))

or_false : (a b : Bool) → a ≡ false → b ≡ false → (a || b) ≡ false
or_false false b e f = f
or_false true b e f = cc

absent : (m first count : ℕ) → m < first → first + count ≤ 2 ^ 64 → list_any (same_name (numbered_name m)) (map numbered_name (range_with_len first count)) ≡ false
absent m first zero less small = refl
absent m first (suc count) less small =
    or_false (same_name (numbered_name m) (numbered_name first)) (list_any (same_name (numbered_name m)) (map numbered_name (range_with_len (first + 1) count)))
    (numbered_apart m first less (omega arith) (same_name (numbered_name m) (numbered_name first)) refl) (absent m (first + 1) count (omega arith) (omega arith))

all_different : (first count : ℕ) → first + count ≤ 2 ^ 64 → AreDifferent (map numbered_name (range_with_len first count))
all_different first zero small = tt
all_different first (suc count) small = (absent first (first + 1) count (omega arith) (omega arith), all_different (first + 1) count (omega arith))

or_parts : (a b : Bool) → (a || b) ≡ false → (a ≡ false) × (b ≡ false)
or_parts false b e = (refl, e)
or_parts true b e = cc

absent_filter : (q p : List ℕ → Bool) (xs : List (List ℕ)) → list_any q xs ≡ false → list_any q (filter p xs) ≡ false
absent_filter q p [] e = refl
absent_filter q p (x ∷ xs) e = let parts = or_parts (q x) (list_any q xs) e in go (p x) (absent_filter q p xs parts.1) parts.0
  where
    go : (b : Bool) → list_any q (filter p xs) ≡ false → q x ≡ false → list_any q (cond b (x ∷ filter p xs) (filter p xs)) ≡ false
    go true rest here = or_false (q x) (list_any q (filter p xs)) here rest
    go false rest here = rest

different_filter : (p : List ℕ → Bool) (xs : List (List ℕ)) → AreDifferent xs → AreDifferent (filter p xs)
different_filter p [] h = tt
different_filter p (x ∷ xs) h = go (p x) (different_filter p xs h.1) (absent_filter (same_name x) p xs h.0)
  where
    go : (b : Bool) → AreDifferent (filter p xs) → list_any (same_name x) (filter p xs) ≡ false → AreDifferent (cond b (x ∷ filter p xs) (filter p xs))
    go true rest here = (here, rest)
    go false rest here = rest

-- none is taken

denied : (b : Bool) → not b ≡ true → b ≡ false
denied true e = cc
denied false e = refl

all_untaken : (q : List ℕ → Bool) (xs : List (List ℕ)) → All (λ (x : List ℕ). q x ≡ false) (filter (λ (x : List ℕ). not (q x)) xs)
all_untaken q [] = All-nil (λ (x : List ℕ). q x ≡ false)
all_untaken q (x ∷ xs) = go (q x) refl (all_untaken q xs)
  where
    go : (b : Bool) → q x ≡ b → All (λ (x : List ℕ). q x ≡ false) (filter (λ (x : List ℕ). not (q x)) xs)
        → All (λ (x : List ℕ). q x ≡ false) (cond (not b) (x ∷ filter (λ (x : List ℕ). not (q x)) xs) (filter (λ (x : List ℕ). not (q x)) xs))
    go true e rest = rest
    go false e rest = All-cons (λ (x : List ℕ). q x ≡ false) x (filter (λ (x : List ℕ). not (q x)) xs) e rest

-- they are enough, since each name that is taken is one of different names at most

count_either : (p q : List ℕ → Bool) (xs : List (List ℕ)) → length (filter (λ (x : List ℕ). p x || q x) xs) ≤ length (filter p xs) + length (filter q xs)
count_either p q [] = omega arith
count_either p q (x ∷ xs) = go (p x) (q x) (count_either p q xs)
  where
    go : (a b : Bool) → length (filter (λ (x : List ℕ). p x || q x) xs) ≤ length (filter p xs) + length (filter q xs)
        → length (cond (a || b) (x ∷ filter (λ (x : List ℕ). p x || q x) xs) (filter (λ (x : List ℕ). p x || q x) xs)) ≤ length (cond a (x ∷ filter p xs) (filter p xs)) + length (cond b (x ∷ filter q xs) (filter q xs))
    go true true h = omega (arith, h)
    go true false h = omega (arith, h)
    go false true h = omega (arith, h)
    go false false h = h

count_absent : (t : List ℕ) (xs : List (List ℕ)) → list_any (same_name t) xs ≡ false → length (filter (λ (x : List ℕ). same_name x t) xs) ≡ 0
count_absent t [] e = refl
count_absent t (x ∷ xs) e = let parts = or_parts (same_name t x) (list_any (same_name t) xs) e in go (same_name x t) refl parts.0 (count_absent t xs parts.1)
  where
    go : (b : Bool) → same_name x t ≡ b → same_name t x ≡ false → length (filter (λ (x : List ℕ). same_name x t) xs) ≡ 0
        → length (cond b (x ∷ filter (λ (x : List ℕ). same_name x t) xs) (filter (λ (x : List ℕ). same_name x t) xs)) ≡ 0
    go false e other rest = rest
    go true e other rest =
        let there : same_name t x ≡ true = subst (λ (y : List ℕ). same_name t y ≡ true) (sym (same_name_only x t e)) (same_name_refl t) in
        let wrong : true ≡ false = sym there ∙ other in absurd (cc)

count_one : (t : List ℕ) (xs : List (List ℕ)) → AreDifferent xs → length (filter (λ (x : List ℕ). same_name x t) xs) ≤ 1
count_one t [] h = omega arith
count_one t (x ∷ xs) h = go (same_name x t) refl (count_one t xs h.1)
  where
    go : (b : Bool) → same_name x t ≡ b → length (filter (λ (x : List ℕ). same_name x t) xs) ≤ 1
        → length (cond b (x ∷ filter (λ (x : List ℕ). same_name x t) xs) (filter (λ (x : List ℕ). same_name x t) xs)) ≤ 1
    go false e rest = rest
    go true e rest =
        let none : length (filter (λ (x : List ℕ). same_name x t) xs) ≡ 0 =
        count_absent t xs (subst (λ (y : List ℕ). list_any (same_name y) xs ≡ false) (same_name_only x t e) h.0) in
        omega (arith, none)

count_none : (xs : List (List ℕ)) → length (filter (λ (x : List ℕ). false) xs) ≡ 0
count_none [] = refl
count_none (x ∷ xs) = count_none xs

count_taken : (taken xs : List (List ℕ)) → AreDifferent xs → length (filter (λ (x : List ℕ). list_any (same_name x) taken) xs) ≤ length taken
count_taken [] xs h = let none = count_none xs in omega (arith, none)
count_taken (t ∷ taken) xs h =
    let one = count_one t xs h in
    let more = count_taken taken xs h in
    let both = count_either (λ (x : List ℕ). same_name x t) (λ (x : List ℕ). list_any (same_name x) taken) xs in
    omega (arith, one, more, both)

count_both : (q : List ℕ → Bool) (xs : List (List ℕ)) → length (filter (λ (x : List ℕ). not (q x)) xs) + length (filter q xs) ≡ length xs
count_both q [] = refl
count_both q (x ∷ xs) = go (q x) (count_both q xs)
  where
    go : (b : Bool) → length (filter (λ (x : List ℕ). not (q x)) xs) + length (filter q xs) ≡ length xs
        → length (cond (not b) (x ∷ filter (λ (x : List ℕ). not (q x)) xs) (filter (λ (x : List ℕ). not (q x)) xs)) + length (cond b (x ∷ filter q xs) (filter q xs)) ≡ suc (length xs)
    go true h = omega (arith, h)
    go false h = omega (arith, h)

how_many : (first count : ℕ) → length (map numbered_name (range_with_len first count)) ≡ count
how_many first zero = refl
how_many first (suc count) = ap suc (how_many (first + 1) count)

pub bound_names_are : HasBoundNames
bound_names_are taken depth small =
    let low : 1 + (depth + length taken) ≤ 2 ^ 64 = omega (arith, small) in
    let different : AreDifferent (map numbered_name (range_with_len 1 (depth + length taken))) = all_different 1 (depth + length taken) low in
    let all : length (map numbered_name (range_with_len 1 (depth + length taken))) ≡ depth + length taken = how_many 1 (depth + length taken) in
    let both = count_both (λ (x : List ℕ). list_any (same_name x) taken) (map numbered_name (range_with_len 1 (depth + length taken))) in
    let out = count_taken taken (map numbered_name (range_with_len 1 (depth + length taken))) different in
    record {
      enough = omega (arith, all, both, out);
      named = All-filter (λ (name : List ℕ). not (list_any (same_name name) taken)) IsName (map numbered_name (range_with_len 1 (depth + length taken))) (all_named 1 (depth + length taken) low);
      untaken = all_untaken (λ (name : List ℕ). list_any (same_name name) taken) (map numbered_name (range_with_len 1 (depth + length taken)));
      different = different_filter (λ (name : List ℕ). not (list_any (same_name name) taken)) (map numbered_name (range_with_len 1 (depth + length taken))) different;
    }
