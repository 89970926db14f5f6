-- Cells are merged.
use Rattle.std.proofs.Common.{ℕ, zero, suc, ◌+◌, ◌<◌, ◌≤◌, List, [], ◌∷◌, ◌++◌, length, set, Bool, true, false, cond, eqb, ◌≡◌, ◌≢◌, refl, sym, ap, ap₂, ◌∙◌, subst, Some, None, arith, length-append}
use Rattle.std.proofs.lemmas.Bool.Decides.{nat_tests}
use Rattle.std.proofs.lemmas.List.{length-set, get_or-set_same, get_or-set_other}
use Rattle.hol_terms.specs.Terms.{SimpleType, base_type, function_type}
use Rattle.type_infer.specs.declared.cells.Cell.{Cell}
use Rattle.type_infer.specs.declared.cells.Cell.TheVariants.{Open, Same, Base, Function}
use Rattle.type_infer.specs.Cells.{HoldsAt, cell_at, Models, IsCell, IsStore}
use Rattle.type_infer.specs.Merging.{AreBelow, AllSame, IsRoot, StandsFor, Halves, LeadsTo, kept_cell, part_pairs, Merges, root_weight, roots, weight}

-- the number that stands for another

pub stands_for_itself : (cells : List Cell) (start i : ℕ) → ((j : ℕ) → Same j ≡ cell_at cells i → ⊥) → i < length cells
    → ((types : ℕ → SimpleType) → Models types cells → types start ≡ types i) → StandsFor cells start i
stands_for_itself cells start i other inside same = record { inside = inside; is_root = go (cell_at cells i) refl; same = same }
  where
    go : (c : Cell) → c ≡ cell_at cells i → IsRoot (cell_at cells i)
    go Open e = subst IsRoot e tt
    go (Same j) e = absurd (other j e)
    go (Base letter) e = subst IsRoot e tt
    go (Function j k) e = subst IsRoot e tt

pub next_below : (cells : List Cell) (i j : ℕ) → IsStore cells → Same j ≡ cell_at cells i → j < i
next_below cells i j store e = subst (IsCell (length cells) i) (sym e) (store i)

-- pairs

pub all_same_front : (v : ℕ → SimpleType) (xs ys : List (ℕ × ℕ)) → AllSame v (xs ++ ys) → AllSame v xs
all_same_front v [] ys h = tt
all_same_front v (x ∷ xs) ys h = (h.0, all_same_front v xs ys h.1)

pub all_same_back : (v : ℕ → SimpleType) (xs ys : List (ℕ × ℕ)) → AllSame v (xs ++ ys) → AllSame v ys
all_same_back v [] ys h = h
all_same_back v (x ∷ xs) ys h = all_same_back v xs ys h.1

pub all_same_both : (v : ℕ → SimpleType) (xs ys : List (ℕ × ℕ)) → AllSame v xs → AllSame v ys → AllSame v (xs ++ ys)
all_same_both v [] ys h k = k
all_same_both v (x ∷ xs) ys h k = (h.0, all_same_both v xs ys h.1 k)

pub are_below_both : (n : ℕ) (xs ys : List (ℕ × ℕ)) → AreBelow n xs → AreBelow n ys → AreBelow n (xs ++ ys)
are_below_both n [] ys h k = k
are_below_both n (x ∷ xs) ys h k = (h.0, h.1, are_below_both n xs ys h.2 k)

pub are_below_front : (n : ℕ) (xs ys : List (ℕ × ℕ)) → AreBelow n (xs ++ ys) → AreBelow n xs
are_below_front n [] ys h = tt
are_below_front n (x ∷ xs) ys h = (h.0, h.1, are_below_front n xs ys h.2)

pub are_below_back : (n : ℕ) (xs ys : List (ℕ × ℕ)) → AreBelow n (xs ++ ys) → AreBelow n ys
are_below_back n [] ys h = h
are_below_back n (x ∷ xs) ys h = are_below_back n xs ys h.2

-- two cells of one type

result_same : (r s p q : SimpleType) → function_type r s ≡ function_type p q → r ≡ p
result_same r s p q e = cc

argument_same : (r s p q : SimpleType) → function_type r s ≡ function_type p q → s ≡ q
argument_same r s p q e = cc

letters_same : (l m : ℕ) → base_type l ≡ base_type m → l ≡ m
letters_same l m e = cc

some_same : (c d : Cell) → Some c ≡ Some d → c ≡ d
some_same c d e = cc

-- what both say, from what is kept
pub both_from : (v : ℕ → SimpleType) (i j : ℕ) (a b k : Cell) → kept_cell a b ≡ Some k → HoldsAt v i k → v j ≡ v i → AllSame v (part_pairs a b)
    → HoldsAt v i a × HoldsAt v j b
both_from v i j Open Open k e h same parts = (tt, tt)
both_from v i j Open (Same l) k e h same parts = (tt, same ∙ subst (HoldsAt v i) (sym (some_same (Same l) k e)) h)
both_from v i j Open (Base letter) k e h same parts = (tt, same ∙ subst (HoldsAt v i) (sym (some_same (Base letter) k e)) h)
both_from v i j Open (Function l m) k e h same parts = (tt, same ∙ subst (HoldsAt v i) (sym (some_same (Function l m) k e)) h)
both_from v i j (Same l) b k e h same parts = absurd (let f : None ≡ Some k = e in cc)
both_from v i j (Base letter) Open k e h same parts = (subst (HoldsAt v i) (sym (some_same (Base letter) k e)) h, tt)
both_from v i j (Base letter) (Same l) k e h same parts = absurd (let f : None ≡ Some k = e in cc)
both_from v i j (Base letter) (Base other) k e h same parts = by_test (eqb letter.byte other.byte) refl
  where
    by_test : (t : Bool) → eqb letter.byte other.byte ≡ t → (v i ≡ base_type letter.byte) × (v j ≡ base_type other.byte)
    by_test true f =
        let g : Some (Base letter) ≡ Some k = ap (λ (t : Bool). cond t (Some (Base letter)) None) (sym f) ∙ e in
        let holds : v i ≡ base_type letter.byte = subst (HoldsAt v i) (sym (some_same (Base letter) k g)) h in
        let bytes : letter.byte ≡ other.byte = grind (arith, nat_tests) in
        (holds, same ∙ holds ∙ ap base_type bytes)
    by_test false f = absurd (let g : None ≡ Some k = ap (λ (t : Bool). cond t (Some (Base letter)) None) (sym f) ∙ e in cc)
both_from v i j (Base letter) (Function l m) k e h same parts = absurd (let f : None ≡ Some k = e in cc)
both_from v i j (Function l m) Open k e h same parts = (subst (HoldsAt v i) (sym (some_same (Function l m) k e)) h, tt)
both_from v i j (Function l m) (Same n) k e h same parts = absurd (let f : None ≡ Some k = e in cc)
both_from v i j (Function l m) (Base letter) k e h same parts = absurd (let f : None ≡ Some k = e in cc)
both_from v i j (Function l m) (Function n p) k e h same parts =
    let holds : v i ≡ function_type (v l) (v m) = subst (HoldsAt v i) (sym (some_same (Function l m) k e)) h in
    (holds, same ∙ holds ∙ ap₂ function_type parts.0 parts.1.0)

-- what is kept, from what both say
pub both_to : (v : ℕ → SimpleType) (i j : ℕ) (a b k : Cell) → kept_cell a b ≡ Some k → HoldsAt v i a → HoldsAt v j b → v j ≡ v i
    → HoldsAt v i k × AllSame v (part_pairs a b)
both_to v i j Open Open k e ha hb same = (subst (HoldsAt v i) (some_same Open k e) tt, tt)
both_to v i j Open (Same l) k e ha hb same = (subst (HoldsAt v i) (some_same (Same l) k e) (sym same ∙ hb), tt)
both_to v i j Open (Base letter) k e ha hb same = (subst (HoldsAt v i) (some_same (Base letter) k e) (sym same ∙ hb), tt)
both_to v i j Open (Function l m) k e ha hb same = (subst (HoldsAt v i) (some_same (Function l m) k e) (sym same ∙ hb), tt)
both_to v i j (Same l) b k e ha hb same = absurd (let f : None ≡ Some k = e in cc)
both_to v i j (Base letter) Open k e ha hb same = (subst (HoldsAt v i) (some_same (Base letter) k e) ha, tt)
both_to v i j (Base letter) (Same l) k e ha hb same = absurd (let f : None ≡ Some k = e in cc)
both_to v i j (Base letter) (Base other) k e ha hb same = by_test (eqb letter.byte other.byte) refl
  where
    by_test : (t : Bool) → eqb letter.byte other.byte ≡ t → HoldsAt v i k × Unit {0}
    by_test true f =
        let g : Some (Base letter) ≡ Some k = ap (λ (t : Bool). cond t (Some (Base letter)) None) (sym f) ∙ e in
        (subst (HoldsAt v i) (some_same (Base letter) k g) ha, tt)
    by_test false f = absurd (let g : None ≡ Some k = ap (λ (t : Bool). cond t (Some (Base letter)) None) (sym f) ∙ e in cc)
both_to v i j (Base letter) (Function l m) k e ha hb same = absurd (let f : None ≡ Some k = e in cc)
both_to v i j (Function l m) Open k e ha hb same = (subst (HoldsAt v i) (some_same (Function l m) k e) ha, tt)
both_to v i j (Function l m) (Same n) k e ha hb same = absurd (let f : None ≡ Some k = e in cc)
both_to v i j (Function l m) (Base letter) k e ha hb same = absurd (let f : None ≡ Some k = e in cc)
both_to v i j (Function l m) (Function n p) k e ha hb same =
    let whole : function_type (v l) (v m) ≡ function_type (v n) (v p) = sym ha ∙ sym same ∙ hb in
    (subst (HoldsAt v i) (some_same (Function l m) k e) ha, (result_same (v l) (v m) (v n) (v p) whole, (argument_same (v l) (v m) (v n) (v p) whole, tt)))

-- two roots of which none is kept aren't of one type
pub none_apart : (v : ℕ → SimpleType) (i j : ℕ) (a b : Cell) → IsRoot a → IsRoot b → kept_cell a b ≡ None → HoldsAt v i a → HoldsAt v j b → v i ≡ v j → ⊥
none_apart v i j Open b ra rb e ha hb same = let f : Some b ≡ None = e in cc
none_apart v i j (Same l) b ra rb e ha hb same = ra
none_apart v i j (Base letter) Open ra rb e ha hb same = let f : Some (Base letter) ≡ None = e in cc
none_apart v i j (Base letter) (Same l) ra rb e ha hb same = rb
none_apart v i j (Base letter) (Base other) ra rb e ha hb same =
    let bytes : letter.byte ≡ other.byte = letters_same letter.byte other.byte (sym ha ∙ same ∙ hb) in
    let t : eqb letter.byte other.byte ≡ true = grind (arith, nat_tests) in
    let f : Some (Base letter) ≡ None = ap (λ (t : Bool). cond t (Some (Base letter)) None) (sym t) ∙ e in cc
none_apart v i j (Base letter) (Function l m) ra rb e ha hb same = let f : base_type letter.byte ≡ function_type (v l) (v m) = sym ha ∙ same ∙ hb in cc
none_apart v i j (Function l m) Open ra rb e ha hb same = let f : Some (Function l m) ≡ None = e in cc
none_apart v i j (Function l m) (Same n) ra rb e ha hb same = rb
none_apart v i j (Function l m) (Base letter) ra rb e ha hb same = let f : function_type (v l) (v m) ≡ base_type letter.byte = sym ha ∙ same ∙ hb in cc
none_apart v i j (Function l m) (Function n p) ra rb e ha hb same = let f : Some (Function l m) ≡ None = e in cc

kept_root : (a b k : Cell) → IsRoot b → kept_cell a b ≡ Some k → IsRoot k
kept_root Open b k rb e = subst IsRoot (some_same b k e) rb
kept_root (Same j) b k rb e = absurd (let f : None ≡ Some k = e in cc)
kept_root (Base letter) Open k rb e = subst IsRoot (some_same (Base letter) k e) tt
kept_root (Base letter) (Same j) k rb e = absurd rb
kept_root (Base letter) (Base other) k rb e = by_test (eqb letter.byte other.byte) refl
  where
    by_test : (t : Bool) → eqb letter.byte other.byte ≡ t → IsRoot k
    by_test true f = let g : Some (Base letter) ≡ Some k = ap (λ (t : Bool). cond t (Some (Base letter)) None) (sym f) ∙ e in subst IsRoot (some_same (Base letter) k g) tt
    by_test false f = absurd (let g : None ≡ Some k = ap (λ (t : Bool). cond t (Some (Base letter)) None) (sym f) ∙ e in cc)
kept_root (Base letter) (Function j l) k rb e = absurd (let f : None ≡ Some k = e in cc)
kept_root (Function j l) Open k rb e = subst IsRoot (some_same (Function j l) k e) tt
kept_root (Function j l) (Same m) k rb e = absurd rb
kept_root (Function j l) (Base letter) k rb e = absurd (let f : None ≡ Some k = e in cc)
kept_root (Function j l) (Function m n) k rb e = subst IsRoot (some_same (Function j l) k e) tt

-- a cell of the store that isn't the same as another one is one at each place
root_anywhere : (n i j : ℕ) (c : Cell) → IsRoot c → IsCell n i c → IsCell n j c
root_anywhere n i j Open r h = tt
root_anywhere n i j (Same k) r h = absurd r
root_anywhere n i j (Base letter) r h = tt
root_anywhere n i j (Function k l) r h = h

kept_cell_in : (n i j : ℕ) (a b k : Cell) → IsRoot b → kept_cell a b ≡ Some k → IsCell n i a → IsCell n j b → IsCell n i k
kept_cell_in n i j Open b k rb e ha hb = subst (IsCell n i) (some_same b k e) (root_anywhere n j i b rb hb)
kept_cell_in n i j (Same l) b k rb e ha hb = absurd (let f : None ≡ Some k = e in cc)
kept_cell_in n i j (Base letter) Open k rb e ha hb = subst (IsCell n i) (some_same (Base letter) k e) tt
kept_cell_in n i j (Base letter) (Same l) k rb e ha hb = absurd rb
kept_cell_in n i j (Base letter) (Base other) k rb e ha hb = by_test (eqb letter.byte other.byte) refl
  where
    by_test : (t : Bool) → eqb letter.byte other.byte ≡ t → IsCell n i k
    by_test true f = let g : Some (Base letter) ≡ Some k = ap (λ (t : Bool). cond t (Some (Base letter)) None) (sym f) ∙ e in subst (IsCell n i) (some_same (Base letter) k g) tt
    by_test false f = absurd (let g : None ≡ Some k = ap (λ (t : Bool). cond t (Some (Base letter)) None) (sym f) ∙ e in cc)
kept_cell_in n i j (Base letter) (Function l m) k rb e ha hb = absurd (let f : None ≡ Some k = e in cc)
kept_cell_in n i j (Function l m) Open k rb e ha hb = subst (IsCell n i) (some_same (Function l m) k e) ha
kept_cell_in n i j (Function l m) (Same p) k rb e ha hb = absurd rb
kept_cell_in n i j (Function l m) (Base letter) k rb e ha hb = absurd (let f : None ≡ Some k = e in cc)
kept_cell_in n i j (Function l m) (Function p q) k rb e ha hb = subst (IsCell n i) (some_same (Function l m) k e) ha

parts_below : (n i j : ℕ) (a b : Cell) → IsCell n i a → IsCell n j b → AreBelow n (part_pairs a b)
parts_below n i j Open b ha hb = tt
parts_below n i j (Same k) b ha hb = tt
parts_below n i j (Base letter) b ha hb = tt
parts_below n i j (Function k l) Open ha hb = tt
parts_below n i j (Function k l) (Same m) ha hb = tt
parts_below n i j (Function k l) (Base letter) ha hb = tt
parts_below n i j (Function k l) (Function m p) ha hb = (ha.0, hb.0, (ha.1, hb.1, tt))

parts_at_most_two : (a b : Cell) → length (part_pairs a b) ≤ 2
parts_at_most_two Open b = omega arith
parts_at_most_two (Same k) b = omega arith
parts_at_most_two (Base letter) b = omega arith
parts_at_most_two (Function k l) Open = omega arith
parts_at_most_two (Function k l) (Same m) = omega arith
parts_at_most_two (Function k l) (Base letter) = omega arith
parts_at_most_two (Function k l) (Function m p) = omega arith

-- the cells with two of them changed

abbrev pub linked : List Cell → ℕ → ℕ → Cell → List Cell
linked cells low high k = set (set cells low k) high (Same low)

linked_high : (cells : List Cell) (low high : ℕ) (k : Cell) → high < length cells → cell_at (linked cells low high k) high ≡ Same low
linked_high cells low high k l = get_or-set_same (set cells low k) high (Same low) Open (let same : length (set cells low k) ≡ length cells = length-set cells low k in omega arith)

linked_low : (cells : List Cell) (low high : ℕ) (k : Cell) → low < high → high < length cells → cell_at (linked cells low high k) low ≡ k
linked_low cells low high k o l =
    get_or-set_other (set cells low k) high low (Same low) Open (λ e. let f : low ≡ high = e in omega arith)
    ∙ get_or-set_same cells low k Open (omega arith)

linked_other : (cells : List Cell) (low high i : ℕ) (k : Cell) → i ≢ low → i ≢ high → cell_at (linked cells low high k) i ≡ cell_at cells i
linked_other cells low high i k nl nh =
    get_or-set_other (set cells low k) high i (Same low) Open nh ∙ get_or-set_other cells low i k Open nl

pub two_ways : (P : Type 0) (i j : ℕ) → (i ≡ j → P) → (i ≢ j → P) → P
two_ways P i j f g = by_test (eqb i j) refl
  where
    by_test : (b : Bool) → eqb i j ≡ b → P
    by_test true e = f (grind (arith, nat_tests))
    by_test false e = g (λ h. let t : eqb i j ≡ true = grind (arith, nat_tests) in let no : true ≡ false = sym t ∙ e in cc)

-- a property of cells of the changed list, from the three that it is made of, and the other way round
each_linked : (P : ℕ → Cell → Type 0) (cells : List Cell) (low high : ℕ) (k : Cell) → low < high → high < length cells
    → P low k → P high (Same low) → ((i : ℕ) → i ≢ low → i ≢ high → P i (cell_at cells i)) → (i : ℕ) → P i (cell_at (linked cells low high k) i)
each_linked P cells low high k o l at_low at_high rest i =
    let Q : ℕ → Type 0 = λ j. P j (cell_at (linked cells low high k) j) in
    two_ways (P i (cell_at (linked cells low high k) i)) i low
    (λ e. subst Q (sym e) (subst (P low) (sym (linked_low cells low high k o l)) at_low))
    (λ nl. two_ways (P i (cell_at (linked cells low high k) i)) i high
    (λ e. subst Q (sym e) (subst (P high) (sym (linked_high cells low high k l)) at_high))
    (λ nh. subst (P i) (sym (linked_other cells low high i k nl nh)) (rest i nl nh)))

each_unlinked : (P : ℕ → Cell → Type 0) (cells : List Cell) (low high : ℕ) (k : Cell)
    → P low (cell_at cells low) → P high (cell_at cells high) → ((i : ℕ) → P i (cell_at (linked cells low high k) i)) → (i : ℕ) → P i (cell_at cells i)
each_unlinked P cells low high k at_low at_high rest i =
    let Q : ℕ → Type 0 = λ j. P j (cell_at cells j) in
    two_ways (P i (cell_at cells i)) i low
    (λ e. subst Q (sym e) at_low)
    (λ nl. two_ways (P i (cell_at cells i)) i high
    (λ e. subst Q (sym e) at_high)
    (λ nh. subst (P i) (linked_other cells low high i k nl nh) (rest i)))

pub merges_linked : (cells new : List Cell) (pairs left : List (ℕ × ℕ)) (low high : ℕ) (a b k : Cell) → IsStore cells → AreBelow (length cells) pairs → low < high → high < length cells
    → IsRoot (cell_at cells low) → IsRoot (cell_at cells high) → a ≡ cell_at cells low → b ≡ cell_at cells high → Some k ≡ kept_cell a b
    → left ≡ pairs ++ part_pairs a b → new ≡ linked cells low high k
    → Merges cells new ((low, high) ∷ pairs) left
merges_linked cells new pairs left low high a b k store below o l rl rh ea eb e el en =
    let IsMerged : List Cell → List (ℕ × ℕ) → Type 0 = λ (cs : List Cell) (ps : List (ℕ × ℕ)). Merges cells cs ((low, high) ∷ pairs) ps in
    let root_b : IsRoot b = subst IsRoot (sym eb) rh in
    let cell_a : IsCell (length cells) low a = subst (IsCell (length cells) low) (sym ea) (store low) in
    let cell_b : IsCell (length cells) high b = subst (IsCell (length cells) high) (sym eb) (store high) in
    let kept : kept_cell a b ≡ Some k = sym e in
    let long : length (linked cells low high k) ≡ length cells = length-set (set cells low k) high (Same low) ∙ length-set cells low k in
    let Stored : ℕ → Type 0 = λ n. (i : ℕ) → IsCell n i (cell_at (linked cells low high k) i) in
    let here : Merges cells (linked cells low high k) ((low, high) ∷ pairs) (pairs ++ part_pairs a b) = record {
      store = subst Stored (sym long) (each_linked (IsCell (length cells)) cells low high k o l
          (kept_cell_in (length cells) low high a b k root_b kept cell_a cell_b) o (λ i nl nh. store i));
      as_long = long;
      below = subst (λ (n : ℕ). AreBelow n (pairs ++ part_pairs a b)) (sym long) (are_below_both (length cells) pairs (part_pairs a b) below (parts_below (length cells) low high a b cell_a cell_b));
      keeps = λ v h same.
          let at_low = subst (HoldsAt v low) (linked_low cells low high k o l) (h low) in
          let at_high : v high ≡ v low = subst (HoldsAt v high) (linked_high cells low high k l) (h high) in
          let both = both_from v low high a b k kept at_low at_high (all_same_back v pairs (part_pairs a b) same) in (
            each_unlinked (HoldsAt v) cells low high k (subst (HoldsAt v low) ea both.0) (subst (HoldsAt v high) eb both.1) h,
            (sym at_high, all_same_front v pairs (part_pairs a b) same),
          );
      goes_on = λ v h same.
          let both = both_to v low high a b k kept (subst (HoldsAt v low) (sym ea) (h low)) (subst (HoldsAt v high) (sym eb) (h high)) (sym same.0) in (
            each_linked (HoldsAt v) cells low high k o l both.0 (sym same.0) (λ i nl nh. h i),
            all_same_both v pairs (part_pairs a b) same.1 both.1,
          );
    } in
    subst (λ (cs : List Cell). IsMerged cs left) (sym en) (subst (IsMerged (linked cells low high k)) (sym el) here)

pub joined_apart : (cells : List Cell) (low high : ℕ) (a b : Cell) → IsRoot (cell_at cells low) → IsRoot (cell_at cells high) → a ≡ cell_at cells low → b ≡ cell_at cells high → None ≡ kept_cell a b
    → (types : ℕ → SimpleType) → Models types cells → types low ≡ types high → ⊥
joined_apart cells low high a b rl rh ea eb e types h same =
    none_apart types low high a b (subst IsRoot (sym ea) rl) (subst IsRoot (sym eb) rh) (sym e) (subst (HoldsAt types low) (sym ea) (h low)) (subst (HoldsAt types high) (sym eb) (h high)) same

-- what is left to do

roots_set : (cells : List Cell) (i : ℕ) (c : Cell) → i < length cells → roots (set cells i c) + root_weight (cell_at cells i) ≡ roots cells + root_weight c
roots_set [] i c l = absurd (omega arith)
roots_set (x ∷ cells) zero c l = omega arith
roots_set (x ∷ cells) (suc i) c l = let h : roots (set cells i c) + root_weight (cell_at cells i) ≡ roots cells + root_weight c = roots_set cells i c (omega arith) in omega arith

root_weighs : (c : Cell) → IsRoot c → root_weight c ≡ 1
root_weighs Open r = refl
root_weighs (Same j) r = absurd r
root_weighs (Base letter) r = refl
root_weighs (Function j k) r = refl

pub lighter_linked : (cells new : List Cell) (pairs left : List (ℕ × ℕ)) (low high : ℕ) (a b k : Cell) → low < high → high < length cells
    → IsRoot (cell_at cells low) → IsRoot (cell_at cells high) → a ≡ cell_at cells low → b ≡ cell_at cells high → Some k ≡ kept_cell a b
    → left ≡ pairs ++ part_pairs a b → new ≡ linked cells low high k
    → weight new left ≤ weight cells pairs
lighter_linked cells new pairs left low high a b k o l rl rh ea eb e el en =
    let first : roots (set cells low k) + root_weight (cell_at cells low) ≡ roots cells + root_weight k = roots_set cells low k (omega arith) in
    let same : length (set cells low k) ≡ length cells = length-set cells low k in
    let second : roots (linked cells low high k) + root_weight (cell_at (set cells low k) high) ≡ roots (set cells low k) + root_weight (Same low) =
    roots_set (set cells low k) high (Same low) (omega arith) in
    let at_low : root_weight (cell_at cells low) ≡ 1 = root_weighs (cell_at cells low) rl in
    let other : cell_at (set cells low k) high ≡ cell_at cells high = get_or-set_other cells low high k Open (λ e. let f : high ≡ low = e in omega arith) in
    let at_high : root_weight (cell_at (set cells low k) high) ≡ 1 = ap root_weight other ∙ root_weighs (cell_at cells high) rh in
    let at_k : root_weight k ≡ 1 = root_weighs k (kept_root a b k (subst IsRoot (sym eb) rh) (sym e)) in
    let at_same : root_weight (Same low) ≡ 0 = refl in
    let fewer : roots (linked cells low high k) + 1 ≡ roots cells = omega arith in
    let most : length (part_pairs a b) ≤ 2 = parts_at_most_two a b in
    let total : length (pairs ++ part_pairs a b) ≡ length pairs + length (part_pairs a b) = length-append pairs (part_pairs a b) in
    let total_left : length left ≡ length pairs + length (part_pairs a b) = ap length el ∙ total in
    let total_roots : roots new + 1 ≡ roots cells = ap (λ (cs : List Cell). roots cs + 1) en ∙ fewer in
    omega arith

-- the same root needs nothing, and the order of the two doesn't matter

pub merges_itself : (cells : List Cell) (pairs : List (ℕ × ℕ)) (i : ℕ) → IsStore cells → AreBelow (length cells) pairs → Merges cells cells ((i, i) ∷ pairs) pairs
merges_itself cells pairs i store below = record { store = store; as_long = refl; below = below; keeps = λ v h same. (h, (refl, same)); goes_on = λ v h same. (h, same.1) }

pub merges_turned : (cells new : List Cell) (pairs left : List (ℕ × ℕ)) (i j : ℕ) → Merges cells new ((i, j) ∷ pairs) left → Merges cells new ((j, i) ∷ pairs) left
merges_turned cells new pairs left i j h = record {
  store = h.store;
  as_long = h.as_long;
  below = h.below;
  keeps = λ v g same. let k = h.keeps v g same in (k.0, (sym k.1.0, k.1.1));
  goes_on = λ v g same. h.goes_on v g (sym same.0, same.1);
}

-- a pair is taken from the end of the list, and the numbers that stand for its own become the same

pub merges_nothing : (cells : List Cell) (pairs : List (ℕ × ℕ)) → IsStore cells → AreBelow (length cells) pairs → Merges cells cells pairs pairs
merges_nothing cells pairs store below = record { store = store; as_long = refl; below = below; keeps = λ v h same. (h, same); goes_on = λ v h same. (h, same) }

pub merges_on : (first cells new : List Cell) (given pairs left : List (ℕ × ℕ)) (i j : ℕ) → Merges first cells given (pairs ++ (i, j) ∷ [])
    → Merges cells new ((i, j) ∷ pairs) left → Merges first new given left
merges_on first cells new given pairs left i j h step = record {
  store = step.store;
  as_long = step.as_long ∙ h.as_long;
  below = step.below;
  keeps = λ v g same.
      let k = step.keeps v g same in
      h.keeps v k.0 (all_same_both v pairs ((i, j) ∷ []) k.1.1 (k.1.0, tt));
  goes_on = λ v g same.
      let k = h.goes_on v g same in
      let pair = all_same_back v pairs ((i, j) ∷ []) k.1 in
      step.goes_on v k.0 (pair.0, all_same_front v pairs ((i, j) ∷ []) k.1);
}

pub apart_on : (first cells : List Cell) (given pairs : List (ℕ × ℕ)) (i j : ℕ) → Merges first cells given (pairs ++ (i, j) ∷ [])
    → ((types : ℕ → SimpleType) → Models types cells → types i ≡ types j → ⊥) → (types : ℕ → SimpleType) → Models types first → AllSame types given → ⊥
apart_on first cells given pairs i j h apart v g same =
    let k = h.goes_on v g same in
    let pair = all_same_back v pairs ((i, j) ∷ []) k.1 in
    apart v k.0 pair.0

-- shorter ways

pub halves_itself : (cells : List Cell) → IsStore cells → Halves cells cells
halves_itself cells store = record { store = store; as_long = refl; keeps = λ v h. h; goes_on = λ v h. h; roots_kept = λ i r. r; as_many = refl }

pub halves_twice : (a b c : List Cell) → Halves a b → Halves b c → Halves a c
halves_twice a b c h k = record {
  store = k.store;
  as_long = k.as_long ∙ h.as_long;
  keeps = λ v m. h.keeps v (k.keeps v m);
  goes_on = λ v m. k.goes_on v (h.goes_on v m);
  roots_kept = λ i r. k.roots_kept i (h.roots_kept i r);
  as_many = k.as_many ∙ h.as_many;
}

pub halves_step : (cells new : List Cell) (i j k : ℕ) → IsStore cells → i < length cells → Same j ≡ cell_at cells i → Same k ≡ cell_at cells j → new ≡ set cells i (Same k) → Halves cells new
halves_step cells new i j k store l ei ej en =
    let here : List Cell = set cells i (Same k) in
    let long : length here ≡ length cells = length-set cells i (Same k) in
    let at : cell_at here i ≡ Same k = get_or-set_same cells i (Same k) Open l in
    let other : (p : ℕ) → p ≢ i → cell_at here p ≡ cell_at cells p = λ p apart. get_or-set_other cells i p (Same k) Open apart in
    let ji : j < i = next_below cells i j store ei in
    let kj : k < j = next_below cells j k store ej in
    let ki : k < i = omega arith in
    let j_apart : j ≢ i = λ e. (let f : j ≡ i = e in omega arith) in
    let Stored : ℕ → Type 0 = λ n. (p : ℕ) → IsCell n p (cell_at here p) in
    let halves : Halves cells here = record {
      store = subst Stored (sym long) (λ p. two_ways (IsCell (length cells) p (cell_at here p)) p i
          (λ e. let P : ℕ → Type 0 = λ p. IsCell (length cells) p (cell_at here p) in subst P (sym e) (subst (IsCell (length cells) i) (sym at) ki))
          (λ apart. subst (IsCell (length cells) p) (sym (other p apart)) (store p)));
      as_long = long;
      keeps = λ v m p. two_ways (HoldsAt v p (cell_at cells p)) p i
          (λ e.
          let P : ℕ → Type 0 = λ p. HoldsAt v p (cell_at cells p) in
          let vi : v i ≡ v k = subst (HoldsAt v i) at (m i) in
          let vj : v j ≡ v k = subst (HoldsAt v j) (sym ej) (subst (HoldsAt v j) (other j j_apart) (m j)) in
          let same : v i ≡ v j = vi ∙ sym vj in
          subst P (sym e) (subst (HoldsAt v i) ei same))
          (λ apart. subst (HoldsAt v p) (other p apart) (m p));
      goes_on = λ v m p. two_ways (HoldsAt v p (cell_at here p)) p i
          (λ e.
          let P : ℕ → Type 0 = λ p. HoldsAt v p (cell_at here p) in
          let vi : v i ≡ v j = subst (HoldsAt v i) (sym ei) (m i) in
          let vj : v j ≡ v k = subst (HoldsAt v j) (sym ej) (m j) in
          let same : v i ≡ v k = vi ∙ vj in
          subst P (sym e) (subst (HoldsAt v i) (sym at) same))
          (λ apart. subst (HoldsAt v p) (sym (other p apart)) (m p));
      roots_kept = λ p r. two_ways (IsRoot (cell_at here p)) p i
          (λ e. let P : ℕ → Type 0 = λ p. IsRoot (cell_at cells p) in absurd (subst IsRoot (sym ei) (subst P e r)))
          (λ apart. subst IsRoot (sym (other p apart)) r);
      as_many =
          (let sum : roots here + root_weight (cell_at cells i) ≡ roots cells + 0 = roots_set cells i (Same k) l in
          let zero_here : root_weight (cell_at cells i) ≡ 0 = ap root_weight (sym ei) in omega arith);
    } in
    subst (Halves cells) (sym en) halves

pub leads_next : (cells : List Cell) (i j : ℕ) → IsStore cells → Same j ≡ cell_at cells i → LeadsTo cells i j
leads_next cells i j store e = record { lower = next_below cells i j store e; same = λ v m. subst (HoldsAt v i) (sym e) (m i) }

pub leads_after : (cells : List Cell) (i j k : ℕ) → IsStore cells → Same j ≡ cell_at cells i → Same k ≡ cell_at cells j → LeadsTo cells i k
leads_after cells i j k store e f =
    let ji : j < i = next_below cells i j store e in
    let kj : k < j = next_below cells j k store f in
    record { lower = omega arith; same = λ v m. subst (HoldsAt v i) (sym e) (m i) ∙ subst (HoldsAt v j) (sym f) (m j) }

-- the way that has been gone
pub same_on : (cells new : List Cell) (start i j : ℕ) → Halves cells new → LeadsTo cells i j → ((types : ℕ → SimpleType) → Models types cells → types start ≡ types i)
    → (types : ℕ → SimpleType) → Models types new → types start ≡ types j
same_on cells new start i j h leads same v m = same v (h.keeps v m) ∙ leads.same v (h.keeps v m)

pub inside_on : (cells new : List Cell) (i j : ℕ) → Halves cells new → LeadsTo cells i j → i < length cells → j < length new
inside_on cells new i j h leads l = let long : length new ≡ length cells = h.as_long in let lower : j < i = leads.lower in omega arith

-- two numbers by those that stand for them

pub pair_below : (cells new : List Cell) (pairs : List (ℕ × ℕ)) → Halves cells new → AreBelow (length cells) pairs → AreBelow (length new) pairs
pair_below cells new pairs h below = subst (λ (n : ℕ). AreBelow n pairs) (sym h.as_long) below

pub pair_merges : (cells one two new : List Cell) (pairs left : List (ℕ × ℕ)) (i j a b : ℕ) → Halves cells one → StandsFor one i a → Halves one two → StandsFor two j b
    → Merges two new ((a, b) ∷ pairs) left → Merges cells new ((i, j) ∷ pairs) left
pair_merges cells one two new pairs left i j a b h si k sj step = record {
  store = step.store;
  as_long = step.as_long ∙ k.as_long ∙ h.as_long;
  below = step.below;
  keeps = λ v g same.
      let m = step.keeps v g same in
      let m1 = k.keeps v m.0 in
      (h.keeps v m1, (si.same v m1 ∙ m.1.0 ∙ sym (sj.same v m.0), m.1.1));
  goes_on = λ v g same.
      let m1 = h.goes_on v g in
      let m2 = k.goes_on v m1 in
      step.goes_on v m2 (sym (si.same v m1) ∙ same.0 ∙ sj.same v m2, same.1);
}

pub pair_apart : (cells one two : List Cell) (i j a b : ℕ) → Halves cells one → StandsFor one i a → Halves one two → StandsFor two j b
    → ((types : ℕ → SimpleType) → Models types two → types a ≡ types b → ⊥) → (types : ℕ → SimpleType) → Models types cells → types i ≡ types j → ⊥
pair_apart cells one two i j a b h si k sj apart v g same =
    let m1 = h.goes_on v g in
    let m2 = k.goes_on v m1 in
    apart v m2 (sym (si.same v m1) ∙ same ∙ sj.same v m2)

pub pair_lighter : (cells one two new : List Cell) (pairs left : List (ℕ × ℕ)) → Halves cells one → Halves one two → weight new left ≤ weight two pairs → weight new left ≤ weight cells pairs
pair_lighter cells one two new pairs left h k light =
    let a : roots one ≡ roots cells = h.as_many in
    let b : roots two ≡ roots one = k.as_many in omega arith
