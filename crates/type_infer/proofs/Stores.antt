-- Cells that are put after others.
use Rattle.std.proofs.Common.{ℕ, ◌+◌, ◌<◌, ◌≤◌, List, [], ◌∷◌, ◌++◌, length, Bool, true, false, cond, eqb, ltb, ◌≡◌, ◌≢◌, refl, sym, ap, ap₂, ◌∙◌, subst, arith}
use Rattle.std.proofs.lemmas.Bool.Decides.{nat_tests}
use Rattle.std.proofs.lemmas.List.{get_or_append_left, get_or_push, get_or_past, length_push}
use Rattle.hol_terms.specs.Terms.{SimpleType, base_type, function_type}
use Rattle.hol_terms.specs.declared.letters.Letter.{Letter}
use Rattle.type_infer.specs.declared.cells.Cell.{Cell}
use Rattle.type_infer.specs.declared.cells.Cell.TheVariants.{Open, Same, Base, Function}
use Rattle.type_infer.specs.Cells.{HoldsAt, cell_at, Models, IsCell, IsStore, AgreeBelow, Extends, AddsType}

-- below, at or above
pub three_ways : (P : Type 0) (i n : ℕ) → (i < n → P) → (i ≡ n → P) → (n < i → P) → P
three_ways P i n f g h = by_tests (ltb i n) (eqb i n) refl refl
  where
    by_tests : (b c : Bool) → ltb i n ≡ b → eqb i n ≡ c → P
    by_tests true c d e = f (grind (arith, nat_tests))
    by_tests false true d e = g (grind (arith, nat_tests))
    by_tests false false d e = h (grind (arith, nat_tests))

-- what a cell says, under other types

pub is_cell_more : (n m i : ℕ) (c : Cell) → n ≤ m → IsCell n i c → IsCell m i c
is_cell_more n m i Open l h = tt
is_cell_more n m i (Same j) l h = h
is_cell_more n m i (Base letter) l h = tt
is_cell_more n m i (Function j k) l h = let a : j < n = h.0 in let b : k < n = h.1 in (omega arith, omega arith)

pub holds_agree : (n i : ℕ) (c : Cell) (v w : ℕ → SimpleType) → i < n → IsCell n i c → AgreeBelow n w v → HoldsAt v i c → HoldsAt w i c
holds_agree n i Open v w l h agree holds = tt
holds_agree n i (Same j) v w l h agree holds = let a : j < i = h in agree i l ∙ holds ∙ sym (agree j (omega arith))
holds_agree n i (Base letter) v w l h agree holds = agree i l ∙ holds
holds_agree n i (Function j k) v w l h agree holds = agree i l ∙ holds ∙ ap₂ function_type (sym (agree j h.0)) (sym (agree k h.1))

-- the type that a cell gives, and the given one where it is open
abbrev pub value_of : (ℕ → SimpleType) → SimpleType → Cell → SimpleType
value_of v s Open = s
value_of v s (Same j) = v j
value_of v s (Base letter) = base_type letter.byte
value_of v s (Function j k) = function_type (v j) (v k)

-- the types with another one at a number
abbrev pub changed : ℕ → SimpleType → (ℕ → SimpleType) → ℕ → SimpleType
changed n s v i = cond (eqb i n) s (v i)

pub changed_at : (n : ℕ) (s : SimpleType) (v : ℕ → SimpleType) → changed n s v n ≡ s
changed_at n s v = let t : eqb n n ≡ true = grind (arith, nat_tests) in ap (λ (b : Bool). cond b s (v n)) t

pub changed_other : (n : ℕ) (s : SimpleType) (v : ℕ → SimpleType) (i : ℕ) → i ≢ n → changed n s v i ≡ v i
changed_other n s v i other = by_test (eqb i n) refl
  where
    by_test : (b : Bool) → eqb i n ≡ b → changed n s v i ≡ v i
    by_test true e = absurd (other (grind (arith, nat_tests)))
    by_test false e = ap (λ (b : Bool). cond b s (v i)) e

pub changed_below : (n : ℕ) (s : SimpleType) (v : ℕ → SimpleType) → AgreeBelow n (changed n s v) v
changed_below n s v i l = changed_other n s v i (λ e. let f : i ≡ n = e in omega arith)

pub holds_changed : (n : ℕ) (s : SimpleType) (c : Cell) (v : ℕ → SimpleType) → IsCell n n c → HoldsAt (changed n (value_of v s c) v) n c
holds_changed n s Open v h = tt
holds_changed n s (Same j) v h = changed_at n (v j) v ∙ sym (changed_below n (v j) v j h)
holds_changed n s (Base letter) v h = changed_at n (base_type letter.byte) v
holds_changed n s (Function j k) v h =
    let t : SimpleType = function_type (v j) (v k) in
    changed_at n t v ∙ ap₂ function_type (sym (changed_below n t v j h.0)) (sym (changed_below n t v k h.1))

-- one cell more

pub cell_left : (cells : List Cell) (c : Cell) (i : ℕ) → i < length cells → cell_at (cells ++ c ∷ []) i ≡ cell_at cells i
cell_left cells c i l = get_or_append_left cells (c ∷ []) Open i l

pub cell_new : (cells : List Cell) (c : Cell) (i : ℕ) → i ≡ length cells → cell_at (cells ++ c ∷ []) i ≡ c
cell_new cells c i e = get_or_push cells c Open i (sym e)

pub cell_past : (cells : List Cell) (i : ℕ) → length cells ≤ i → cell_at cells i ≡ Open
cell_past cells i l = get_or_past cells i Open l

-- a property of the cells of a list with one more
pub each_pushed : (P : ℕ → Cell → Type 0) (cells : List Cell) (c : Cell) → ((i : ℕ) → P i Open) → ((i : ℕ) → i < length cells → P i (cell_at cells i)) → P (length cells) c
    → (i : ℕ) → P i (cell_at (cells ++ c ∷ []) i)
each_pushed P cells c past each new i =
    three_ways (P i (cell_at (cells ++ c ∷ []) i)) i (length cells)
    (λ l. subst (P i) (sym (cell_left cells c i l)) (each i l))
    (λ e. subst (P i) (sym (cell_new cells c i e)) (let Q : ℕ → Type 0 = λ k. P k c in subst Q (sym e) new))
    (λ l. let more : length (cells ++ c ∷ []) ≤ i = (let same = length_push cells c in omega arith) in
    subst (P i) (sym (cell_past (cells ++ c ∷ []) i more)) (past i))

pub models_front : (v : ℕ → SimpleType) (cells : List Cell) (c : Cell) → Models v (cells ++ c ∷ []) → Models v cells
models_front v cells c h i =
    three_ways (HoldsAt v i (cell_at cells i)) i (length cells)
    (λ l. subst (HoldsAt v i) (cell_left cells c i l) (h i))
    (λ e. subst (HoldsAt v i) (sym (cell_past cells i (let f : i ≡ length cells = e in omega arith))) tt)
    (λ l. subst (HoldsAt v i) (sym (cell_past cells i (omega arith))) tt)

pub models_new : (v : ℕ → SimpleType) (cells : List Cell) (c : Cell) → Models v (cells ++ c ∷ []) → HoldsAt v (length cells) c
models_new v cells c h = subst (HoldsAt v (length cells)) (cell_new cells c (length cells) refl) (h (length cells))

pub models_pushed : (v : ℕ → SimpleType) (s : SimpleType) (cells : List Cell) (c : Cell) → IsStore cells → IsCell (length cells) (length cells) c → Models v cells
    → Models (changed (length cells) (value_of v s c) v) (cells ++ c ∷ [])
models_pushed v s cells c store cell h =
    let w : ℕ → SimpleType = changed (length cells) (value_of v s c) v in
    each_pushed (HoldsAt w) cells c (λ i. tt)
    (λ i l. holds_agree (length cells) i (cell_at cells i) v w l (store i) (changed_below (length cells) (value_of v s c) v) (h i))
    (holds_changed (length cells) s c v cell)

pub store_pushed : (cells : List Cell) (c : Cell) → IsStore cells → IsCell (length cells) (length cells) c → IsStore (cells ++ c ∷ [])
store_pushed cells c store cell =
    let n : ℕ = length (cells ++ c ∷ []) in
    let same : n ≡ length cells + 1 = length_push cells c in
    each_pushed (IsCell n) cells c (λ i. tt)
    (λ i l. is_cell_more (length cells) n i (cell_at cells i) (omega arith) (store i))
    (is_cell_more (length cells) n (length cells) c (omega arith) cell)

pub extends_itself : (cells : List Cell) → Extends cells cells
extends_itself cells = record { longer = omega arith; keeps = λ v h. h; goes_on = λ v h. (v, λ i l. refl, h) }

pub extends_twice : (a b c : List Cell) → Extends a b → Extends b c → Extends a c
extends_twice a b c h k =
    let l : length a ≤ length b = h.longer in
    let m : length b ≤ length c = k.longer in
    record {
      longer = omega arith;
      keeps = λ v g. h.keeps v (k.keeps v g);
      goes_on = λ v g.
          let one = h.goes_on v g in
          let two = k.goes_on one.0 one.2 in
          (two.0, λ i below. two.1 i (omega arith) ∙ one.1 i below, two.2);
    }

pub extends_pushed : (cells : List Cell) (c : Cell) → IsStore cells → IsCell (length cells) (length cells) c → Extends cells (cells ++ c ∷ [])
extends_pushed cells c store cell =
    let same = length_push cells c in
    record {
      longer = omega arith;
      keeps = λ v h. models_front v cells c h;
      goes_on = λ v h. (
        changed (length cells) (value_of v (base_type 79) c) v,
        changed_below (length cells) (value_of v (base_type 79) c) v,
        models_pushed v (base_type 79) cells c store cell h,
      );
    }

-- cells of a type

pub adds_base : (old new : List Cell) (letter : Letter) (i : ℕ) → IsStore old → new ≡ old ++ Base letter ∷ [] → i ≡ length old → AddsType old new (base_type letter.byte) i
adds_base old new letter i store e at =
    let P : List Cell → Type 0 = λ cells. AddsType old cells (base_type letter.byte) (length old) in
    let same = length_push old (Base letter) in
    let here : AddsType old (old ++ Base letter ∷ []) (base_type letter.byte) (length old) =
    record { extends = extends_pushed old (Base letter) store tt; store = store_pushed old (Base letter) store tt; inside = omega arith; gives = λ v h. models_new v old (Base letter) h } in
    let Q : ℕ → Type 0 = λ k. AddsType old new (base_type letter.byte) k in
    subst Q (sym at) (subst P (sym e) here)

pub adds_function : (a b c d : List Cell) (r s : SimpleType) (i j k : ℕ) → AddsType a b r i → AddsType b c s j → d ≡ c ++ Function i j ∷ [] → k ≡ length c
    → AddsType a d (function_type r s) k
adds_function a b c d r s i j k h g e at =
    let l : i < length b = h.inside in
    let m : length b ≤ length c = g.extends.longer in
    let n : j < length c = g.inside in
    let cell : (i < length c) × (j < length c) = (omega arith, n) in
    let same = length_push c (Function i j) in
    let P : List Cell → Type 0 = λ cells. AddsType a cells (function_type r s) (length c) in
    let here : AddsType a (c ++ Function i j ∷ []) (function_type r s) (length c) =
    record {
      extends = extends_twice a c (c ++ Function i j ∷ []) (extends_twice a b c h.extends g.extends) (extends_pushed c (Function i j) g.store cell);
      store = store_pushed c (Function i j) g.store cell;
      inside = omega arith;
      gives = λ v models.
          let inner = models_front v c (Function i j) models in
          models_new v c (Function i j) models ∙ ap₂ function_type (h.gives v (g.extends.keeps v inner)) (g.gives v inner);
    } in
    let Q : ℕ → Type 0 = λ p. AddsType a d (function_type r s) p in
    subst Q (sym at) (subst P (sym e) here)

pub adds_store : (old new : List Cell) (s : SimpleType) (i : ℕ) → AddsType old new s i → IsStore new
adds_store old new s i h = h.store
