-- The table of values beside the steps of a trail.
use Rattle.std.proofs.Common.{ℕ, zero, suc, ◌+◌, ◌<◌, ◌≤◌, List, [], ◌∷◌, ◌++◌, length, Bool, true, ◌≡◌, ◌≢◌, refl, sym, ap, subst, ◌∙◌, slice_get, Option, Some, None, arith, ◌⊎◌, inl, inr}
use Rattle.std.specs.Prelude.{slice_set, reverse}
use Rattle.std.proofs.lemmas.List.{reverse-append}
use Rattle.std.proofs.lemmas.Option.{slice_get_within}
use Rattle.hol_terms.proofs.IndexLaws.{trichotomy}
use Rattle.rulep_decide.specs.declared.trails.Step.{Step}
use Rattle.rulep_decide.specs.Trails.{AreWithin, Has, count_open, IsTable}

equal_or_not : (i j : ℕ) → (i ≡ j) ⊎ (i ≢ j)
equal_or_not i j = elim (trichotomy i j) [ inl l ↦ inr (λ e. omega arith) | inr r ↦ elim r [ inl e ↦ inl e | inr more ↦ inr (λ e. omega arith) ] ]

get_other : (values : List (Option Bool)) (i j : ℕ) (v : Option Bool) → i ≢ j → slice_get (slice_set values i v) j ≡ slice_get values j
get_other [] i j v other = refl
get_other (x ∷ xs) zero zero v other = absurd (other refl)
get_other (x ∷ xs) zero (suc j) v other = refl
get_other (x ∷ xs) (suc i) zero v other = refl
get_other (x ∷ xs) (suc i) (suc j) v other = get_other xs i j v (λ e. other (ap (λ n. suc n) e))

get_here : (values : List (Option Bool)) (i : ℕ) (v w : Option Bool) → slice_get (slice_set values i v) i ≡ Some w → v ≡ w
get_here [] i v w e = cc
get_here (x ∷ xs) zero v w e = cc
get_here (x ∷ xs) (suc i) v w e = get_here xs i v w e

count_filled : (values : List (Option Bool)) (i : ℕ) (b : Bool) → slice_get values i ≡ Some None → count_open values ≡ suc (count_open (slice_set values i (Some b)))
count_filled [] i b e = cc
count_filled (x ∷ xs) zero b e = let first : x ≡ None = cc in ap (λ (x : Option Bool). count_open (x ∷ xs)) first
count_filled (None ∷ xs) (suc i) b e = ap (λ n. suc n) (count_filled xs i b e)
count_filled (Some c ∷ xs) (suc i) b e = count_filled xs i b e

count_opened : (values : List (Option Bool)) (i : ℕ) → count_open (slice_set values i None) ≤ suc (count_open values)
count_opened [] i = omega arith
count_opened (None ∷ xs) zero = omega arith
count_opened (Some c ∷ xs) zero = omega arith
count_opened (None ∷ xs) (suc i) = let h = count_opened xs i in omega arith
count_opened (Some c ∷ xs) (suc i) = count_opened xs i

pub length_set : (values : List (Option Bool)) (i : ℕ) (v : Option Bool) → length (slice_set values i v) ≡ length values
length_set [] i v = refl
length_set (x ∷ xs) zero v = refl
length_set (x ∷ xs) (suc i) v = ap (λ n. suc n) (length_set xs i v)

some_same : (a b : Bool) → Some a ≡ Some b → a ≡ b
some_same a b e = cc

-- a step at a node without a value
pub table_put : (values : List (Option Bool)) (steps : List Step) (s : Step) → IsTable values steps → slice_get values s.node ≡ Some None
    → IsTable (slice_set values s.node (Some s.value)) (s ∷ steps)
table_put values steps s table is_open = record {
  within = subst (λ count. AreWithin count (s ∷ steps)) (sym (length_set values s.node (Some s.value))) (slice_get_within values s.node None is_open, table.within);
  known = λ i b e. by_place i b e (equal_or_not s.node i);
  room = (
      let old : length steps + count_open values ≤ length values = table.room in
      let fewer = count_filled values s.node s.value is_open in
      let same = length_set values s.node (Some s.value) in
      omega arith);
}
  where
    by_place : (i : ℕ) (b : Bool) → slice_get (slice_set values s.node (Some s.value)) i ≡ Some (Some b) → (s.node ≡ i) ⊎ (s.node ≢ i) → Has (s ∷ steps) i b
    by_place i b e (inl here) =
        let at_node : slice_get (slice_set values s.node (Some s.value)) s.node ≡ Some (Some b) =
        ap (λ i. slice_get (slice_set values s.node (Some s.value)) i) here ∙ e in
        inl (here, some_same s.value b (get_here values s.node (Some s.value) (Some b) at_node))
    by_place i b e (inr other) = inr (table.known i b (sym (get_other values s.node i (Some s.value) other) ∙ e))

pub table_room : (values : List (Option Bool)) (steps : List Step) (i : ℕ) → IsTable values steps → slice_get values i ≡ Some None → length steps < length values
table_room values steps i table is_open =
    let old : length steps + count_open values ≤ length values = table.room in
    let some = count_filled values i true is_open in
    omega arith

-- the newest step is taken back
pub table_pop : (values : List (Option Bool)) (steps : List Step) (s : Step) → IsTable values (s ∷ steps) → IsTable (slice_set values s.node None) steps
table_pop values steps s table = record {
  within = subst (λ count. AreWithin count steps) (sym (length_set values s.node None)) (let both : AreWithin (length values) (s ∷ steps) = table.within in both.1);
  known = λ i b e. by_place i b e (equal_or_not s.node i);
  room = (
      let old : suc (length steps) + count_open values ≤ length values = table.room in
      let more = count_opened values s.node in
      let same = length_set values s.node None in
      omega arith);
}
  where
    older : (i : ℕ) (b : Bool) → s.node ≢ i → Has (s ∷ steps) i b → Has steps i b
    older i b other (inl h) = absurd (other h.0)
    older i b other (inr h) = h

    by_place : (i : ℕ) (b : Bool) → slice_get (slice_set values s.node None) i ≡ Some (Some b) → (s.node ≡ i) ⊎ (s.node ≢ i) → Has steps i b
    by_place i b e (inl here) =
        let at_node : slice_get (slice_set values s.node None) s.node ≡ Some (Some b) = ap (λ i. slice_get (slice_set values s.node None) i) here ∙ e in
        let bad : None ≡ Some b = get_here values s.node None (Some b) at_node in
        cc
    by_place i b e (inr other) = older i b other (table.known i b (sym (get_other values s.node i None other) ∙ e))

pub table_pushed : (values : List (Option Bool)) (old new : List Step) (s : Step) → IsTable values (reverse old) → slice_get values s.node ≡ Some None
    → new ≡ old ++ s ∷ [] → IsTable (slice_set values s.node (Some s.value)) (reverse new)
table_pushed values old new s table is_open e =
    subst (IsTable (slice_set values s.node (Some s.value))) (sym (ap (λ (xs : List Step). reverse xs) e ∙ reverse-append old (s ∷ [])))
    (table_put values (reverse old) s table is_open)

-- a table in which all is open

count_most : (values : List (Option Bool)) → count_open values ≤ length values
count_most [] = omega arith
count_most (None ∷ xs) = let h = count_most xs in omega arith
count_most (Some c ∷ xs) = let h = count_most xs in omega arith

all_open : (values : List (Option Bool)) (i : ℕ) (b : Bool) → count_open values ≡ length values → slice_get values i ≢ Some (Some b)
all_open [] i b e h = cc
all_open (None ∷ xs) zero b e h = cc
all_open (None ∷ xs) (suc i) b e h = all_open xs i b (let p : suc (count_open xs) ≡ suc (length xs) = e in omega arith) h
all_open (Some c ∷ xs) i b e h = let most = count_most xs in let p : count_open xs ≡ suc (length xs) = e in absurd (omega arith)

pub table_open : (values : List (Option Bool)) (n : ℕ) → count_open values ≡ n → length values ≡ n → IsTable values []
table_open values n e f = record {
  within = tt;
  known = λ i b h. all_open values i b (e ∙ sym f) h;
  room = omega arith;
}

pub count_one_more : (values : List (Option Bool)) → count_open (values ++ None ∷ []) ≡ suc (count_open values)
count_one_more [] = refl
count_one_more (None ∷ xs) = ap (λ n. suc n) (count_one_more xs)
count_one_more (Some c ∷ xs) = count_one_more xs

reversed_push : (old new : List Step) (s : Step) → new ≡ old ++ s ∷ [] → reverse new ≡ s ∷ reverse old
reversed_push old new s e = ap (λ (xs : List Step). reverse xs) e ∙ reverse-append old (s ∷ [])

pub table_popped : (values : List (Option Bool)) (old new : List Step) (s : Step) → IsTable values (reverse old) → old ≡ new ++ s ∷ []
    → IsTable (slice_set values s.node None) (reverse new)
table_popped values old new s table e = table_pop values (reverse new) s (subst (IsTable values) (reversed_push new old s e) table)

pub newest_within : (values : List (Option Bool)) (old new : List Step) (s : Step) → IsTable values (reverse old) → old ≡ new ++ s ∷ [] → s.node < length values
newest_within values old new s table e =
    let moved : IsTable values (s ∷ reverse new) = subst (IsTable values) (reversed_push new old s e) table in
    let both : AreWithin (length values) (s ∷ reverse new) = moved.within in
    both.0

pub opened_here : (values : List (Option Bool)) (i : ℕ) → i < length values → slice_get (slice_set values i None) i ≡ Some None
opened_here [] i h = absurd (omega arith)
opened_here (x ∷ xs) zero h = refl
opened_here (x ∷ xs) (suc i) h = opened_here xs i (omega arith)
