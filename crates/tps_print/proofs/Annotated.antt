-- The raw formula of a printed term has the term as its only annotation.
use Rattle.std.proofs.Common.{ℕ, zero, suc, ◌+◌, ◌-◌, ◌<◌, ◌≤◌, max, List, [], ◌∷◌, ◌++◌, Bool, true, false, cond, ◌||◌, map, ◌≡◌, refl, sym, ap, ap₂, subst, ◌∙◌, length, arith, inl, inr, ◌⊎◌, Some, None, slice_get, All}
use Rattle.std.specs.declared.option.Option.{Option}
use Rattle.std.specs.List.{list_any}
use Rattle.std.proofs.lemmas.List.Elements.{All-head, All-tail}
use Rattle.std.proofs.lemmas.Option.{slice_get_within}
use Rattle.hol_terms.specs.Terms.{SimpleType, function_type, truth_type, negation, conjunction, disjunction, implication, forall, exists, Term, free, bound, constant, application, abstraction, Variable}
use Rattle.hol_terms.specs.Collected.{with_variable, with_variables}
use Rattle.hol_terms.specs.Computed.{same_name, same_variable}
use Rattle.hol_terms.specs.FreeVariables.{IsFree, occurrences}
use Rattle.hol_terms.specs.Typing.{Typed}
use Rattle.hol_terms.proofs.Same.{same_name_refl, same_name_only, same_variable_only}
use Rattle.tps_reader.specs.Raws.{RawFormula}
use Rattle.type_infer.specs.Annotations.{Annotation, IsAsked, IsOccurrence, further, innermost, known_type}
use Rattle.tps_print.specs.BoundNames.{binder_depth, free_names}
use Rattle.tps_print.specs.Laws.{AreDifferent, AreNamesFor, HasOneTypeEach, HasOnlyAnnotation}
use Rattle.tps_print.specs.Layouts.{Layout, a_variable, an_index, a_constant, a_negation, a_universal, an_existential, a_conjunction, a_disjunction, an_implication, an_application, an_abstraction, SaysTerm, written_type}
use Rattle.tps_print.specs.Pieces.{name_at}
use Rattle.tps_print.specs.Printed.{names_beside}
use Rattle.tps_print.proofs.Binders.{bound_names_are}

or_parts : (a b : Bool) → (a || b) ≡ false → (a ≡ false) × (b ≡ false)
or_parts false b e = (refl, e)
or_parts true b e = cc

-- the binders around a term

-- a name that is none of the names is bound by no binder
abbrev pub Outside : List (List ℕ) → List Variable → Type 0
Outside names around = (n : List ℕ) → list_any (same_name n) names ≡ false → innermost n around ≡ None

-- the binders around have the first names, the types of the list, and nothing else
pub record Places (names : List (List ℕ)) (d : ℕ) (types : List SimpleType) (around : List Variable) : Type 0 where
  pub different : AreDifferent names
  pub outside : Outside names around
  pub indexed : (i : ℕ) (s : SimpleType) → slice_get types i ≡ Some s → innermost (name_at names (d - i - 1)) around ≡ Some (i, s)
  pub count : length types ≡ d

absent_at : (n : List ℕ) (names : List (List ℕ)) (k : ℕ) → list_any (same_name n) names ≡ false → k < length names → same_name n (name_at names k) ≡ false
absent_at n [] k e h = absurd (omega (arith, h))
absent_at n (x ∷ xs) zero e h = (or_parts (same_name n x) (list_any (same_name n) xs) e).0
absent_at n (x ∷ xs) (suc k) e h = absent_at n xs k (or_parts (same_name n x) (list_any (same_name n) xs) e).1 (omega (arith, h))

apart_at : (names : List (List ℕ)) (i j : ℕ) → AreDifferent names → i < j → j < length names → same_name (name_at names i) (name_at names j) ≡ false
apart_at [] i j diff less h = absurd (omega (arith, h))
apart_at (x ∷ xs) zero zero diff less h = absurd (omega (arith, less))
apart_at (x ∷ xs) zero (suc j) diff less h = absent_at x xs j diff.0 (omega (arith, h))
apart_at (x ∷ xs) (suc i) zero diff less h = absurd (omega (arith, less))
apart_at (x ∷ xs) (suc i) (suc j) diff less h = apart_at xs i j diff.1 (omega (arith, less)) (omega (arith, h))

outside_more : (names : List (List ℕ)) (d : ℕ) (s : SimpleType) (around : List Variable) → Outside names around → d < length names → Outside names ((name_at names d, s) ∷ around)
outside_more names d s around outside h n e =
    ap (λ (b : Bool). cond b (Some (0, s)) (further (innermost n around))) (absent_at n names d e h) ∙ ap further (outside n e)

indexed_more : (names : List (List ℕ)) (d : ℕ) (types : List SimpleType) (s : SimpleType) (around : List Variable) → Places names d types around → d < length names
    → (i : ℕ) (r : SimpleType) → slice_get (s ∷ types) i ≡ Some r → innermost (name_at names (d + 1 - i - 1)) ((name_at names d, s) ∷ around) ≡ Some (i, r)
indexed_more names d types s around places h zero r e =
    let same : s ≡ r = cc in
    let place : d + 1 - 0 - 1 ≡ d = omega arith in
    ap (λ (k : ℕ). innermost (name_at names k) ((name_at names d, s) ∷ around)) place
    ∙ ap (λ (b : Bool). cond b (Some (0, s)) (further (innermost (name_at names d) around))) (same_name_refl (name_at names d))
    ∙ ap (λ (p : SimpleType). Some (0, p)) same
indexed_more names d types s around places h (suc i) r e =
    let within : i < length types = slice_get_within types i r e in
    let count : length types ≡ d = places.count in
    let place : d + 1 - suc i - 1 ≡ d - i - 1 = omega arith in
    let before : d - i - 1 < d = omega (arith, within, count) in
    let one : i + 1 ≡ suc i = omega arith in
    ap (λ (k : ℕ). innermost (name_at names k) ((name_at names d, s) ∷ around)) place
    ∙ ap (λ (b : Bool). cond b (Some (0, s)) (further (innermost (name_at names (d - i - 1)) around))) (apart_at names (d - i - 1) d places.different before h)
    ∙ ap further (places.indexed i r e)
    ∙ ap (λ (k : ℕ). Some (k, r)) one

places_more : (names : List (List ℕ)) (d : ℕ) (types : List SimpleType) (s : SimpleType) (around : List Variable) → Places names d types around → d < length names
    → Places names (d + 1) (s ∷ types) ((name_at names d, s) ∷ around)
places_more names d types s around places h =
    let count : length types ≡ d = places.count in
    record {
      different = places.different;
      outside = outside_more names d s around places.outside h;
      indexed = indexed_more names d types s around places h;
      count = omega (arith, count);
    }

-- how deep the parts are

pub deep_below : (d a high : ℕ) → d + max 0 a ≤ high → d + a ≤ high
deep_below d a high h = omega (arith, h)

pub deep_scope : (d a high : ℕ) → d + max 0 (a + 1) ≤ high → (d + 1 + a ≤ high) × (d < high)
deep_scope d a high h = (omega (arith, h), omega (arith, h))

pub deep_sides : (d a b high : ℕ) → d + max (max 0 a) b ≤ high → (d + a ≤ high) × (d + b ≤ high)
deep_sides d a b high h = (omega (arith, h), omega (arith, h))

pub deep_parts : (d a b high : ℕ) → d + max a b ≤ high → (d + a ≤ high) × (d + b ≤ high)
deep_parts d a b high h = (omega (arith, h), omega (arith, h))

pub deep_body : (d a high : ℕ) → d + (a + 1) ≤ high → (d + 1 + a ≤ high) × (d < high)
deep_body d a high h = (omega (arith, h), omega (arith, h))

-- none of the names is free in the term
abbrev pub Apart : List (List ℕ) → Term → Type 0
Apart names t = (n : List ℕ) (s : SimpleType) → IsFree n s t → list_any (same_name n) names ≡ false

-- each free variable of the term has the type of its name
abbrev pub Given : (List ℕ → SimpleType) → Term → Type 0
Given ty t = (n : List ℕ) (s : SimpleType) → IsFree n s t → ty n ≡ s

asked_written : (earlier : List Variable) (v : Variable) (q : SimpleType) → v.1 ≡ q → IsAsked (written_type earlier v) q
asked_written earlier v q e = by_test (list_any (same_variable v) earlier)
  where
    by_test : (b : Bool) → IsAsked (cond b None (Some v.1)) q
    by_test true = tt
    by_test false = sym e

-- the term is an annotation

pub annotation : (ty : List ℕ → SimpleType) (names : List (List ℕ)) (d : ℕ) (types : List SimpleType) (around earlier : List Variable) (t : Term) (l : Layout t) (q : SimpleType) (v : RawFormula)
    → Places names d types around → d + binder_depth t ≤ length names → Apart names t → Given ty t → Typed types t q → SaysTerm names d earlier t l v → Annotation ty [] around v t q
annotation ty names d types around earlier _ (a_variable n s) q v places deep apart given typed says =
    let P : RawFormula → Type 0 = λ v. Annotation ty [] around v (free n s) q in
    let O : Option (ℕ × SimpleType) → Type 0 = λ o. IsOccurrence ty [] n o (free n s) q in
    let none : innermost n around ≡ None = places.outside n (apart n s (refl, refl)) in
    subst P (sym says.1) (asked_written earlier (n, s) q typed, subst O (sym none) (ap (free n) typed, sym typed ∙ sym (given n s (refl, refl)), tt))
annotation ty names d types around earlier _ (an_index i) q v places deep apart given typed says =
    let P : RawFormula → Type 0 = λ v. Annotation ty [] around v (bound i) q in
    let O : Option (ℕ × SimpleType) → Type 0 = λ o. IsOccurrence ty [] (name_at names (d - i - 1)) o (bound i) q in
    subst P (sym says.1) (tt, subst O (sym (places.indexed i q typed)) (refl, refl))
annotation ty names d types around earlier _ (a_constant c) q v places deep apart given typed says =
    let P : RawFormula → Type 0 = λ v. Annotation ty [] around v (constant c) q in
    subst P (sym says.1) (refl, sym typed)
annotation ty names d types around earlier _ (a_negation s l) q v places deep apart given typed says =
    let P : RawFormula → Type 0 = λ v. Annotation ty [] around v (application (constant negation) s) q in
    let e : function_type truth_type truth_type ≡ function_type q typed.0 = typed.1 in
    let whole : q ≡ truth_type = cc in
    let part : typed.0 ≡ truth_type = cc in
    subst P (sym says.3)
    (s, typed.0, annotation ty names d types around earlier s l typed.0 says.1 places (deep_below d (binder_depth s) (length names) deep) (λ n r h. apart n r (inr h)) (λ n r h. given n r (inr h)) typed.2 says.2, part, whole, refl)
annotation ty names d types around earlier _ (a_universal p s b l) q v places deep apart given typed says =
    let P : RawFormula → Type 0 = λ v. Annotation ty [] around v (application (constant (forall p)) (abstraction s b)) q in
    let e : function_type truth_type (function_type truth_type p) ≡ function_type q typed.0 = typed.1 in
    let f : function_type typed.2.0 s ≡ typed.0 = typed.2.2 in
    let whole : q ≡ truth_type = cc in
    let scope : typed.2.0 ≡ truth_type = cc in
    let same : p ≡ s = cc in
    let inner = deep_scope d (binder_depth b) (length names) deep in
    subst P (sym says.3) (
      s,
      b,
      typed.2.0,
      annotation ty names (d + 1) (s ∷ types) ((name_at names d, s) ∷ around) earlier b l typed.2.0 says.1 (places_more names d types s around places inner.1) inner.0 (λ n r h. apart n r (inr h)) (λ n r h. given n r (inr h)) typed.2.1 says.2,
      refl,
      (scope, ap (λ (x : SimpleType). application (constant (forall x)) (abstraction s b)) same, whole),
    )
annotation ty names d types around earlier _ (an_existential p s b l) q v places deep apart given typed says =
    let P : RawFormula → Type 0 = λ v. Annotation ty [] around v (application (constant (exists p)) (abstraction s b)) q in
    let e : function_type truth_type (function_type truth_type p) ≡ function_type q typed.0 = typed.1 in
    let f : function_type typed.2.0 s ≡ typed.0 = typed.2.2 in
    let whole : q ≡ truth_type = cc in
    let scope : typed.2.0 ≡ truth_type = cc in
    let same : p ≡ s = cc in
    let inner = deep_scope d (binder_depth b) (length names) deep in
    subst P (sym says.3) (
      s,
      b,
      typed.2.0,
      annotation ty names (d + 1) (s ∷ types) ((name_at names d, s) ∷ around) earlier b l typed.2.0 says.1 (places_more names d types s around places inner.1) inner.0 (λ n r h. apart n r (inr h)) (λ n r h. given n r (inr h)) typed.2.1 says.2,
      refl,
      (scope, ap (λ (x : SimpleType). application (constant (exists x)) (abstraction s b)) same, whole),
    )
annotation ty names d types around earlier _ (a_conjunction s t l m) q v places deep apart given typed says =
    let P : RawFormula → Type 0 = λ v. Annotation ty [] around v (application (application (constant conjunction) s) t) q in
    let e : function_type (function_type truth_type truth_type) truth_type ≡ function_type (function_type q typed.0) typed.1.0 = typed.1.1 in
    let whole : q ≡ truth_type = cc in
    let first : typed.1.0 ≡ truth_type = cc in
    let second : typed.0 ≡ truth_type = cc in
    let parts = deep_sides d (binder_depth s) (binder_depth t) (length names) deep in
    subst P (sym says.5) (
      s,
      typed.1.0,
      t,
      typed.0,
      annotation ty names d types around earlier s l typed.1.0 says.1 places parts.0 (λ n r h. apart n r (inl (inr h))) (λ n r h. given n r (inl (inr h))) typed.1.2 says.3,
      annotation ty names d types around (with_variables earlier (occurrences s)) t m typed.0 says.2 places parts.1 (λ n r h. apart n r (inr h)) (λ n r h. given n r (inr h)) typed.2 says.4,
      first,
      second,
      whole,
      refl,
    )
annotation ty names d types around earlier _ (a_disjunction s t l m) q v places deep apart given typed says =
    let P : RawFormula → Type 0 = λ v. Annotation ty [] around v (application (application (constant disjunction) s) t) q in
    let e : function_type (function_type truth_type truth_type) truth_type ≡ function_type (function_type q typed.0) typed.1.0 = typed.1.1 in
    let whole : q ≡ truth_type = cc in
    let first : typed.1.0 ≡ truth_type = cc in
    let second : typed.0 ≡ truth_type = cc in
    let parts = deep_sides d (binder_depth s) (binder_depth t) (length names) deep in
    subst P (sym says.5) (
      s,
      typed.1.0,
      t,
      typed.0,
      annotation ty names d types around earlier s l typed.1.0 says.1 places parts.0 (λ n r h. apart n r (inl (inr h))) (λ n r h. given n r (inl (inr h))) typed.1.2 says.3,
      annotation ty names d types around (with_variables earlier (occurrences s)) t m typed.0 says.2 places parts.1 (λ n r h. apart n r (inr h)) (λ n r h. given n r (inr h)) typed.2 says.4,
      first,
      second,
      whole,
      refl,
    )
annotation ty names d types around earlier _ (an_implication s t l m) q v places deep apart given typed says =
    let P : RawFormula → Type 0 = λ v. Annotation ty [] around v (application (application (constant implication) s) t) q in
    let e : function_type (function_type truth_type truth_type) truth_type ≡ function_type (function_type q typed.0) typed.1.0 = typed.1.1 in
    let whole : q ≡ truth_type = cc in
    let first : typed.1.0 ≡ truth_type = cc in
    let second : typed.0 ≡ truth_type = cc in
    let parts = deep_sides d (binder_depth s) (binder_depth t) (length names) deep in
    subst P (sym says.5) (
      s,
      typed.1.0,
      t,
      typed.0,
      annotation ty names d types around earlier s l typed.1.0 says.1 places parts.0 (λ n r h. apart n r (inl (inr h))) (λ n r h. given n r (inl (inr h))) typed.1.2 says.3,
      annotation ty names d types around (with_variables earlier (occurrences s)) t m typed.0 says.2 places parts.1 (λ n r h. apart n r (inr h)) (λ n r h. given n r (inr h)) typed.2 says.4,
      first,
      second,
      whole,
      refl,
    )
annotation ty names d types around earlier _ (an_application f a plain l m) q v places deep apart given typed says =
    let P : RawFormula → Type 0 = λ v. Annotation ty [] around v (application f a) q in
    let parts = deep_parts d (binder_depth f) (binder_depth a) (length names) deep in
    subst P (sym says.5) (
      f,
      function_type q typed.0,
      a,
      typed.0,
      annotation ty names d types around earlier f l (function_type q typed.0) says.1 places parts.0 (λ n r h. apart n r (inl h)) (λ n r h. given n r (inl h)) typed.1 says.3,
      annotation ty names d types around (with_variables earlier (occurrences f)) a m typed.0 says.2 places parts.1 (λ n r h. apart n r (inr h)) (λ n r h. given n r (inr h)) typed.2 says.4,
      refl,
      refl,
    )
annotation ty names d types around earlier _ (an_abstraction s b l) q v places deep apart given typed says =
    let P : RawFormula → Type 0 = λ v. Annotation ty [] around v (abstraction s b) q in
    let inner = deep_body d (binder_depth b) (length names) deep in
    subst P (sym says.3) (
      s,
      b,
      typed.0,
      annotation ty names (d + 1) (s ∷ types) ((name_at names d, s) ∷ around) earlier b l typed.0 says.1 (places_more names d types s around places inner.1) inner.0 apart given typed.1 says.2,
      refl,
      (refl, sym typed.2),
    )

-- it is the only one, where the free variables have the types of their names

pub only : (ty : List ℕ → SimpleType) (names : List (List ℕ)) (d : ℕ) (types : List SimpleType) (around earlier : List Variable) (t : Term) (l : Layout t) (q : SimpleType) (v : RawFormula) (u : Term) (r : SimpleType)
    → Places names d types around → d + binder_depth t ≤ length names → Apart names t → Given ty t → Typed types t q → SaysTerm names d earlier t l v → Annotation ty [] around v u r → (u ≡ t) × (r ≡ q)
only ty names d types around earlier _ (a_variable n s) q v u r places deep apart given typed says found =
    let P : RawFormula → Type 0 = λ v. Annotation ty [] around v u r in
    let O : Option (ℕ × SimpleType) → Type 0 = λ o. IsOccurrence ty [] n o u r in
    let none : innermost n around ≡ None = places.outside n (apart n s (refl, refl)) in
    let here = subst P says.1 found in
    let occurs = subst O none here.1 in
    let same : r ≡ s = occurs.1 ∙ given n s (refl, refl) in
    (occurs.0 ∙ ap (free n) same, same ∙ typed)
only ty names d types around earlier _ (an_index i) q v u r places deep apart given typed says found =
    let P : RawFormula → Type 0 = λ v. Annotation ty [] around v u r in
    let O : Option (ℕ × SimpleType) → Type 0 = λ o. IsOccurrence ty [] (name_at names (d - i - 1)) o u r in
    let here = subst P says.1 found in
    subst O (places.indexed i q typed) here.1
only ty names d types around earlier _ (a_constant c) q v u r places deep apart given typed says found =
    let P : RawFormula → Type 0 = λ v. Annotation ty [] around v u r in
    let here = subst P says.1 found in
    (here.0, here.1 ∙ typed)
only ty names d types around earlier _ (a_negation s l) q v u r places deep apart given typed says found =
    let P : RawFormula → Type 0 = λ v. Annotation ty [] around v u r in
    let e : function_type truth_type truth_type ≡ function_type q typed.0 = typed.1 in
    let whole : truth_type ≡ q = cc in
    let here = subst P says.3 found in
    let part = only ty names d types around earlier s l typed.0 says.1 here.0 here.1 places (deep_below d (binder_depth s) (length names) deep) (λ n p h. apart n p (inr h)) (λ n p h. given n p (inr h)) typed.2 says.2 here.2 in
    (here.5 ∙ ap (application (constant negation)) part.0, here.4 ∙ whole)
only ty names d types around earlier _ (a_universal p s b l) q v u r places deep apart given typed says found =
    let P : RawFormula → Type 0 = λ v. Annotation ty [] around v u r in
    let e : function_type truth_type (function_type truth_type p) ≡ function_type q typed.0 = typed.1 in
    let f : function_type typed.2.0 s ≡ typed.0 = typed.2.2 in
    let whole : truth_type ≡ q = cc in
    let same : s ≡ p = cc in
    let inner = deep_scope d (binder_depth b) (length names) deep in
    let here = subst P says.3 found in
    let S : SimpleType → Type 0 = λ x. Annotation ty [] ((name_at names d, x) ∷ around) says.1 here.1 here.2 in
    let part = only ty names (d + 1) (s ∷ types) ((name_at names d, s) ∷ around) earlier b l typed.2.0 says.1 here.1 here.2 (places_more names d types s around places inner.1) inner.0 (λ n p h. apart n p (inr h)) (λ n p h. given n p (inr h)) typed.2.1 says.2 (subst S here.4 here.3) in (
      here.5.1 ∙ ap₂ (λ (x : SimpleType) (y : Term). application (constant (forall x)) (abstraction x y)) here.4 part.0 ∙ ap (λ (x : SimpleType). application (constant (forall x)) (abstraction s b)) same,
      here.5.2 ∙ whole,
    )
only ty names d types around earlier _ (an_existential p s b l) q v u r places deep apart given typed says found =
    let P : RawFormula → Type 0 = λ v. Annotation ty [] around v u r in
    let e : function_type truth_type (function_type truth_type p) ≡ function_type q typed.0 = typed.1 in
    let f : function_type typed.2.0 s ≡ typed.0 = typed.2.2 in
    let whole : truth_type ≡ q = cc in
    let same : s ≡ p = cc in
    let inner = deep_scope d (binder_depth b) (length names) deep in
    let here = subst P says.3 found in
    let S : SimpleType → Type 0 = λ x. Annotation ty [] ((name_at names d, x) ∷ around) says.1 here.1 here.2 in
    let part = only ty names (d + 1) (s ∷ types) ((name_at names d, s) ∷ around) earlier b l typed.2.0 says.1 here.1 here.2 (places_more names d types s around places inner.1) inner.0 (λ n p h. apart n p (inr h)) (λ n p h. given n p (inr h)) typed.2.1 says.2 (subst S here.4 here.3) in (
      here.5.1 ∙ ap₂ (λ (x : SimpleType) (y : Term). application (constant (exists x)) (abstraction x y)) here.4 part.0 ∙ ap (λ (x : SimpleType). application (constant (exists x)) (abstraction s b)) same,
      here.5.2 ∙ whole,
    )
only ty names d types around earlier _ (a_conjunction s t l m) q v u r places deep apart given typed says found =
    let P : RawFormula → Type 0 = λ v. Annotation ty [] around v u r in
    let e : function_type (function_type truth_type truth_type) truth_type ≡ function_type (function_type q typed.0) typed.1.0 = typed.1.1 in
    let whole : truth_type ≡ q = cc in
    let parts = deep_sides d (binder_depth s) (binder_depth t) (length names) deep in
    let here = subst P says.5 found in
    let left = only ty names d types around earlier s l typed.1.0 says.1 here.0 here.1 places parts.0 (λ n p h. apart n p (inl (inr h))) (λ n p h. given n p (inl (inr h))) typed.1.2 says.3 here.4 in
    let right = only ty names d types around (with_variables earlier (occurrences s)) t m typed.0 says.2 here.2 here.3 places parts.1 (λ n p h. apart n p (inr h)) (λ n p h. given n p (inr h)) typed.2 says.4 here.5 in
    (here.9 ∙ ap₂ (λ (x y : Term). application (application (constant conjunction) x) y) left.0 right.0, here.8 ∙ whole)
only ty names d types around earlier _ (a_disjunction s t l m) q v u r places deep apart given typed says found =
    let P : RawFormula → Type 0 = λ v. Annotation ty [] around v u r in
    let e : function_type (function_type truth_type truth_type) truth_type ≡ function_type (function_type q typed.0) typed.1.0 = typed.1.1 in
    let whole : truth_type ≡ q = cc in
    let parts = deep_sides d (binder_depth s) (binder_depth t) (length names) deep in
    let here = subst P says.5 found in
    let left = only ty names d types around earlier s l typed.1.0 says.1 here.0 here.1 places parts.0 (λ n p h. apart n p (inl (inr h))) (λ n p h. given n p (inl (inr h))) typed.1.2 says.3 here.4 in
    let right = only ty names d types around (with_variables earlier (occurrences s)) t m typed.0 says.2 here.2 here.3 places parts.1 (λ n p h. apart n p (inr h)) (λ n p h. given n p (inr h)) typed.2 says.4 here.5 in
    (here.9 ∙ ap₂ (λ (x y : Term). application (application (constant disjunction) x) y) left.0 right.0, here.8 ∙ whole)
only ty names d types around earlier _ (an_implication s t l m) q v u r places deep apart given typed says found =
    let P : RawFormula → Type 0 = λ v. Annotation ty [] around v u r in
    let e : function_type (function_type truth_type truth_type) truth_type ≡ function_type (function_type q typed.0) typed.1.0 = typed.1.1 in
    let whole : truth_type ≡ q = cc in
    let parts = deep_sides d (binder_depth s) (binder_depth t) (length names) deep in
    let here = subst P says.5 found in
    let left = only ty names d types around earlier s l typed.1.0 says.1 here.0 here.1 places parts.0 (λ n p h. apart n p (inl (inr h))) (λ n p h. given n p (inl (inr h))) typed.1.2 says.3 here.4 in
    let right = only ty names d types around (with_variables earlier (occurrences s)) t m typed.0 says.2 here.2 here.3 places parts.1 (λ n p h. apart n p (inr h)) (λ n p h. given n p (inr h)) typed.2 says.4 here.5 in
    (here.9 ∙ ap₂ (λ (x y : Term). application (application (constant implication) x) y) left.0 right.0, here.8 ∙ whole)
only ty names d types around earlier _ (an_application f a plain l m) q v u r places deep apart given typed says found =
    let P : RawFormula → Type 0 = λ v. Annotation ty [] around v u r in
    let parts = deep_parts d (binder_depth f) (binder_depth a) (length names) deep in
    let here = subst P says.5 found in
    let left = only ty names d types around earlier f l (function_type q typed.0) says.1 here.0 here.1 places parts.0 (λ n p h. apart n p (inl h)) (λ n p h. given n p (inl h)) typed.1 says.3 here.4 in
    let right = only ty names d types around (with_variables earlier (occurrences f)) a m typed.0 says.2 here.2 here.3 places parts.1 (λ n p h. apart n p (inr h)) (λ n p h. given n p (inr h)) typed.2 says.4 here.5 in
    let e : function_type r here.3 ≡ function_type q typed.0 = sym here.6 ∙ left.1 in
    let whole : r ≡ q = cc in
    (here.7 ∙ ap₂ application left.0 right.0, whole)
only ty names d types around earlier _ (an_abstraction s b l) q v u r places deep apart given typed says found =
    let P : RawFormula → Type 0 = λ v. Annotation ty [] around v u r in
    let inner = deep_body d (binder_depth b) (length names) deep in
    let here = subst P says.3 found in
    let S : SimpleType → Type 0 = λ x. Annotation ty [] ((name_at names d, x) ∷ around) says.1 here.1 here.2 in
    let part = only ty names (d + 1) (s ∷ types) ((name_at names d, s) ∷ around) earlier b l typed.0 says.1 here.1 here.2 (places_more names d types s around places inner.1) inner.0 apart given typed.1 says.2 (subst S here.4 here.3) in
    (here.5.0 ∙ ap₂ abstraction here.4 part.0, here.5.1 ∙ ap₂ function_type part.1 here.4 ∙ typed.2)

-- free variables are written with their types

-- the variable stands in the list
abbrev pub In : Variable → List Variable → Type 0
In v [] = ⊥
In v (w ∷ ws) = (w ≡ v) ⊎ In v ws

in_both : (v : Variable) (xs ys : List Variable) → In v xs ⊎ In v ys → In v (xs ++ ys)
in_both v [] ys (inl h) = absurd h
in_both v [] ys (inr h) = h
in_both v (x ∷ xs) ys (inl (inl e)) = inl e
in_both v (x ∷ xs) ys (inl (inr h)) = inr (in_both v xs ys (inl h))
in_both v (x ∷ xs) ys (inr h) = inr (in_both v xs ys (inr h))

in_parts : (v : Variable) (xs ys : List Variable) → In v (xs ++ ys) → In v xs ⊎ In v ys
in_parts v [] ys h = inr h
in_parts v (x ∷ xs) ys (inl e) = inl (inl e)
in_parts v (x ∷ xs) ys (inr h) = elim (in_parts v xs ys h) [ inl k ↦ inl (inr k) | inr k ↦ inr k ]

free_in : (n : List ℕ) (s : SimpleType) (t : Term) → IsFree n s t → In (n, s) (occurrences t)
free_in n s (free m r) h = inl (λ i. (sym h.0 i, sym h.1 i))
free_in n s (bound i) h = absurd h
free_in n s (constant c) h = absurd h
free_in n s (application f a) (inl h) = in_both (n, s) (occurrences f) (occurrences a) (inl (free_in n s f h))
free_in n s (application f a) (inr h) = in_both (n, s) (occurrences f) (occurrences a) (inr (free_in n s a h))
free_in n s (abstraction r b) h = free_in n s b h

in_free : (n : List ℕ) (s : SimpleType) (t : Term) → In (n, s) (occurrences t) → IsFree n s t
in_free n s (free m r) (inl e) = (ap (λ (v : Variable). v.0) (sym e), ap (λ (v : Variable). v.1) (sym e))
in_free n s (free m r) (inr h) = absurd h
in_free n s (bound i) h = absurd h
in_free n s (constant c) h = absurd h
in_free n s (application f a) h = elim (in_parts (n, s) (occurrences f) (occurrences a) h) [ inl k ↦ inl (in_free n s f k) | inr k ↦ inr (in_free n s a k) ]
in_free n s (abstraction r b) h = in_free n s b h

any_in : (v : Variable) (xs : List Variable) → list_any (same_variable v) xs ≡ true → In v xs
any_in v [] e = absurd (let no : false ≡ true = e in cc)
any_in v (x ∷ xs) e = by_test (same_variable v x) refl e (any_in v xs)
  where
    by_test : (b : Bool) → same_variable v x ≡ b → (b || list_any (same_variable v) xs) ≡ true → (list_any (same_variable v) xs ≡ true → In v xs) → In v (x ∷ xs)
    by_test true f e rest = inl (sym (same_variable_only v x f))
    by_test false f e rest = inr (rest e)

-- what stands among collected variables stood there before, or is one of those that are collected
collected_in : (v : Variable) (earlier xs : List Variable) → In v (with_variables earlier xs) → In v earlier ⊎ In v xs
collected_in v earlier [] h = inl h
collected_in v earlier (x ∷ xs) h = go (list_any (same_variable x) earlier) (collected_in v (with_variable earlier x) xs h)
  where
    go : (b : Bool) → In v (cond b earlier (earlier ++ x ∷ [])) ⊎ In v xs → In v earlier ⊎ In v (x ∷ xs)
    go true (inl k) = inl k
    go true (inr k) = inr (inr k)
    go false (inl k) = elim (in_parts v earlier (x ∷ []) k) [ inl j ↦ inl j | inr j ↦ elim j [ inl e ↦ inr (inl e) | inr none ↦ absurd none ] ]
    go false (inr k) = inr (inr k)

-- after a first part: a variable that stands earlier stands before both, or is free in the first part
behind_first : (X : Type 0) (n : List ℕ) (s : SimpleType) (earlier : List Variable) (f : Term)
    → (IsFree n s f → In (n, s) earlier ⊎ X) → In (n, s) (with_variables earlier (occurrences f)) ⊎ X → In (n, s) earlier ⊎ X
behind_first X n s earlier f first (inr x) = inr x
behind_first X n s earlier f first (inl h) = elim (collected_in (n, s) earlier (occurrences f) h) [ inl k ↦ inl k | inr k ↦ first (in_free n s f k) ]

pub written_types : (ty : List ℕ → SimpleType) (names : List (List ℕ)) (d : ℕ) (around earlier : List Variable) (t : Term) (l : Layout t) (v : RawFormula) (u : Term) (r : SimpleType)
    → Outside names around → d + binder_depth t ≤ length names → Apart names t → SaysTerm names d earlier t l v → Annotation ty [] around v u r
    → (n : List ℕ) (s : SimpleType) → IsFree n s t → In (n, s) earlier ⊎ (ty n ≡ s)
written_types ty names d around earlier _ (a_variable m p) v u r outside deep apart says found n s h =
    let P : RawFormula → Type 0 = λ v. Annotation ty [] around v u r in
    let O : Option (ℕ × SimpleType) → Type 0 = λ o. IsOccurrence ty [] m o u r in
    let none : innermost m around ≡ None = outside m (apart m p (refl, refl)) in
    let here = subst P says.1 found in
    let occurs = subst O none here.1 in
    by_test (list_any (same_variable (m, p)) earlier) refl here.0 occurs.1
  where
    by_test : (b : Bool) → list_any (same_variable (m, p)) earlier ≡ b → IsAsked (cond b None (Some p)) r → r ≡ ty m → In (n, s) earlier ⊎ (ty n ≡ s)
    by_test true e asked named = let same : (m, p) ≡ (n, s) = λ i. (sym h.0 i, sym h.1 i) in inl (subst (λ (w : Variable). In w earlier) same (any_in (m, p) earlier e))
    by_test false e asked named = inr (ap ty h.0 ∙ sym named ∙ asked ∙ sym h.1)
written_types ty names d around earlier _ (an_index i) v u r outside deep apart says found n s h = absurd h
written_types ty names d around earlier _ (a_constant c) v u r outside deep apart says found n s h = absurd h
written_types ty names d around earlier _ (a_negation t l) v u r outside deep apart says found n s (inl h) = absurd h
written_types ty names d around earlier _ (a_negation t l) v u r outside deep apart says found n s (inr h) =
    let P : RawFormula → Type 0 = λ v. Annotation ty [] around v u r in
    let here = subst P says.3 found in
    written_types ty names d around earlier t l says.1 here.0 here.1 outside (deep_below d (binder_depth t) (length names) deep) (λ n p h. apart n p (inr h)) says.2 here.2 n s h
written_types ty names d around earlier _ (a_universal p q b l) v u r outside deep apart says found n s (inl h) = absurd h
written_types ty names d around earlier _ (a_universal p q b l) v u r outside deep apart says found n s (inr h) =
    let P : RawFormula → Type 0 = λ v. Annotation ty [] around v u r in
    let here = subst P says.3 found in
    let inner = deep_scope d (binder_depth b) (length names) deep in
    written_types ty names (d + 1) ((name_at names d, here.0) ∷ around) earlier b l says.1 here.1 here.2 (outside_more names d here.0 around outside inner.1) inner.0 (λ n p h. apart n p (inr h)) says.2 here.3 n s h
written_types ty names d around earlier _ (an_existential p q b l) v u r outside deep apart says found n s (inl h) = absurd h
written_types ty names d around earlier _ (an_existential p q b l) v u r outside deep apart says found n s (inr h) =
    let P : RawFormula → Type 0 = λ v. Annotation ty [] around v u r in
    let here = subst P says.3 found in
    let inner = deep_scope d (binder_depth b) (length names) deep in
    written_types ty names (d + 1) ((name_at names d, here.0) ∷ around) earlier b l says.1 here.1 here.2 (outside_more names d here.0 around outside inner.1) inner.0 (λ n p h. apart n p (inr h)) says.2 here.3 n s h
written_types ty names d around earlier _ (a_conjunction f a l m) v u r outside deep apart says found n s h =
    let P : RawFormula → Type 0 = λ v. Annotation ty [] around v u r in
    let here = subst P says.5 found in
    let parts = deep_sides d (binder_depth f) (binder_depth a) (length names) deep in
    let first : IsFree n s f → In (n, s) earlier ⊎ (ty n ≡ s) = written_types ty names d around earlier f l says.1 here.0 here.1 outside parts.0 (λ n p h. apart n p (inl (inr h))) says.3 here.4 n s in
    let second : IsFree n s a → In (n, s) (with_variables earlier (occurrences f)) ⊎ (ty n ≡ s) =
    written_types ty names d around (with_variables earlier (occurrences f)) a m says.2 here.2 here.3 outside parts.1 (λ n p h. apart n p (inr h)) says.4 here.5 n s in
    go first second h
  where
    go : (IsFree n s f → In (n, s) earlier ⊎ (ty n ≡ s)) → (IsFree n s a → In (n, s) (with_variables earlier (occurrences f)) ⊎ (ty n ≡ s)) → (⊥ ⊎ IsFree n s f) ⊎ IsFree n s a
        → In (n, s) earlier ⊎ (ty n ≡ s)
    go first second (inl (inl h)) = absurd h
    go first second (inl (inr h)) = first h
    go first second (inr h) = behind_first (ty n ≡ s) n s earlier f first (second h)
written_types ty names d around earlier _ (a_disjunction f a l m) v u r outside deep apart says found n s h =
    let P : RawFormula → Type 0 = λ v. Annotation ty [] around v u r in
    let here = subst P says.5 found in
    let parts = deep_sides d (binder_depth f) (binder_depth a) (length names) deep in
    let first : IsFree n s f → In (n, s) earlier ⊎ (ty n ≡ s) = written_types ty names d around earlier f l says.1 here.0 here.1 outside parts.0 (λ n p h. apart n p (inl (inr h))) says.3 here.4 n s in
    let second : IsFree n s a → In (n, s) (with_variables earlier (occurrences f)) ⊎ (ty n ≡ s) =
    written_types ty names d around (with_variables earlier (occurrences f)) a m says.2 here.2 here.3 outside parts.1 (λ n p h. apart n p (inr h)) says.4 here.5 n s in
    go first second h
  where
    go : (IsFree n s f → In (n, s) earlier ⊎ (ty n ≡ s)) → (IsFree n s a → In (n, s) (with_variables earlier (occurrences f)) ⊎ (ty n ≡ s)) → (⊥ ⊎ IsFree n s f) ⊎ IsFree n s a
        → In (n, s) earlier ⊎ (ty n ≡ s)
    go first second (inl (inl h)) = absurd h
    go first second (inl (inr h)) = first h
    go first second (inr h) = behind_first (ty n ≡ s) n s earlier f first (second h)
written_types ty names d around earlier _ (an_implication f a l m) v u r outside deep apart says found n s h =
    let P : RawFormula → Type 0 = λ v. Annotation ty [] around v u r in
    let here = subst P says.5 found in
    let parts = deep_sides d (binder_depth f) (binder_depth a) (length names) deep in
    let first : IsFree n s f → In (n, s) earlier ⊎ (ty n ≡ s) = written_types ty names d around earlier f l says.1 here.0 here.1 outside parts.0 (λ n p h. apart n p (inl (inr h))) says.3 here.4 n s in
    let second : IsFree n s a → In (n, s) (with_variables earlier (occurrences f)) ⊎ (ty n ≡ s) =
    written_types ty names d around (with_variables earlier (occurrences f)) a m says.2 here.2 here.3 outside parts.1 (λ n p h. apart n p (inr h)) says.4 here.5 n s in
    go first second h
  where
    go : (IsFree n s f → In (n, s) earlier ⊎ (ty n ≡ s)) → (IsFree n s a → In (n, s) (with_variables earlier (occurrences f)) ⊎ (ty n ≡ s)) → (⊥ ⊎ IsFree n s f) ⊎ IsFree n s a
        → In (n, s) earlier ⊎ (ty n ≡ s)
    go first second (inl (inl h)) = absurd h
    go first second (inl (inr h)) = first h
    go first second (inr h) = behind_first (ty n ≡ s) n s earlier f first (second h)
written_types ty names d around earlier _ (an_application f a plain l m) v u r outside deep apart says found n s h =
    let P : RawFormula → Type 0 = λ v. Annotation ty [] around v u r in
    let here = subst P says.5 found in
    let parts = deep_parts d (binder_depth f) (binder_depth a) (length names) deep in
    let first : IsFree n s f → In (n, s) earlier ⊎ (ty n ≡ s) = written_types ty names d around earlier f l says.1 here.0 here.1 outside parts.0 (λ n p h. apart n p (inl h)) says.3 here.4 n s in
    let second : IsFree n s a → In (n, s) (with_variables earlier (occurrences f)) ⊎ (ty n ≡ s) =
    written_types ty names d around (with_variables earlier (occurrences f)) a m says.2 here.2 here.3 outside parts.1 (λ n p h. apart n p (inr h)) says.4 here.5 n s in
    go first second h
  where
    go : (IsFree n s f → In (n, s) earlier ⊎ (ty n ≡ s)) → (IsFree n s a → In (n, s) (with_variables earlier (occurrences f)) ⊎ (ty n ≡ s)) → IsFree n s f ⊎ IsFree n s a
        → In (n, s) earlier ⊎ (ty n ≡ s)
    go first second (inl h) = first h
    go first second (inr h) = behind_first (ty n ≡ s) n s earlier f first (second h)
written_types ty names d around earlier _ (an_abstraction q b l) v u r outside deep apart says found n s h =
    let P : RawFormula → Type 0 = λ v. Annotation ty [] around v u r in
    let here = subst P says.3 found in
    let inner = deep_body d (binder_depth b) (length names) deep in
    written_types ty names (d + 1) ((name_at names d, here.0) ∷ around) earlier b l says.1 here.1 here.2 (outside_more names d here.0 around outside inner.1) inner.0 apart says.2 here.3 n s h

-- the whole

-- the type of a name in a list of variables
abbrev named_type : Option SimpleType → SimpleType
named_type None = truth_type
named_type (Some s) = s

known_in : (n : List ℕ) (s : SimpleType) (vs : List Variable) → In (n, s) vs → (r : SimpleType) × (known_type vs n ≡ Some r) × In (n, r) vs
known_in n s [] h = absurd h
known_in n s (w ∷ ws) h = by_test (same_name n w.0) refl h (known_in n s ws)
  where
    by_test : (b : Bool) → same_name n w.0 ≡ b → (w ≡ (n, s)) ⊎ In (n, s) ws → (In (n, s) ws → (r : SimpleType) × (known_type ws n ≡ Some r) × In (n, r) ws)
        → (r : SimpleType) × (known_type (w ∷ ws) n ≡ Some r) × ((w ≡ (n, r)) ⊎ In (n, r) ws)
    by_test true e k rest = (w.1, ap (λ (b : Bool). cond b (Some w.1) (known_type ws n)) e, inl (let same : n ≡ w.0 = same_name_only n w.0 e in λ i. (sym same i, w.1)))
    by_test false e (inl k) rest =
        let same : same_name n w.0 ≡ true = ap (λ (v : Variable). same_name n v.0) k ∙ same_name_refl n in
        let wrong : true ≡ false = sym same ∙ e in absurd (cc)
    by_test false e (inr k) rest = let found = rest k in (found.0, ap (λ (b : Bool). cond b (Some w.1) (known_type ws n)) e ∙ found.1, inr found.2)

abbrev types_of_names : Term → List ℕ → SimpleType
types_of_names t n = named_type (known_type (occurrences t) n)

given_by : (t : Term) → HasOneTypeEach t → Given (types_of_names t) t
given_by t one n s h = let found = known_in n s (occurrences t) (free_in n s t h) in ap named_type found.1 ∙ one n found.0 s (in_free n found.0 t found.2) h

no_names : (names : List (List ℕ)) → AreDifferent names → Places names 0 [] []
no_names names different = record {
  different = different;
  outside = λ n e. refl;
  indexed = λ i s e. absurd (let no : None ≡ Some s = e in cc);
  count = refl;
}

-- a name of the list is not one of those that have the property that it has not
away : (q : List ℕ → Bool) (names : List (List ℕ)) (n : List ℕ) → All (λ (x : List ℕ). q x ≡ false) names → q n ≡ true → list_any (same_name n) names ≡ false
away q [] n all e = refl
away q (x ∷ xs) n all e = by_test (same_name n x) refl (away q xs n (All-tail (λ (y : List ℕ). q y ≡ false) x xs all) e)
  where
    by_test : (b : Bool) → same_name n x ≡ b → list_any (same_name n) xs ≡ false → (b || list_any (same_name n) xs) ≡ false
    by_test false f rest = rest
    by_test true f rest =
        let here : q x ≡ false = All-head (λ (y : List ℕ). q y ≡ false) x xs all in
        let no : true ≡ false = sym e ∙ ap q (same_name_only n x f) ∙ here in absurd (cc)

in_names : (n : List ℕ) (s : SimpleType) (vs : List Variable) → In (n, s) vs → list_any (same_name n) (map (λ (v : Variable). v.0) vs) ≡ true
in_names n s [] h = absurd h
in_names n s (w ∷ ws) (inl e) = ap (λ (v : Variable). same_name n v.0 || list_any (same_name n) (map (λ (v : Variable). v.0) ws)) e ∙ ap (λ (b : Bool). b || list_any (same_name n) (map (λ (v : Variable). v.0) ws)) (same_name_refl n)
in_names n s (w ∷ ws) (inr h) = or_true (same_name n w.0) (list_any (same_name n) (map (λ (v : Variable). v.0) ws)) (in_names n s ws h)
  where
    or_true : (b c : Bool) → c ≡ true → (b || c) ≡ true
    or_true true c e = refl
    or_true false c e = e

pub annotated : HasOnlyAnnotation
annotated t s l v typed one small says =
    let are : AreNamesFor (free_names t) (binder_depth t) (names_beside t None) = bound_names_are (free_names t) (binder_depth t) small in
    let apart : Apart (names_beside t None) t = λ n r h. away (λ (name : List ℕ). list_any (same_name name) (free_names t)) (names_beside t None) n are.untaken (in_names n r (occurrences t) (free_in n r t h)) in
    let places : Places (names_beside t None) 0 [] [] = no_names (names_beside t None) are.different in
    let deep : 0 + binder_depth t ≤ length (names_beside t None) = omega (arith, are.enough) in
    record {
      annotates = (types_of_names t, s, annotation (types_of_names t) (names_beside t None) 0 [] [] [] t l s v places deep apart (given_by t one) typed says, refl);
      only = λ u found.
          let types : Given found.0 t = λ n r h. elim (written_types found.0 (names_beside t None) 0 [] [] t l v u found.1 places.outside deep apart says found.2 n r h) [ inl k ↦ absurd k | inr k ↦ k ] in
          (only found.0 (names_beside t None) 0 [] [] [] t l s v u found.1 places deep apart types typed says found.2).0;
    }
