-- The lists of long terms as they are made, step by step.
use Rattle.std.proofs.Common.{ℕ, zero, suc, ◌+◌, ◌-◌, ◌<◌, ◌≤◌, List, ◌∷◌, [], ◌++◌, ◌≡◌, ◌↔◌, ◌⊎◌, inl, inr, refl, sym, ap, ◌∙◌, subst, slice_get, Some, None, Result, Ok, Err, OnOk, IfOk, IsTrue, Contains, map, length, take, get_or, cond, eqb, Bool, true, false, arith}
use Rattle.std.proofs.lemmas.List.{take_more, take_all}
use Rattle.std.proofs.lemmas.List.Elements.{Contains-append_left, Contains-append_right, Contains-append_cases}
use Rattle.std.proofs.lemmas.Bool.Decides.{nat_tests}
use Rattle.hol_terms.specs.Terms.{SimpleType, base_type, function_type, Term, bound, application}
use Rattle.hol_terms.specs.Splits.{letter_of}
use Rattle.expansion_tree.specs.Budgets.{Head}
use Rattle.term_lists.specs.Heads.{head_term, head_type}
use Rattle.term_lists.specs.LongTerms.{IsLongTerm, AreLongTerms}
use Rattle.term_lists.specs.Spines.{types_below, abstraction_over, CanWeigh, IsApplied, IsOneApplied, IsOneWithArgument, IsOneWithRestBelow, IsFrom, IsFromHeads, IsFromIndex, IsFromIndexBelow, IsExtendedBy, applications_of}
use Rattle.term_lists.proofs.SpineLaws.{body_of_long, long_from_body, head_of_long, long_from_heads, long_from_index, weight_not_zero, can_weigh, weight_positive}
use Rattle.term_lists.proofs.Members.{contains-first, contains-cases, contains-none, contains-map, mapped-contains}
use Rattle.term_lists.proofs.Listing.{contains-applications, applications-contain, extended-none, extended-alike, extended-next, extended-append}

pub on_ok : {T E P Q : Type 0} (r : Result T E) → (P → Q) → OnOk r P → OnOk r Q
on_ok (Ok x) f p = f p
on_ok (Err e) f p = p

pub if_ok : {T E : Type 0} {P Q : T → Type 0} (r : Result T E) → ((x : T) → P x → Q x) → IfOk r P → IfOk r Q
if_ok (Ok x) f p = f x p
if_ok (Err e) f p = p

pub on_ok_always : {T E P : Type 0} (r : Result T E) → P → OnOk r P
on_ok_always (Ok x) p = p
on_ok_always (Err e) p = tt

-- the long terms of a type are the abstractions over those of its letter
pub abstracted-all : (types inner : List SimpleType) (given : List Head) (ty : SimpleType) (l weight : ℕ) (bodies terms : List Term)
    → inner ≡ types_below ty types → l ≡ letter_of ty → terms ≡ map (abstraction_over ty) bodies
    → AreLongTerms inner given (base_type l) weight bodies → AreLongTerms types given ty weight terms
abstracted-all types inner given ty l weight bodies terms e letter listed h t = (there, back)
  where
    turned : (b : Term) → IsLongTerm inner given (base_type l) weight b → IsLongTerm (types_below ty types) given (base_type (letter_of ty)) weight b
    turned b x =
        subst (λ (m : ℕ). IsLongTerm (types_below ty types) given (base_type m) weight b) letter
        (subst (λ (q : List SimpleType). IsLongTerm q given (base_type l) weight b) e x)

    returned : (b : Term) → IsLongTerm (types_below ty types) given (base_type (letter_of ty)) weight b → IsLongTerm inner given (base_type l) weight b
    returned b x =
        subst (λ (q : List SimpleType). IsLongTerm q given (base_type l) weight b) (sym e)
        (subst (λ (m : ℕ). IsLongTerm (types_below ty types) given (base_type m) weight b) (sym letter) x)

    there : Contains terms t → IsLongTerm types given ty weight t
    there c =
        let m = contains-map (abstraction_over ty) bodies t (subst (λ (q : List Term). Contains q t) listed c) in
        subst (λ (q : Term). IsLongTerm types given ty weight q) (sym m.2) (long_from_body types given ty weight m.0 (turned m.0 ((h m.0).0 m.1)))

    back : IsLongTerm types given ty weight t → Contains terms t
    back x =
        let b = body_of_long types given ty weight t x in
        let in_bodies : Contains bodies b.0 = (h b.0).1 (returned b.0 b.1) in
        let in_map : Contains (map (abstraction_over ty) bodies) t =
        subst (λ (q : Term). Contains (map (abstraction_over ty) bodies) q) (sym b.2) (mapped-contains (abstraction_over ty) bodies b.0 in_bodies)
        in
        subst (λ (q : List Term). Contains q t) (sym listed) in_map

-- no term weighs nothing
pub none-of_weight_zero : (types : List SimpleType) (given : List Head) (s : SimpleType) (weight : ℕ) → weight ≡ 0 → AreLongTerms types given s weight []
none-of_weight_zero types given s weight z t =
    ((λ c. absurd (contains-none t c)), (λ x. absurd (weight_not_zero types given s t (subst (λ (w : ℕ). IsLongTerm types given s w t) z x))))

-- the long terms of a letter are those from the given heads and those from the bound indices
pub letter-all : (types now : List SimpleType) (given : List Head) (l weight left : ℕ) (start middle terms : List Term) → now ≡ types → weight ≡ suc left
    → start ≡ [] → IsExtendedBy start middle (IsFromHeads types given l left given) → IsExtendedBy middle terms (IsFromIndex now given l left)
    → AreLongTerms types given (base_type l) weight terms
letter-all types now given l weight left start middle terms same e none h x t = (
  (λ c. subst (λ (w : ℕ). IsLongTerm types given (base_type l) w t) (sym e) (there c)),
  (λ y. back (head_of_long types given l left t (subst (λ (w : ℕ). IsLongTerm types given (base_type l) w t) e y))),
)
  where
    k : IsExtendedBy middle terms (IsFromIndex types given l left)
    k = subst (λ (q : List SimpleType). IsExtendedBy middle terms (IsFromIndex q given l left)) same x

    there : Contains terms t → IsLongTerm types given (base_type l) (suc left) t
    there c =
        elim (((k.each) t).0 c) as (λ _. IsLongTerm types given (base_type l) (suc left) t) [
          | inl m ↦ elim (((h.each) t).0 m) as (λ _. IsLongTerm types given (base_type l) (suc left) t) [
            | inl o ↦ absurd (contains-none t (subst (λ (q : List Term). Contains q t) none o))
            | inr p ↦ long_from_heads types given l left t p
          ]
          | inr q ↦ long_from_index types given l left t q
        ]

    back : IsFromHeads types given l left given t ⊎ IsFromIndex types given l left t → Contains terms t
    back (inl p) = ((k.each) t).1 (inl (((h.each) t).1 (inr p)))
    back (inr q) = ((k.each) t).1 (inr q)

-- one more head
pub one_more_head : (types : List SimpleType) (given : List Head) (l left : ℕ) (heads : List Head) (i : ℕ) (h : Head) → i < length heads → h ≡ get_or heads i h
    → (t : Term) → (IsFromHeads types given l left (take i heads) t ⊎ IsFrom types given l left (head_type h) (head_term h) t)
    ↔ IsFromHeads types given l left (take (i + 1) heads) t
one_more_head types given l left heads i h less e t = (there, back)
  where
    longer : take (i + 1) heads ≡ take i heads ++ h ∷ []
    longer = take_more heads i h less ∙ ap (λ (g : Head). take i heads ++ g ∷ []) (sym e)

    there : IsFromHeads types given l left (take i heads) t ⊎ IsFrom types given l left (head_type h) (head_term h) t
        → IsFromHeads types given l left (take (i + 1) heads) t
    there (inl x) =
        (x.0, subst (λ (q : List Head). Contains q x.0) (sym longer) (Contains-append_left (take i heads) (h ∷ []) x.0 x.1), x.2)
    there (inr x) =
        (h, subst (λ (q : List Head). Contains q h) (sym longer) (Contains-append_right (take i heads) (h ∷ []) h (contains-first h h [] refl)), x)

    back : IsFromHeads types given l left (take (i + 1) heads) t
        → IsFromHeads types given l left (take i heads) t ⊎ IsFrom types given l left (head_type h) (head_term h) t
    back x = at_place (Contains-append_cases (take i heads) (h ∷ []) x.0 (subst (λ (q : List Head). Contains q x.0) longer x.1)) x.2
      where
        at_place : Contains (take i heads) x.0 ⊎ Contains (h ∷ []) x.0 → IsFrom types given l left (head_type x.0) (head_term x.0) t
            → IsFromHeads types given l left (take i heads) t ⊎ IsFrom types given l left (head_type h) (head_term h) t
        at_place (inl before) y = inl (x.0, before, y)
        at_place (inr last) y =
            elim (contains-cases h [] x.0 last) as (λ _. IsFromHeads types given l left (take i heads) t ⊎ IsFrom types given l left (head_type h) (head_term h) t) [
              | inl same ↦ inr (subst (λ (g : Head). IsFrom types given l left (head_type g) (head_term g) t) (sym same) y)
              | inr none ↦ absurd (contains-none x.0 none)
            ]

pub heads-next : (types now : List SimpleType) (given : List Head) (l left : ℕ) (heads : List Head) (i : ℕ) (h : Head) (old middle new : List Term)
    → now ≡ types → i < length heads → h ≡ get_or heads i h
    → IsExtendedBy old middle (IsFromHeads types given l left (take i heads)) → IsExtendedBy middle new (IsFrom now given l left (head_type h) (head_term h))
    → IsExtendedBy old new (IsFromHeads types given l left (take (i + 1) heads))
heads-next types now given l left heads i h old middle new same less e before here =
    let moved = subst (λ (q : List SimpleType). IsExtendedBy middle new (IsFrom q given l left (head_type h) (head_term h))) same here in
    extended-next old middle new (IsFromHeads types given l left (take i heads)) (IsFrom types given l left (head_type h) (head_term h))
    (IsFromHeads types given l left (take (i + 1) heads)) (one_more_head types given l left heads i h less e) before moved

pub heads-all : (types : List SimpleType) (given : List Head) (l left : ℕ) (heads : List Head) (i : ℕ) (old new : List Term) → length heads ≤ i
    → IsExtendedBy old new (IsFromHeads types given l left (take i heads)) → IsExtendedBy old new (IsFromHeads types given l left heads)
heads-all types given l left heads i old new past h =
    subst (λ (q : List Head). IsExtendedBy old new (IsFromHeads types given l left q)) (take_all i heads past) h

-- one more index

one_more_index : (types : List SimpleType) (given : List Head) (l left n : ℕ) (s : SimpleType) → slice_get types n ≡ Some s
    → (t : Term) → (IsFromIndexBelow types given l left n t ⊎ IsFrom types given l left s (bound n) t) ↔ IsFromIndexBelow types given l left (n + 1) t
one_more_index types given l left n s at t = (there, back)
  where
    there : IsFromIndexBelow types given l left n t ⊎ IsFrom types given l left s (bound n) t → IsFromIndexBelow types given l left (n + 1) t
    there (inl x) = let less : x.0 < n = x.1 in (x.0, omega arith, x.2, x.3, x.4)
    there (inr x) = (n, omega arith, s, at, x)

    split : (i : ℕ) → i < n + 1 → (i < n) ⊎ (i ≡ n)
    split i less = grind arith

    back : IsFromIndexBelow types given l left (n + 1) t → IsFromIndexBelow types given l left n t ⊎ IsFrom types given l left s (bound n) t
    back (i, less, q, e, x) =
        elim (split i less) as (λ _. IsFromIndexBelow types given l left n t ⊎ IsFrom types given l left s (bound n) t) [
          | inl below ↦ inl (i, below, q, e, x)
          | inr same ↦
              let found : slice_get types n ≡ Some q = ap (slice_get types) (sym same) ∙ e in
              let one : q ≡ s = cc in
              inr (subst (λ (j : ℕ). IsFrom types given l left s (bound j) t) same (subst (λ (r : SimpleType). IsFrom types given l left r (bound i) t) one x))
        ]

pub indices-none : (types : List SimpleType) (given : List Head) (l left : ℕ) (terms : List Term)
    → IsExtendedBy terms terms (IsFromIndexBelow types given l left 0)
indices-none types given l left terms =
    extended-none terms (IsFromIndexBelow types given l left 0) (λ t x. let less : x.0 < 0 = x.1 in absurd (omega arith))

pub indices-next : (types now : List SimpleType) (given : List Head) (l left n m : ℕ) (s : SimpleType) (old middle new : List Term)
    → now ≡ types → slice_get now n ≡ Some s → m ≡ n + 1
    → IsExtendedBy old middle (IsFromIndexBelow types given l left n) → IsExtendedBy middle new (IsFrom now given l left s (bound n))
    → IsExtendedBy old new (IsFromIndexBelow types given l left m)
indices-next types now given l left n m s old middle new same at e before here =
    let moved = subst (λ (q : List SimpleType). IsExtendedBy middle new (IsFrom q given l left s (bound n))) same here in
    let found : slice_get types n ≡ Some s = ap (λ (q : List SimpleType). slice_get q n) (sym same) ∙ at in
    subst (λ (k : ℕ). IsExtendedBy old new (IsFromIndexBelow types given l left k)) (sym e)
    (extended-next old middle new (IsFromIndexBelow types given l left n) (IsFrom types given l left s (bound n))
    (IsFromIndexBelow types given l left (n + 1)) (one_more_index types given l left n s found) before moved)

past_end : (types : List SimpleType) (n i : ℕ) (s : SimpleType) → slice_get types n ≡ None → slice_get types i ≡ Some s → i < n
past_end [] n i s none some = absurd (cc)
past_end (q ∷ types) zero i s none some = absurd (cc)
past_end (q ∷ types) (suc n) zero s none some = omega arith
past_end (q ∷ types) (suc n) (suc i) s none some = let less = past_end types n i s none some in omega arith

pub indices-all : (types now : List SimpleType) (given : List Head) (l left n : ℕ) (old new : List Term) → now ≡ types → slice_get now n ≡ None
    → IsExtendedBy old new (IsFromIndexBelow types given l left n) → IsExtendedBy old new (IsFromIndex types given l left)
indices-all types now given l left n old new same none h =
    let ended : slice_get types n ≡ None = ap (λ (q : List SimpleType). slice_get q n) (sym same) ∙ none in
    extended-alike old new (IsFromIndexBelow types given l left n) (IsFromIndex types given l left)
    (λ t. ((λ x. (x.0, x.2, x.3, x.4)), (λ x. (x.0, past_end types n x.0 x.1 ended x.2, x.1, x.2, x.3)))) h

-- one head

pub head-too_heavy : (types : List SimpleType) (given : List Head) (l left : ℕ) (s r : SimpleType) (f : Term) (terms : List Term) (can : Bool)
    → r ≡ s → IsTrue can ↔ CanWeigh r left → can ≡ false → IsExtendedBy terms terms (IsFrom types given l left s f)
head-too_heavy types given l left s r f terms can e decided no_way =
    extended-none terms (IsFrom types given l left s f) (λ t x.
    let yes : can ≡ true = decided.1 (subst (λ (q : SimpleType). CanWeigh q left) (sym e) (can_weigh types given s left f t x.1)) in
    absurd (cc))

pub head-applied : (types : List SimpleType) (given : List Head) (l left : ℕ) (s r : SimpleType) (f g : Term) (functions old new : List Term)
    → r ≡ s → letter_of r ≡ l → functions ≡ g ∷ [] → g ≡ f → IsExtendedBy old new (IsOneApplied types given r left functions)
    → IsExtendedBy old new (IsFrom types given l left s f)
head-applied types given l left s r f g functions old new e letter one same h =
    let of_one : functions ≡ f ∷ [] = one ∙ ap (λ (q : Term). q ∷ []) same in
    let moved : IsExtendedBy old new (IsOneApplied types given s left (f ∷ [])) =
    subst (λ (q : List Term). IsExtendedBy old new (IsOneApplied types given s left q)) of_one
    (subst (λ (q : SimpleType). IsExtendedBy old new (IsOneApplied types given q left functions)) e h)
    in
    let ends : letter_of s ≡ l = ap letter_of (sym e) ∙ letter in
    extended-alike old new (IsOneApplied types given s left (f ∷ [])) (IsFrom types given l left s f) (λ t. (there ends t, back t)) moved
  where
    there : letter_of s ≡ l → (t : Term) → IsOneApplied types given s left (f ∷ []) t → IsFrom types given l left s f t
    there ends t x =
        elim (contains-cases f [] x.0 x.1) as (λ _. IsFrom types given l left s f t) [
          | inl is_f ↦ (ends, subst (λ (q : Term). IsApplied types given s left q t) (sym is_f) x.2)
          | inr none ↦ absurd (contains-none x.0 none)
        ]

    back : (t : Term) → IsFrom types given l left s f t → IsOneApplied types given s left (f ∷ []) t
    back t x = (f, contains-first f f [] refl, x.1)

-- the arguments of some functions

pub base-applied : (types : List SimpleType) (given : List Head) (l left : ℕ) (functions old new : List Term)
    → new ≡ cond (eqb left 0) (old ++ functions) old → IsExtendedBy old new (IsOneApplied types given (base_type l) left functions)
base-applied types given l left functions old new e = go (eqb left 0) refl e
  where
    go : (b : Bool) → eqb left 0 ≡ b → new ≡ cond b (old ++ functions) old → IsExtendedBy old new (IsOneApplied types given (base_type l) left functions)
    go true test f =
        let none : left ≡ 0 = grind (arith, nat_tests) in
        extended-alike old new (Contains functions) (IsOneApplied types given (base_type l) left functions)
        (λ t. ((λ c. (t, c, (none, refl))), (λ x. subst (λ (q : Term). Contains functions q) (sym x.2.1) x.1)))
        (extended-append old new functions f)
    go false test f =
        subst (λ (q : List Term). IsExtendedBy old q (IsOneApplied types given (base_type l) left functions)) (sym f)
        (extended-none old (IsOneApplied types given (base_type l) left functions) (λ t x.
        let none : left ≡ 0 = x.2.0 in
        let some : eqb left 0 ≡ true = grind (arith, nat_tests) in
        absurd (cc)))

pub rest-too_heavy : (types : List SimpleType) (given : List Head) (r s : SimpleType) (weight rest : ℕ) (functions terms : List Term) (can : Bool)
    → IsTrue can ↔ CanWeigh r rest → can ≡ false → IsExtendedBy terms terms (IsOneWithArgument types given r s weight rest functions)
rest-too_heavy types given r s weight rest functions terms can decided no_way =
    extended-none terms (IsOneWithArgument types given r s weight rest functions) (λ t x.
    let yes : can ≡ true = decided.1 (can_weigh types given r rest (application x.0 x.2) t x.4) in
    absurd (cc))

pub argument-none : (types now : List SimpleType) (given : List Head) (r s : SimpleType) (weight rest : ℕ) (functions arguments terms : List Term)
    → arguments ≡ [] → AreLongTerms types given s weight arguments → IsExtendedBy terms terms (IsOneWithArgument types given r s weight rest functions)
argument-none types now given r s weight rest functions arguments terms e h =
    extended-none terms (IsOneWithArgument types given r s weight rest functions) (λ t x.
    contains-none x.2 (subst (λ (q : List Term). Contains q x.2) e ((h x.2).1 x.3)))

pub argument-all : (types now : List SimpleType) (given : List Head) (r s : SimpleType) (weight rest : ℕ) (functions arguments applied old new : List Term)
    → now ≡ types → applied ≡ applications_of functions arguments → AreLongTerms types given s weight arguments
    → IsExtendedBy old new (IsOneApplied now given r rest applied) → IsExtendedBy old new (IsOneWithArgument types given r s weight rest functions)
argument-all types now given r s weight rest functions arguments applied old new same e h x =
    let moved : IsExtendedBy old new (IsOneApplied types given r rest (applications_of functions arguments)) =
    subst (λ (q : List Term). IsExtendedBy old new (IsOneApplied types given r rest q)) e
    (subst (λ (q : List SimpleType). IsExtendedBy old new (IsOneApplied q given r rest applied)) same x)
    in
    extended-alike old new (IsOneApplied types given r rest (applications_of functions arguments)) (IsOneWithArgument types given r s weight rest functions)
    (λ t. (there t, back t)) moved
  where
    there : (t : Term) → IsOneApplied types given r rest (applications_of functions arguments) t → IsOneWithArgument types given r s weight rest functions t
    there t y =
        let m = contains-applications functions arguments y.0 y.1 in
        (m.0, m.1, m.2.0, (h m.2.0).0 m.2.1, subst (λ (q : Term). IsApplied types given r rest q t) m.2.2 y.2)

    back : (t : Term) → IsOneWithArgument types given r s weight rest functions t → IsOneApplied types given r rest (applications_of functions arguments) t
    back t y = (application y.0 y.2, applications-contain functions arguments y.0 y.2 y.1 ((h y.2).1 y.3), y.4)

-- one more weight of the first argument

pub rests-none : (types : List SimpleType) (given : List Head) (r s : SimpleType) (left : ℕ) (functions terms : List Term)
    → IsExtendedBy terms terms (IsOneWithRestBelow types given r s left functions 0)
rests-none types given r s left functions terms =
    extended-none terms (IsOneWithRestBelow types given r s left functions 0) (λ t x. let less : x.0 < 0 = x.1 in absurd (omega arith))

one_more_rest : (types : List SimpleType) (given : List Head) (r s : SimpleType) (left n : ℕ) (functions : List Term) (t : Term)
    → (IsOneWithRestBelow types given r s left functions n t ⊎ IsOneWithArgument types given r s (left - n) n functions t)
    ↔ IsOneWithRestBelow types given r s left functions (n + 1) t
one_more_rest types given r s left n functions t = (there, back)
  where
    there : IsOneWithRestBelow types given r s left functions n t ⊎ IsOneWithArgument types given r s (left - n) n functions t
        → IsOneWithRestBelow types given r s left functions (n + 1) t
    there (inl x) = let less : x.0 < n = x.1 in (x.0, omega arith, x.2)
    there (inr x) = (n, omega arith, x)

    split : (i : ℕ) → i < n + 1 → (i < n) ⊎ (i ≡ n)
    split i less = grind arith

    back : IsOneWithRestBelow types given r s left functions (n + 1) t
        → IsOneWithRestBelow types given r s left functions n t ⊎ IsOneWithArgument types given r s (left - n) n functions t
    back (i, less, x) =
        elim (split i less) as (λ _. IsOneWithRestBelow types given r s left functions n t ⊎ IsOneWithArgument types given r s (left - n) n functions t) [
          | inl below ↦ inl (i, below, x)
          | inr same ↦ inr (subst (λ (j : ℕ). IsOneWithArgument types given r s (left - j) j functions t) same x)
        ]

pub rests-next : (types now : List SimpleType) (given : List Head) (r s : SimpleType) (left n : ℕ) (functions old middle new : List Term) → now ≡ types
    → IsExtendedBy old middle (IsOneWithRestBelow types given r s left functions n) → IsExtendedBy middle new (IsOneWithArgument now given r s (left - n) n functions)
    → IsExtendedBy old new (IsOneWithRestBelow types given r s left functions (n + 1))
rests-next types now given r s left n functions old middle new same before here =
    let moved = subst (λ (q : List SimpleType). IsExtendedBy middle new (IsOneWithArgument q given r s (left - n) n functions)) same here in
    extended-next old middle new (IsOneWithRestBelow types given r s left functions n) (IsOneWithArgument types given r s (left - n) n functions)
    (IsOneWithRestBelow types given r s left functions (n + 1)) (one_more_rest types given r s left n functions) before moved

pub rests-all : (types : List SimpleType) (given : List Head) (r s : SimpleType) (left n : ℕ) (functions old new : List Term) → n ≡ left
    → IsExtendedBy old new (IsOneWithRestBelow types given r s left functions n) → IsExtendedBy old new (IsOneApplied types given (function_type r s) left functions)
rests-all types given r s left n functions old new e h =
    extended-alike old new (IsOneWithRestBelow types given r s left functions n) (IsOneApplied types given (function_type r s) left functions) (λ t. (there t, back t)) h
  where
    there : (t : Term) → IsOneWithRestBelow types given r s left functions n t → IsOneApplied types given (function_type r s) left functions t
    there t (m, less, x) = (x.0, x.1, (x.2, left - m, m, x.3, omega arith, x.4))

    back : (t : Term) → IsOneApplied types given (function_type r s) left functions t → IsOneWithRestBelow types given r s left functions n t
    back t (f, in_functions, (a, k, m, long_a, sum, x)) =
        let some = weight_positive a in
        let w = long_a.weighs in
        let less : m < n = omega (arith, some, w) in
        let same : k ≡ left - m = omega arith in
        (m, less, (f, in_functions, a, subst (λ (q : ℕ). IsLongTerm types given s q a) same long_a, x))
