-- The open terms among those that were found.
use Rattle.std.proofs.Common.{◌≡◌, ◌≤◌, ◌<◌, ℕ, zero, suc, ◌+◌, ◌-◌, ◌==◌, List, [], ◌∷◌, ◌++◌, length, map, Bool, true, false, cond, ◌||◌, Some, drop, get_or, refl, sym, ◌∙◌, subst, ap, ap₂, arith, add-one}
use Rattle.std.specs.Prelude.{Contains, slice_get, nat_eq}
use Rattle.std.specs.List.{AllByRecursion, IsDistinct, filter, list_any}
use Rattle.std.proofs.lemmas.Bool.{eq-eqb, ne_eqb}
use Rattle.std.proofs.lemmas.List.{length-drop, get_or-drop, drop_all, map-append}
use Rattle.std.proofs.lemmas.List.Elements.{filter-append}
use Rattle.std.proofs.lemmas.List.Folds.{list_any_at}
use Rattle.std.proofs.lemmas.Map.Keys.{IsDistinct-head, IsDistinct-tail}
use Rattle.std.proofs.lemmas.Option.{slice_get_read}
use Rattle.refutations.specs.declared.nodes.Front.{Front}
use Rattle.refutations.specs.Opens.{Open, at_node, at_term, open_term}
use Rattle.refutations.specs.Cases.{HasTurnFrom}
use Rattle.refutations.specs.Fronts.{is_waiting, terms_of}

-- a term whose occurrence has its turn then
abbrev pub IsTermFrom : List ℕ → ℕ → Open → Type 0
IsTermFrom order done (at_node n) = ⊥
IsTermFrom order done (at_term u n) = HasTurnFrom order done n.place.occurrences

-- a test of two numbers that fails also fails the other way round
other : (k e : ℕ) → nat_eq e k ≡ false → (k == e) ≡ false
other k e h = ne_eqb k e (λ same. let yes = eq-eqb e k (sym same) in absurd cc)

-- an occurrence that isn't in the order never waits
none_later : (order : List ℕ) (done e : ℕ) → AllByRecursion (λ k. nat_eq e k ≡ false) order → is_waiting order done e ≡ false
none_later [] zero e h = refl
none_later [] (suc done) e h = refl
none_later (x ∷ order) zero e h = rw (other x e h.0, none_later order zero e h.1) refl
none_later (x ∷ order) (suc done) e h = none_later order done e h.1

-- those that wait are the occurrence whose turn it is and those after it
waits_here : (order : List ℕ) (done e k : ℕ) → slice_get order done ≡ Some e → is_waiting order done k ≡ ((e == k) || is_waiting order (suc done) k)
waits_here [] done e k here = absurd cc
waits_here (x ∷ order) zero e k here = let same : x ≡ e = cc in ap (λ y. (y == k) || is_waiting order zero k) same
waits_here (x ∷ order) (suc done) e k here = waits_here order done e k here

-- once its turn is over an occurrence no longer waits
over : (order : List ℕ) (done e : ℕ) → IsDistinct nat_eq order → slice_get order done ≡ Some e → is_waiting order (suc done) e ≡ false
over [] done e once here = absurd cc
over (x ∷ order) zero e once here = let same : x ≡ e = cc in subst (λ (y : ℕ). is_waiting order zero y ≡ false) same (none_later order zero x (IsDistinct-head nat_eq x order once))
over (x ∷ order) (suc done) e once here = over order done e (IsDistinct-tail nat_eq x order once) here

-- an occurrence that waits has its turn from then on
turn_from : (order : List ℕ) (done e : ℕ) → IsDistinct nat_eq order → is_waiting order done e ≡ true → HasTurnFrom order done e
turn_from [] done e once waits i here = absurd cc
turn_from (x ∷ order) zero e once waits i here = omega arith
turn_from (x ∷ order) (suc done) e once waits zero here =
    let same : x ≡ e = cc in
    let no : is_waiting order done e ≡ false = subst (λ (y : ℕ). is_waiting order done y ≡ false) same (none_later order done x (IsDistinct-head nat_eq x order once)) in
    absurd cc
turn_from (x ∷ order) (suc done) e once waits (suc i) here = let later = turn_from order done e (IsDistinct-tail nat_eq x order once) waits i here in omega (arith, later)

-- each open term has its turn from then on
pub terms_wait : (order : List ℕ) (done : ℕ) (entries : List (ℕ × Front)) → IsDistinct nat_eq order → AllByRecursion (λ (e : ℕ × Front). e.1.node.place.occurrences ≡ e.0) entries → AllByRecursion (IsTermFrom order done) (terms_of order done entries)
terms_wait order done [] once keys = tt
terms_wait order done (x ∷ entries) once keys = go (is_waiting order done x.0) refl (terms_wait order done entries once keys.1)
  where
    kept : List (ℕ × Front)
    kept = filter (λ (e : ℕ × Front). is_waiting order done e.0) entries

    open_terms : List (ℕ × Front) → List Open
    open_terms es = map (λ (e : ℕ × Front). open_term e.1) es

    go : (b : Bool) → is_waiting order done x.0 ≡ b → AllByRecursion (IsTermFrom order done) (open_terms kept) → AllByRecursion (IsTermFrom order done) (open_terms (cond b (x ∷ kept) kept))
    go true waits rest = (subst (HasTurnFrom order done) (sym keys.0) (turn_from order done x.0 once waits), rest)
    go false waits rest = rest

-- an occurrence that has its turn then is waiting
pub is_waiting_from : (order : List ℕ) (done e : ℕ) → Contains order e → HasTurnFrom order done e → is_waiting order done e ≡ true
is_waiting_from order done e there turn =
    let here : slice_get order there.0 ≡ Some e = slice_get_read order (length order) there.0 e refl there.1 (sym there.2) in
    let past : done ≤ there.0 = turn there.0 here in
    let back : done + (there.0 - done) ≡ there.0 = omega (arith, past) in
    let less : there.0 - done < length (drop done order) = omega (arith, past, there.1, length-drop done order) in
    let read : get_or (drop done order) (there.0 - done) e ≡ e = get_or-drop done order (there.0 - done) e ∙ ap (λ i. get_or order i e) back ∙ there.2 in
    list_any_at (λ k. k == e) (drop done order) (there.0 - done) e less (eq-eqb (get_or (drop done order) (there.0 - done) e) e read)

-- the open terms among those of two lists
pub terms_apart : (order : List ℕ) (done : ℕ) (xs ys : List (ℕ × Front)) → terms_of order done (xs ++ ys) ≡ terms_of order done xs ++ terms_of order done ys
terms_apart order done xs ys =
    let kept : ℕ × Front → Bool = λ (e : ℕ × Front). is_waiting order done e.0 in
    ap (map (λ (e : ℕ × Front). open_term e.1)) (filter-append kept xs ys) ∙ map-append (λ (e : ℕ × Front). open_term e.1) (filter kept xs) (filter kept ys)

-- a test that all pass keeps all
all_kept : {A : Type 0} → (p : A → Bool) (xs : List A) → AllByRecursion (λ x. p x ≡ true) xs → filter p xs ≡ xs
all_kept p [] h = refl
all_kept p (x ∷ xs) h = rw h.0 (ap (λ ys. x ∷ ys) (all_kept p xs h.1))

-- terms that are found later
pub found_more : (order : List ℕ) (done : ℕ) (entries more : List (ℕ × Front)) → AllByRecursion (λ (e : ℕ × Front). is_waiting order done e.0 ≡ true) more → terms_of order done (entries ++ more) ≡ terms_of order done entries ++ map (λ (e : ℕ × Front). open_term e.1) more
found_more order done entries more waiting =
    terms_apart order done entries more ∙ ap (λ es. terms_of order done entries ++ map (λ (e : ℕ × Front). open_term e.1) es) (all_kept (λ (e : ℕ × Front). is_waiting order done e.0) more waiting)

-- as the turn of an occurrence goes by at which no term was found, the same terms wait
same_kept : (order : List ℕ) (done e : ℕ) (entries : List (ℕ × Front)) → slice_get order done ≡ Some e → AllByRecursion (λ (x : ℕ × Front). (x.0 ≡ e) → ⊥) entries
    → filter (λ (x : ℕ × Front). is_waiting order (suc done) x.0) entries ≡ filter (λ (x : ℕ × Front). is_waiting order done x.0) entries
same_kept order done e [] here none = refl
same_kept order done e (x ∷ entries) here none =
    let differs : (e == x.0) ≡ false = ne_eqb e x.0 (λ same. none.0 (sym same)) in
    let same : is_waiting order done x.0 ≡ is_waiting order (suc done) x.0 = waits_here order done e x.0 here ∙ ap (λ b. b || is_waiting order (suc done) x.0) differs in
    ap₂ (λ b xs. cond b (x ∷ xs) xs) (sym same) (same_kept order done e entries here none.1)

-- the turn of an occurrence at which no term was found
pub none_found : (order : List ℕ) (done e : ℕ) (entries : List (ℕ × Front)) → slice_get order done ≡ Some e → AllByRecursion (λ (x : ℕ × Front). (x.0 ≡ e) → ⊥) entries → terms_of order (done + 1) entries ≡ terms_of order done entries
none_found order done e entries here none = ap (λ n. terms_of order n entries) (add-one done) ∙ ap (map (λ (x : ℕ × Front). open_term x.1)) (same_kept order done e entries here none)

-- a term that waits is open
pub first_waits : (order : List ℕ) (done e : ℕ) (f : Front) (rest : List (ℕ × Front)) → is_waiting order done e ≡ true → terms_of order done ((e, f) ∷ rest) ≡ open_term f ∷ terms_of order done rest
first_waits order done e f rest h = rw h refl

-- and one that doesn't wait isn't
first_left : (order : List ℕ) (done e : ℕ) (f : Front) (rest : List (ℕ × Front)) → is_waiting order done e ≡ false → terms_of order done ((e, f) ∷ rest) ≡ terms_of order done rest
first_left order done e f rest h = rw h refl

-- the turn of a term that was found: it is open, and then the others are
pub one_found : (order : List ℕ) (done e : ℕ) (before after : List (ℕ × Front)) (f : Front) → slice_get order done ≡ Some e → IsDistinct nat_eq order
    → AllByRecursion (λ (x : ℕ × Front). (x.0 ≡ e) → ⊥) before → AllByRecursion (λ (x : ℕ × Front). (x.0 ≡ e) → ⊥) after
    → (terms_of order done (before ++ (e, f) ∷ after) ≡ terms_of order (done + 1) before ++ open_term f ∷ terms_of order (done + 1) after)
    × (terms_of order (done + 1) (before ++ (e, f) ∷ after) ≡ terms_of order (done + 1) before ++ terms_of order (done + 1) after)
one_found order done e before after f here once none_before none_after =
    let waits : is_waiting order done e ≡ true = waits_here order done e e here ∙ ap (λ b. b || is_waiting order (suc done) e) (eq-eqb e e refl) in
    let gone : is_waiting order (done + 1) e ≡ false = ap (λ n. is_waiting order n e) (add-one done) ∙ over order done e once here in (
      terms_apart order done before ((e, f) ∷ after) ∙ ap (λ os. terms_of order done before ++ os) (first_waits order done e f after waits)
          ∙ ap₂ (λ os ps. os ++ open_term f ∷ ps) (sym (none_found order done e before here none_before)) (sym (none_found order done e after here none_after)),
      terms_apart order (done + 1) before ((e, f) ∷ after) ∙ ap (λ os. terms_of order (done + 1) before ++ os) (first_left order (done + 1) e f after gone),
    )

-- in the end none is open
pub none_left : (order : List ℕ) (done : ℕ) (entries : List (ℕ × Front)) → length order ≤ done → terms_of order done entries ≡ []
none_left order done [] past = refl
none_left order done (x ∷ entries) past =
    let none : is_waiting order done x.0 ≡ false = ap (list_any (λ k. k == x.0)) (drop_all done order past) in
    first_left order done x.0 x.1 entries none ∙ none_left order done entries past
