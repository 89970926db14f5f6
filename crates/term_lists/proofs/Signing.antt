-- The list of a signature has exactly the heads of the signature, each once.
use Rattle.std.proofs.Common.{ℕ, ◌+◌, ◌<◌, ◌≤◌, List, [], ◌∷◌, ◌++◌, Bool, true, false, cond, leb, not, flat_map, ◌≡◌, ◌↔◌, ◌⊎◌, inl, inr, refl, sym, ap, subst, ◌∙◌, map, Contains, arith}
use Rattle.std.specs.List.{list_any, range_with_len}
use Rattle.std.proofs.lemmas.Bool.{leb-true, le-leb}
use Rattle.std.proofs.lemmas.List.{map-append}
use Rattle.std.proofs.lemmas.List.Elements.{Contains-append_cases, Contains-append_left, Contains-append_right}
use Rattle.hol_terms.specs.Terms.{SimpleType, base_type, Term, Variable, Constant, negation, conjunction, disjunction, implication, truth, falsehood, forall, exists, truth_type}
use Rattle.hol_terms.specs.Computed.{same_variable}
use Rattle.hol_terms.specs.FreeVariables.{free_variables_of, first_occurrences, occurrences}
use Rattle.hol_terms.specs.Typing.{IsFormula}
use Rattle.hol_terms.proofs.Same.{same_variable_refl}
use Rattle.hol_conv.specs.NormalForms.{normal_form}
use Rattle.hol_conv.proofs.Normals.{has_normal_form, one_normal_form}
use Rattle.expansion_tree.specs.Budgets.{Head, variable_head, constant_head, types_in, IsFill, HasConstant, IsInSignature}
use Rattle.expansion_tree.specs.Standing.{IsNormalFormula}
use Rattle.term_lists.specs.Signatures.{fill_at, fill_variables, new_variables, connectives, quantifiers_at, first_types, constants_at, signature_list, AreDistinct}
use Rattle.term_lists.proofs.Members.{any-contains, contains-first, contains-cons, contains-cases, contains-none, contains-map, mapped-contains, contains-filter, filter-contains, contains-range, range-contains, Distinct, distinct-append, distinct-map, distinct-from_map, distinct-filter, distinct-range, distinct-places}
use Rattle.term_lists.proofs.TypeOrder.{distinct-first_types, first_types-contains, contains-first_types}
use Rattle.term_lists.proofs.Filling.{variable_from_any}

-- constants

constant_number : Constant → ℕ
constant_number negation = 0
constant_number conjunction = 1
constant_number disjunction = 2
constant_number implication = 3
constant_number truth = 4
constant_number falsehood = 5
constant_number (forall s) = 6
constant_number (exists s) = 6

distinct-connectives : Distinct connectives
unfolding constant_number
distinct-connectives = distinct-from_map constant_number connectives (distinct-range 0 6)

connective_number : (c : Constant) → Contains connectives c → constant_number c < 6
unfolding constant_number
connective_number c h = (range-contains 0 6 (constant_number c) (mapped-contains constant_number connectives c h)).1

no_quantifier : (s : SimpleType) → (Contains connectives (forall s) → ⊥) × (Contains connectives (exists s) → ⊥)
unfolding constant_number
no_quantifier s = (
  (λ h. let less : 6 < 6 = connective_number (forall s) h in absurd (omega arith)),
  (λ h. let less : 6 < 6 = connective_number (exists s) h in absurd (omega arith)),
)

quantifiers-contain : (types : List SimpleType) (c : Constant) → Contains (flat_map quantifiers_at types) c
    → (s : SimpleType) × Contains types s × ((c ≡ forall s) ⊎ (c ≡ exists s))
quantifiers-contain [] c h = absurd (contains-none c h)
quantifiers-contain (s ∷ types) c h =
    go (contains-cases (forall s) (exists s ∷ flat_map quantifiers_at types) c h) (quantifiers-contain types c)
  where
    go : (forall s ≡ c) ⊎ Contains (exists s ∷ flat_map quantifiers_at types) c
        → (Contains (flat_map quantifiers_at types) c → (r : SimpleType) × Contains types r × ((c ≡ forall r) ⊎ (c ≡ exists r)))
        → (r : SimpleType) × Contains (s ∷ types) r × ((c ≡ forall r) ⊎ (c ≡ exists r))
    go (inl e) rest = (s, contains-first s s types refl, inl (sym e))
    go (inr k) rest =
        elim (contains-cases (exists s) (flat_map quantifiers_at types) c k) as (λ _. (r : SimpleType) × Contains (s ∷ types) r × ((c ≡ forall r) ⊎ (c ≡ exists r))) [
          | inl e ↦ (s, contains-first s s types refl, inr (sym e))
          | inr there ↦ let r = rest there in (r.0, contains-cons s types r.0 r.1, r.2)
        ]

forall-contained : (types : List SimpleType) (s : SimpleType) → Contains types s → Contains (flat_map quantifiers_at types) (forall s)
forall-contained [] s h = absurd (contains-none s h)
forall-contained (r ∷ types) s h = go (contains-cases r types s h) (forall-contained types s)
  where
    go : (r ≡ s) ⊎ Contains types s → (Contains types s → Contains (flat_map quantifiers_at types) (forall s))
        → Contains (forall r ∷ exists r ∷ flat_map quantifiers_at types) (forall s)
    go (inl e) rest = contains-first (forall r) (forall s) (exists r ∷ flat_map quantifiers_at types) (ap forall e)
    go (inr there) rest =
        contains-cons (forall r) (exists r ∷ flat_map quantifiers_at types) (forall s) (contains-cons (exists r) (flat_map quantifiers_at types) (forall s) (rest there))

exists-contained : (types : List SimpleType) (s : SimpleType) → Contains types s → Contains (flat_map quantifiers_at types) (exists s)
exists-contained [] s h = absurd (contains-none s h)
exists-contained (r ∷ types) s h = go (contains-cases r types s h) (exists-contained types s)
  where
    go : (r ≡ s) ⊎ Contains types s → (Contains types s → Contains (flat_map quantifiers_at types) (exists s))
        → Contains (forall r ∷ exists r ∷ flat_map quantifiers_at types) (exists s)
    go (inl e) rest =
        contains-cons (forall r) (exists r ∷ flat_map quantifiers_at types) (exists s)
        (contains-first (exists r) (exists s) (flat_map quantifiers_at types) (ap exists e))
    go (inr there) rest =
        contains-cons (forall r) (exists r ∷ flat_map quantifiers_at types) (exists s) (contains-cons (exists r) (flat_map quantifiers_at types) (exists s) (rest there))

distinct-quantifiers : (types : List SimpleType) → Distinct types → Distinct (flat_map quantifiers_at types)
distinct-quantifiers [] h = tt
distinct-quantifiers (s ∷ types) h = (
  (λ c. elim (contains-cases (exists s) (flat_map quantifiers_at types) (forall s) c) [
    | inl e ↦ absurd (cc)
    | inr there ↦ h.0 (of_forall (quantifiers-contain types (forall s) there))
  ]),
  ((λ c. h.0 (of_exists (quantifiers-contain types (exists s) c))), distinct-quantifiers types h.1),
)
  where
    of_forall : (r : SimpleType) × Contains types r × ((forall s ≡ forall r) ⊎ (forall s ≡ exists r)) → Contains types s
    of_forall (r, there, inl e) = let same : r ≡ s = cc in subst (Contains types) same there
    of_forall (r, there, inr e) = absurd (cc)

    of_exists : (r : SimpleType) × Contains types r × ((exists s ≡ forall r) ⊎ (exists s ≡ exists r)) → Contains types s
    of_exists (r, there, inl e) = absurd (cc)
    of_exists (r, there, inr e) = let same : r ≡ s = cc in subst (Contains types) same there

chosen-contains : {X : Type 0} (b : Bool) (xs : List X) (x : X) → Contains (cond b xs []) x → (b ≡ true) × Contains xs x
chosen-contains true xs x h = (refl, h)
chosen-contains false xs x h = absurd (contains-none x h)

contains-chosen : {X : Type 0} (b : Bool) (xs : List X) (x : X) → b ≡ true → Contains xs x → Contains (cond b xs []) x
contains-chosen true xs x e h = h
contains-chosen false xs x e h = absurd (cc)

distinct-chosen : {X : Type 0} (b : Bool) (xs : List X) → Distinct xs → Distinct (cond b xs [])
distinct-chosen true xs h = h
distinct-chosen false xs h = tt

abbrev quantifiers : Term → List Constant
quantifiers n = flat_map quantifiers_at (first_types (types_in n))

distinct-constants : (level : ℕ) (n : Term) → Distinct (constants_at level n)
distinct-constants level n =
    distinct-append (cond (leb 1 level) connectives []) (cond (leb 2 level) (quantifiers n) [])
    (distinct-chosen (leb 1 level) connectives distinct-connectives)
    (distinct-chosen (leb 2 level) (quantifiers n) (distinct-quantifiers (first_types (types_in n)) (distinct-first_types (types_in n))))
    (λ c h k. apart c (chosen-contains (leb 1 level) connectives c h).1 (quantifiers-contain (first_types (types_in n)) c (chosen-contains (leb 2 level) (quantifiers n) c k).1))
  where
    apart : (c : Constant) → Contains connectives c → (s : SimpleType) × Contains (first_types (types_in n)) s × ((c ≡ forall s) ⊎ (c ≡ exists s)) → ⊥
    apart c h (s, there, inl e) = (no_quantifier s).0 (subst (Contains connectives) e h)
    apart c h (s, there, inr e) = (no_quantifier s).1 (subst (Contains connectives) e h)

of_connective : (level : ℕ) (n : Term) (c : Constant) → 1 ≤ level → Contains connectives c → HasConstant n level c
of_connective level n negation le h = le
of_connective level n conjunction le h = le
of_connective level n disjunction le h = le
of_connective level n implication le h = le
of_connective level n truth le h = le
of_connective level n falsehood le h = le
of_connective level n (forall s) le h = absurd ((no_quantifier s).0 h)
of_connective level n (exists s) le h = absurd ((no_quantifier s).1 h)

constants-contain : (level : ℕ) (n : Term) (c : Constant) → Contains (constants_at level n) c → HasConstant n level c
constants-contain level n c h =
    elim (Contains-append_cases (cond (leb 1 level) connectives []) (cond (leb 2 level) (quantifiers n) []) c h) as (λ _. HasConstant n level c) [
      | inl k ↦ let x = chosen-contains (leb 1 level) connectives c k in of_connective level n c (leb-true 1 level x.0) x.1
      | inr k ↦ let x = chosen-contains (leb 2 level) (quantifiers n) c k in of_quantifier (leb-true 2 level x.0) (quantifiers-contain (first_types (types_in n)) c x.1)
    ]
  where
    of_quantifier : 2 ≤ level → (s : SimpleType) × Contains (first_types (types_in n)) s × ((c ≡ forall s) ⊎ (c ≡ exists s)) → HasConstant n level c
    of_quantifier le (s, there, inl e) = subst (HasConstant n level) (sym e) (le, first_types-contains (types_in n) s there)
    of_quantifier le (s, there, inr e) = subst (HasConstant n level) (sym e) (le, first_types-contains (types_in n) s there)

connective-there : (level : ℕ) (n : Term) (c : Constant) → 1 ≤ level → Contains connectives c → Contains (constants_at level n) c
connective-there level n c le h =
    Contains-append_left (cond (leb 1 level) connectives []) (cond (leb 2 level) (quantifiers n) []) c
    (contains-chosen (leb 1 level) connectives c (le-leb 1 level le) h)

quantifier-there : (level : ℕ) (n : Term) (c : Constant) → 2 ≤ level → Contains (quantifiers n) c → Contains (constants_at level n) c
quantifier-there level n c le h =
    Contains-append_right (cond (leb 1 level) connectives []) (cond (leb 2 level) (quantifiers n) []) c
    (contains-chosen (leb 2 level) (quantifiers n) c (le-leb 2 level le) h)

contains-constants : (level : ℕ) (n : Term) (c : Constant) → HasConstant n level c → Contains (constants_at level n) c
contains-constants level n negation h = connective-there level n negation h (0, omega arith, refl)
contains-constants level n conjunction h = connective-there level n conjunction h (1, omega arith, refl)
contains-constants level n disjunction h = connective-there level n disjunction h (2, omega arith, refl)
contains-constants level n implication h = connective-there level n implication h (3, omega arith, refl)
contains-constants level n truth h = connective-there level n truth h (4, omega arith, refl)
contains-constants level n falsehood h = connective-there level n falsehood h (5, omega arith, refl)
contains-constants level n (forall s) h =
    quantifier-there level n (forall s) h.0 (forall-contained (first_types (types_in n)) s (contains-first_types (types_in n) s h.1))
contains-constants level n (exists s) h =
    quantifier-there level n (exists s) h.0 (exists-contained (first_types (types_in n)) s (contains-first_types (types_in n) s h.1))

-- variables

not_itself : (v : Variable) → not (same_variable v v) ≡ true → ⊥
not_itself v e = let yes = same_variable_refl v in absurd (cc)

distinct-first_occurrences : (xs : List Variable) → Distinct (first_occurrences xs)
distinct-first_occurrences [] = tt
distinct-first_occurrences (x ∷ xs) = (
  (λ c. not_itself x (filter-contains (λ w. not (same_variable x w)) (first_occurrences xs) x c).1),
  distinct-filter (λ w. not (same_variable x w)) (first_occurrences xs) (distinct-first_occurrences xs),
)

distinct-fills : Distinct fill_variables
distinct-fills = distinct-map fill_at (range_with_len 65 26) (λ l m e. letter_same l m (ap (λ (v : Variable). v.1) e)) (distinct-range 65 26)
  where
    letter_same : (l m : ℕ) → base_type l ≡ base_type m → l ≡ m
    letter_same l m e = cc

distinct-variables : (formula : Term) → Distinct (free_variables_of formula ++ new_variables (free_variables_of formula) fill_variables)
distinct-variables formula =
    let variables = free_variables_of formula in
    let is_new : Variable → Bool = λ v. not (list_any (same_variable v) variables) in
    distinct-append variables (new_variables variables fill_variables) (distinct-first_occurrences (occurrences formula))
    (distinct-filter is_new fill_variables distinct-fills)
    (λ v h k. not_new v (any-contains same_variable same_variable_refl v variables h) (filter-contains is_new fill_variables v k).1)
  where
    not_new : (v : Variable) → list_any (same_variable v) (free_variables_of formula) ≡ true
        → not (list_any (same_variable v) (free_variables_of formula)) ≡ true → ⊥
    not_new v e f = absurd (cc)

fills-contain : (v : Variable) → Contains fill_variables v → IsFill v
fills-contain v h =
    let m = contains-map fill_at (range_with_len 65 26) v h in
    let r = range-contains 65 26 m.0 m.1 in
    let high : m.0 < 65 + 26 = r.1 in
    (m.0, r.0, omega arith, m.2)

contains-fills : (v : Variable) → IsFill v → Contains fill_variables v
contains-fills v (l, low, high, e) =
    subst (Contains fill_variables) (sym e) (mapped-contains fill_at (range_with_len 65 26) l (contains-range 65 26 l low (omega arith)))

variables-contain : (formula : Term) (v : Variable) → Contains (free_variables_of formula ++ new_variables (free_variables_of formula) fill_variables) v
    → Contains (free_variables_of formula) v ⊎ IsFill v
variables-contain formula v h =
    let variables = free_variables_of formula in
    elim (Contains-append_cases variables (new_variables variables fill_variables) v h) as (λ _. Contains variables v ⊎ IsFill v) [
      | inl k ↦ inl k
      | inr k ↦ inr (fills-contain v (filter-contains (λ w. not (list_any (same_variable w) variables)) fill_variables v k).0)
    ]

contains-variables : (formula : Term) (v : Variable) → Contains (free_variables_of formula) v ⊎ IsFill v
    → Contains (free_variables_of formula ++ new_variables (free_variables_of formula) fill_variables) v
contains-variables formula v (inl h) =
    Contains-append_left (free_variables_of formula) (new_variables (free_variables_of formula) fill_variables) v h
contains-variables formula v (inr h) = go (list_any (same_variable v) (free_variables_of formula)) refl
  where
    go : (b : Bool) → list_any (same_variable v) (free_variables_of formula) ≡ b
        → Contains (free_variables_of formula ++ new_variables (free_variables_of formula) fill_variables) v
    go true e =
        Contains-append_left (free_variables_of formula) (new_variables (free_variables_of formula) fill_variables) v
        (variable_from_any v (free_variables_of formula) e)
    go false e =
        Contains-append_right (free_variables_of formula) (new_variables (free_variables_of formula) fill_variables) v
        (contains-filter (λ w. not (list_any (same_variable w) (free_variables_of formula))) fill_variables v (contains-fills v h) (ap not e))

-- the whole list

distinct-list : (formula n : Term) (level : ℕ) → Distinct (signature_list formula n level)
distinct-list formula n level =
    let variables = free_variables_of formula ++ new_variables (free_variables_of formula) fill_variables in
    distinct-append (map variable_head variables) (map constant_head (constants_at level n))
    (distinct-map variable_head variables (λ v w e. variable_same v w e) (distinct-variables formula))
    (distinct-map constant_head (constants_at level n) (λ c d e. constant_same c d e) (distinct-constants level n))
    (λ h in_variables in_constants. apart h (contains-map variable_head variables h in_variables) (contains-map constant_head (constants_at level n) h in_constants))
  where
    variable_same : (v w : Variable) → variable_head v ≡ variable_head w → v ≡ w
    variable_same v w e = cc

    constant_same : (c d : Constant) → constant_head c ≡ constant_head d → c ≡ d
    constant_same c d e = cc

    apart : (h : Head) → (v : Variable) × Contains (free_variables_of formula ++ new_variables (free_variables_of formula) fill_variables) v × (h ≡ variable_head v)
        → (c : Constant) × Contains (constants_at level n) c × (h ≡ constant_head c) → ⊥
    apart h (v, i, e) (c, j, f) = absurd (cc)

pub signature-once : (formula n : Term) (level : ℕ) → AreDistinct (signature_list formula n level)
signature-once formula n level = distinct-places (signature_list formula n level) (distinct-list formula n level)

list-variable : (formula n : Term) (level : ℕ) (v : Variable) → Contains (signature_list formula n level) (variable_head v)
    → Contains (free_variables_of formula) v ⊎ IsFill v
list-variable formula n level v h =
    let variables = free_variables_of formula ++ new_variables (free_variables_of formula) fill_variables in
    elim (Contains-append_cases (map variable_head variables) (map constant_head (constants_at level n)) (variable_head v) h) as (λ _. Contains (free_variables_of formula) v ⊎ IsFill v) [
      | inl k ↦ here (contains-map variable_head variables (variable_head v) k)
      | inr k ↦ other (contains-map constant_head (constants_at level n) (variable_head v) k)
    ]
  where
    here : (w : Variable) × Contains (free_variables_of formula ++ new_variables (free_variables_of formula) fill_variables) w × (variable_head v ≡ variable_head w)
        → Contains (free_variables_of formula) v ⊎ IsFill v
    here (w, k, e) =
        let same : w ≡ v = cc in
        variables-contain formula v (subst (Contains (free_variables_of formula ++ new_variables (free_variables_of formula) fill_variables)) same k)

    other : (c : Constant) × Contains (constants_at level n) c × (variable_head v ≡ constant_head c) → Contains (free_variables_of formula) v ⊎ IsFill v
    other (c, k, e) = absurd (cc)

list-constant : (formula n : Term) (level : ℕ) (c : Constant) → Contains (signature_list formula n level) (constant_head c) → HasConstant n level c
list-constant formula n level c h =
    let variables = free_variables_of formula ++ new_variables (free_variables_of formula) fill_variables in
    elim (Contains-append_cases (map variable_head variables) (map constant_head (constants_at level n)) (constant_head c) h) as (λ _. HasConstant n level c) [
      | inl k ↦ other (contains-map variable_head variables (constant_head c) k)
      | inr k ↦ here (contains-map constant_head (constants_at level n) (constant_head c) k)
    ]
  where
    other : (w : Variable) × Contains (free_variables_of formula ++ new_variables (free_variables_of formula) fill_variables) w × (constant_head c ≡ variable_head w)
        → HasConstant n level c
    other (w, k, e) = absurd (cc)

    here : (d : Constant) × Contains (constants_at level n) d × (constant_head c ≡ constant_head d) → HasConstant n level c
    here (d, k, e) = let same : d ≡ c = cc in constants-contain level n c (subst (Contains (constants_at level n)) same k)

members : (formula n : Term) (level : ℕ) (h : Head) → IsNormalFormula n formula → Contains (signature_list formula n level) h ↔ IsInSignature formula level h
members formula n level (variable_head v) normal = (
  list-variable formula n level v,
  (λ x. Contains-append_left (map variable_head (free_variables_of formula ++ new_variables (free_variables_of formula) fill_variables)) (map constant_head (constants_at level n))
      (variable_head v) (mapped-contains variable_head (free_variables_of formula ++ new_variables (free_variables_of formula) fill_variables) v (contains-variables formula v x))),
)
members formula n level (constant_head c) normal = (
  (λ x. (n, normal, list-constant formula n level c x)),
  (λ x. Contains-append_right (map variable_head (free_variables_of formula ++ new_variables (free_variables_of formula) fill_variables)) (map constant_head (constants_at level n))
      (constant_head c) (mapped-contains constant_head (constants_at level n) c
      (contains-constants level n c (subst (λ (m : Term). HasConstant m level c) (one_normal_form [] formula x.0 n truth_type x.1 normal) x.2)))),
)

-- what a list that is made by the computed normal form is

pub signature-listed : (formula : Term) (level : ℕ) (heads : List Head) → IsFormula formula → heads ≡ signature_list formula (normal_form [] formula) level
    → (n : Term) → IsNormalFormula n formula → heads ≡ signature_list formula n level
signature-listed formula level heads typed e n normal =
    e ∙ ap (λ (m : Term). signature_list formula m level) (one_normal_form [] formula (normal_form [] formula) n truth_type (has_normal_form [] formula truth_type typed) normal)

pub signature-members : (formula : Term) (level : ℕ) (heads : List Head) → IsFormula formula → heads ≡ signature_list formula (normal_form [] formula) level
    → (h : Head) → Contains heads h ↔ IsInSignature formula level h
signature-members formula level heads typed e h =
    subst (λ (l : List Head). Contains l h ↔ IsInSignature formula level h) (sym e)
    (members formula (normal_form [] formula) level h (has_normal_form [] formula truth_type typed))

pub signature-distinct : (formula : Term) (level : ℕ) (heads : List Head) → heads ≡ signature_list formula (normal_form [] formula) level → AreDistinct heads
signature-distinct formula level heads e = subst AreDistinct (sym e) (signature-once formula (normal_form [] formula) level)

pub collected : (formula : Term) (level : ℕ) (none variables fills all : List Head) → none ≡ [] → variables ≡ none ++ map variable_head (free_variables_of formula)
    → fills ≡ variables ++ map variable_head (new_variables (free_variables_of formula) fill_variables)
    → all ≡ fills ++ map constant_head (constants_at level (normal_form [] formula)) → all ≡ signature_list formula (normal_form [] formula) level
collected formula level none variables fills all e f g h =
    let free : List Variable = free_variables_of formula in
    let new : List Variable = new_variables free fill_variables in
    let constants : List Head = map constant_head (constants_at level (normal_form [] formula)) in
    let first : variables ≡ map variable_head free = f ∙ ap (λ (l : List Head). l ++ map variable_head free) e in
    let second : fills ≡ map variable_head (free ++ new) = g ∙ ap (λ (l : List Head). l ++ map variable_head new) first ∙ sym (map-append variable_head free new) in
    h ∙ ap (λ (l : List Head). l ++ constants) second
